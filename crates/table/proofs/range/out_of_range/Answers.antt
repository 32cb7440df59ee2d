-- `table::range::out_of_range` meets its contract. Assumes nothing.
use Rattle.table.specs.Refusals.{out_of_range}
use Rattle.table.proofs.Joined.{ored}
use Rattle.table.proofs.Reading.{right_scan}
use native.Mathlib.Omega.{arith}
use Rattle.table.proofs.Legal.{limited}
use Rattle.table.proofs.range.out_of_range.Goals as goal

pub overflow_mul-literals : goal.overflow_mul-literals
overflow_mul-literals c = record { fits = omega (arith, (limited _ c.args.layout.small).atoms) }

pub returns : goal.returns
unfolding out_of_range
returns c =
    ored c.either-5.ensures
    (ored c.either-3.ensures (ored c.either.ensures (right_scan _ _ _ _ _ _ _ c.span-right.ensures c.any_at_least-facts.ensures) (right_scan _ _ _ _ _ _ _ c.span-right.ensures c.any_at_least-heads.ensures)) (ored c.either-2.ensures c.any_at_least-users.ensures (right_scan _ _ _ _ _ _ _ c.span-right.ensures c.any_at_least-bodies.ensures)))
    (ored c.either-4.ensures c.any_at_least-stronger.ensures (right_scan _ _ _ _ _ _ _ c.span-right.ensures c.any_at_least-weaker.ensures))
