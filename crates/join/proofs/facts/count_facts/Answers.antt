-- `join::facts::count_facts` meets its contract. The loop's invariant: the facts passed are counted. Assumes nothing.
use native.Mathlib.Omega.{arith}
use mathlib.Core.Path.{refl}
use Rattle.logic.specs.Tests.{total}
use Rattle.logic.proofs.Pigeon.{counted_le, counted_next, counted_all}
use Rattle.table.proofs.Legal.{limited}
use Rattle.join.proofs.facts.count_facts.Goals as goal

pub overflow_mul-q-end : goal.overflow_mul-q-end
overflow_mul-q-end c = record { fits = omega (arith, (limited _ c.args.both.house.legal.limits).atoms) }

pub loop-q-init : goal.loop-q-init
unfolding total
loop-q-init c = refl

pub add_if-count-requires : goal.add_if-count-requires
add_if-count-requires c =
    omega (arith, counted_le _ _ c.loop-q.invariant, c.loop-q-test.true, (limited _ c.args.both.house.legal.limits).atoms)

pub loop-q-preserved : goal.loop-q-preserved
loop-q-preserved c =
    counted_next _ _ c.loop-q.invariant c.add_if-count.ensures c.in_either.ensures

pub returns : goal.returns
returns c = counted_all _ _ _ c.loop-q.invariant (omega arith) (omega arith)
