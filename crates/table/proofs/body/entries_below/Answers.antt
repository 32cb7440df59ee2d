-- `table::body::entries_below` meets its contract. The loop's invariant: the entries passed are counted. Assumes nothing.
use mathlib.Core.Path.{refl}
use Rattle.logic.specs.Tests.{total}
use Rattle.logic.proofs.Pigeon.{counted_le, counted_next, counted_all}
use native.Mathlib.Omega.{arith}
use mathlib.Core.Path.{ap}
use lib.Dec.{ltb}
use Rattle.table.specs.Bodies.{entries_below}
use Rattle.table.proofs.body.entries_below.Goals as goal

pub loop-i-init : goal.loop-i-init
unfolding total
loop-i-init c = refl

pub add_if-n-requires : goal.add_if-n-requires
add_if-n-requires c = omega (arith, counted_le _ _ c.loop-i.invariant)

pub loop-i-preserved : goal.loop-i-preserved
loop-i-preserved c =
    counted_next _ _ c.loop-i.invariant c.add_if-n.ensures (ap (λ e. ltb e.rule c.args.r) c.entry-e.ensures)

pub returns : goal.returns
unfolding entries_below
returns c = counted_all _ _ _ c.loop-i.invariant (omega arith) (omega arith)
