-- `table::cycle::count_stronger` meets its contract. The loop's invariant: the counts are those of the pairs passed. Assumes nothing.
use Prim.Native.Nat.{◌≤◌, ◌<◌}
use native.Mathlib.Omega.{arith}
use lib.ListN.{length, length-set}
use Rattle.table.specs.Format.{theory_in}
use Rattle.table.proofs.Arrays.{tally_all, tally_none, tally_most, tally_next}
use Rattle.table.proofs.Pairs.{weak_read, weak_small}
use Rattle.table.proofs.cycle.count_stronger.Goals as goal

pub loop-i-init : goal.loop-i-init
loop-i-init c = tally_none _ _ c.requires.1

pub bounds-degree-p : goal.bounds-degree-p
bounds-degree-p c =
    let small : c.pair-p.result.weaker < 1024 = weak_small _ _ c.requires.0 _ _ (omega arith) c.pair-p.ensures in
    omega (arith, small)

pub overflow_add-degree : goal.overflow_add-degree
unfolding theory_in
overflow_add-degree c =
    let small : c.pair-p.result.weaker < 1024 = weak_small _ _ c.requires.0 _ _ (omega arith) c.pair-p.ensures in
    let h : lib.ListN.get_or c.loop-i.degree c.pair-p.result.weaker 0 ≤ c.loop-i.i = tally_most _ _ _ _ c.loop-i.invariant
    (small) in omega (arith, c.requires.0.few)

pub bounds-degree-p-in-loop-i : goal.bounds-degree-p-in-loop-i
bounds-degree-p-in-loop-i c =
    let small : c.pair-p.result.weaker < 1024 = weak_small _ _ c.requires.0 _ _ (omega arith) c.pair-p.ensures in
    omega (arith, small)

pub loop-i-preserved : goal.loop-i-preserved
unfolding theory_in
loop-i-preserved c =
    let small : c.pair-p.result.weaker < 1024 = weak_small _ _ c.requires.0 _ _ (omega arith) c.pair-p.ensures in
    tally_next _ _ _ _ (weak_read _ _ _ _ c.pair-p.ensures) (omega (arith, small)) c.loop-i.invariant

pub returns : goal.returns
returns c = (tally_all _ _ _ _ (omega arith) (omega arith) c.loop-i.invariant).at
