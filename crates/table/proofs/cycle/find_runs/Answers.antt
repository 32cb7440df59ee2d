-- `table::cycle::find_runs` meets its contract. The loop's invariant: of the pairs from the i-th on, the first of each stronger rule is known. Assumes nothing.
use Prim.Native.Nat.{◌-◌, ◌<◌}
use native.Mathlib.Omega.{arith}
use Rattle.table.specs.Format.{theory_in}
use Rattle.table.proofs.Arrays.{runs_none, runs_next, runs_all}
use Rattle.table.proofs.Pairs.{strong_read, strong_small}
use Rattle.table.proofs.cycle.find_runs.Goals as goal

pub loop-i-init : goal.loop-i-init
unfolding theory_in
loop-i-init c = runs_none (theory_in c.args.layout.bytes.now c.args.layout.sizes) _ _ (omega arith)

pub bounds-first-p : goal.bounds-first-p
bounds-first-p c =
    let small : c.pair-p.result.stronger < 1024 = strong_small _ _ c.requires (c.loop-i.i - 1) _ (omega arith) c.pair-p.ensures in
    omega (arith, small)

pub loop-i-preserved : goal.loop-i-preserved
loop-i-preserved c =
    let small : c.pair-p.result.stronger < 1024 = strong_small _ _ c.requires (c.loop-i.i - 1) _ (omega arith) c.pair-p.ensures in
    runs_next _ _ _ _ (omega arith) (strong_read _ _ _ _ c.pair-p.ensures) (omega (arith, small)) c.loop-i.invariant

pub returns : goal.returns
returns c = runs_all _ _ _ (omega arith) c.loop-i.invariant
