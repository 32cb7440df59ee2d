-- `table::cycle::start` meets its contract. The loop's invariant: the queue holds, once each, the rules passed that wait for nothing. Assumes nothing.
use native.Mathlib.Omega.{arith}
use Rattle.table.proofs.Arrays.{zeros_all, zeros_none, zeros_next}
use Rattle.table.proofs.cycle.start.Goals as goal

pub loop-r-init : goal.loop-r-init
loop-r-init c = (omega arith, zeros_none _ c.args.queue.now)

pub loop-r-preserved : goal.loop-r-preserved
loop-r-preserved c =
    (omega arith, zeros_next _ _ _ _ _ _ c.loop-r.invariant.1 c.push_if-end.ensures)

pub returns : goal.returns
returns c = (omega arith, zeros_all _ _ _ _ (omega arith) (omega arith) c.loop-r.invariant.1)
