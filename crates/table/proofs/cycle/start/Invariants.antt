-- `table::cycle::start` meets its contract. The loop's invariant: the queue holds, once each, the rules passed that wait for nothing. Assumes nothing.
use Prim.Native.Nat.{◌≤◌}
use lib.ListN.{take}
use Rattle.table.specs.Release.{Zeros}
use Rattle.table.proofs.cycle.start.Given as goal

abbrev pub invariant-loop-r : goal.invariant-loop-r
invariant-loop-r l = (l.end ≤ l.r) × Zeros l.r l.degree (take l.end l.queue)
