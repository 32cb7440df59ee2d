-- `table::cycle::released` meets its contract. The loop's invariant is `Reached` of specs/Release.antt, with the lengths of the arrays. The measure is what is left of the queue's array. Assumes nothing.
use Prim.Native.Nat.{◌-◌, ◌≤◌}
use Rattle.table.specs.Format.{theory_in}
use Rattle.table.specs.Release.{Reached}
use Rattle.table.proofs.cycle.released.Given as goal

abbrev pub invariant-loop-next : goal.invariant-loop-next
invariant-loop-next l = (l.next ≤ l.end) × (l.end ≤ 1024) × Reached (theory_in l.layout.bytes.now l.layout.sizes) l.next l.end l.degree l.queue

abbrev pub decreases-loop-next : goal.decreases-loop-next
decreases-loop-next l = 1024 - l.next
