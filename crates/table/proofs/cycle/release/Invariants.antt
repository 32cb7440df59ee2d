-- `table::cycle::release` meets its contract. The loop's invariant is `Removing` of proofs/Arrays.antt: the pairs removed are those of the rules taken up before, and this rule's own below `i`. Assumes nothing.
use Prim.Native.Nat.{◌≤◌}
use lib.ListN.{get_or}
use Rattle.table.specs.Format.{theory_in}
use Rattle.table.proofs.Arrays.{Removing}
use Rattle.table.proofs.cycle.release.Given as goal

abbrev pub invariant-loop-i : goal.invariant-loop-i
invariant-loop-i l = (get_or l.first (get_or l.initial.queue l.next 0) 0 ≤ l.i) × Removing (theory_in l.layout.bytes.now l.layout.sizes) l.initial.queue l.next l.degree l.queue l.last l.i
