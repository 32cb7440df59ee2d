-- `Outside::find` meets its contract. The loop's invariant: the rules were told of the first `next` literals of the list. The measure is what is left of the list's array. Assumes nothing.
use Prim.Native.Nat.{◌-◌, ◌≤◌}
use lib.ListN.{take}
use Rattle.table.specs.Tables.{theory_said}
use Rattle.memory.specs.Founding.{held_in}
use Rattle.searching.specs.Leaving.{Reached, told_of}
use Rattle.searching.proofs.outside.Outside.find.Given as goal

abbrev pub invariant-loop-next : goal.invariant-loop-next
invariant-loop-next l = (l.next ≤ l.self.end) × Reached (theory_said l.table) (held_in l.mem) l.i l.table.sizes.rules (told_of (take l.next l.self.list)) l.self.lost l.self.gone l.self.list l.self.end

abbrev pub decreases-loop-next : goal.decreases-loop-next
decreases-loop-next l = 1024 - l.next
