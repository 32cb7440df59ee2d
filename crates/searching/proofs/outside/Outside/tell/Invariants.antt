-- `Outside::tell` meets its contract. The loop's invariant is `Telling` of specs/Leaving.antt: the uses below the `k`-th are told. Assumes nothing.
use Prim.Native.Nat.{◌-◌}
use Rattle.table.specs.Tables.{theory_said}
use Rattle.memory.specs.Founding.{held_in}
use Rattle.searching.specs.Leaving.{Telling}
use Rattle.searching.proofs.outside.Outside.tell.Given as goal

abbrev pub invariant-loop-k : goal.invariant-loop-k
invariant-loop-k l = Telling (theory_said l.search.table) (held_in l.search.mem.now) l.search.i l.initial.self.list l.next l.self.lost l.self.gone l.self.list l.self.end (l.k - l.uses.first)
