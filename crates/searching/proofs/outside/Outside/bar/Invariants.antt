-- `Outside::bar` meets its contract. The loop's invariant: the barred literals below `q` left. Assumes nothing.
use mathlib.Core.Path.{◌≡◌}
use Rattle.table.specs.Tables.{theory_said}
use Rattle.memory.specs.Founding.{held_in}
use Rattle.searching.specs.Leaving.{Barring}
use Rattle.searching.proofs.outside.Outside.bar.Given as goal

abbrev pub invariant-loop-q : goal.invariant-loop-q
invariant-loop-q l = record {
  barring : Barring (theory_said l.search.table) (held_in l.search.mem.now) l.search.i l.self.gone l.self.list l.self.end l.q;
  lost : l.self.lost ≡ l.initial.self.lost;
}
