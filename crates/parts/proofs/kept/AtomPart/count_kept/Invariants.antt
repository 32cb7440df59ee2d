-- `parts::kept::AtomPart::count_kept` meets its contract. The loop's invariant: the rows passed are counted. Assumes nothing.
use mathlib.Core.Path.{◌≡◌}
use Rattle.logic.specs.Tests.{count_below}
use Rattle.parts.specs.Kept.{content_said, kept_in}
use Rattle.parts.proofs.kept.AtomPart.count_kept.Given as goal

abbrev pub invariant-loop-i : goal.invariant-loop-i
invariant-loop-i l = l.n ≡ count_below l.i (kept_in (content_said l.self.table) l.self.atom l.section)
