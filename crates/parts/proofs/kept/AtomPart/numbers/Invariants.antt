-- `parts::kept::AtomPart::numbers` meets its contract. The loop's invariant: the rules passed are numbered. Assumes nothing.
use mathlib.Core.Path.{◌≡◌}
use lib.ListN.{length}
use Rattle.parts.proofs.Rows.{NumberedTo}
use Rattle.parts.proofs.kept.AtomPart.numbers.Given as goal

abbrev pub invariant-loop-rule : goal.invariant-loop-rule
invariant-loop-rule l = record { size : length l.numbers ≡ 1024; done : NumberedTo l.self.table.layout.now l.self.table.sizes l.self.atom l.rule l.numbers l.n }
