-- `standing::stands::standing_by` meets its contract. The loop's invariant: what the entries passed say. Assumes nothing.
use mathlib.Core.Path.{◌≡◌}
use Rattle.logic.specs.Tests.{some}
use Rattle.standing.proofs.Bodies.{lacks, refutes}
use Rattle.standing.proofs.stands.standing_by.Given as goal

abbrev pub invariant-loop-i : goal.invariant-loop-i
invariant-loop-i l = record {
  plus : l.lacking ≡ some l.i (lacks l.table.layout.now l.table.sizes l.rule l.marks);
  minus : l.refuted ≡ some l.i (refutes l.table.layout.now l.table.sizes l.rule l.marks);
}
