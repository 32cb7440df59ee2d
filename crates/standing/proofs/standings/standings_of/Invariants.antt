-- `standing::standings::standings_of` meets its contract. The loop's invariant: what the entries passed say of each rule. Assumes nothing.
use Rattle.logic.specs.Tests.{some}
use Rattle.standing.specs.Marks.{MarkedBy}
use Rattle.standing.proofs.Bodies.{lacks, refutes}
use Rattle.standing.proofs.standings.standings_of.Given as goal

abbrev pub invariant-loop-i : goal.invariant-loop-i
invariant-loop-i l = record {
  plus : MarkedBy (λ r. some l.i (lacks l.layout l.s r l.marks)) 1024 l.lacking;
  minus : MarkedBy (λ r. some l.i (refutes l.layout l.s r l.marks)) 1024 l.refuted;
}
