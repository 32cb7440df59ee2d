-- `join::facts::facts_of` meets its contract. The loop's invariant: the facts passed are marked. Assumes nothing.
use lib.Dec.{eqb}
use Rattle.logic.specs.Tests.{some}
use Rattle.table.specs.Format.{fact_at}
use Rattle.standing.specs.Marks.{MarkedBy}
use Rattle.join.proofs.facts.facts_of.Given as goal

abbrev pub invariant-loop-i : goal.invariant-loop-i
invariant-loop-i l = MarkedBy (λ q. some l.i (λ k. eqb (fact_at l.table.layout.now l.table.sizes k).0 q)) 1024 l.marks
