-- `report::support::supported_by` meets its contract. The loop's invariant: what the rules passed say of each literal.
use Rattle.logic.specs.Tests.{some}
use Rattle.table.specs.Format.{theory_in}
use Rattle.standing.specs.Marks.{MarkedBy}
use Rattle.report.specs.Printing.{live_supporter}
use Rattle.report.proofs.Supporters.{stands}
use Rattle.report.proofs.support.supported_by.Given as goal

abbrev pub invariant-loop-r : goal.invariant-loop-r
invariant-loop-r l = MarkedBy (λ q. some l.r (live_supporter (theory_in l.table.layout.now l.table.sizes) (stands l.lacking l.refuted) q)) 1024 l.supported
