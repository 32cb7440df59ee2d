-- `report::support::supported_of` meets its contract.
use Rattle.table.proofs.Legal.{limited}
use Rattle.report.proofs.Supporters.{supported_stood}
use Rattle.report.proofs.support.supported_of.Goals as goal

pub returns : goal.returns
returns c =
    let table = c.args.table in
    supported_stood table.layout.now table.sizes c.args.marks.now (limited table.sizes table.legal.limits).rules c.standings_of-standings.ensures
    c.supported_by.ensures
