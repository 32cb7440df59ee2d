-- `parts::list::parts` meets its contract. Assumes nothing.
use Rattle.parts.proofs.Calling.{listed_by}
use Rattle.parts.proofs.list.parts.Goals as goal

pub returns : goal.returns
returns c =
    let args = c.args in
    listed_by args.edition args.table.now args.list.now _ _ c.list_layout.result c.in_ok-accepted.ensures.0 c.in_ok-accepted.ensures.1 c.list_layout.ensures
