-- `parts::part::part` meets its contract. Assumes nothing.
use Rattle.parts.proofs.Calling.{parted_by}
use Rattle.parts.proofs.part.part.Goals as goal

pub returns : goal.returns
returns c =
    let args = c.args in
    parted_by args.edition args.table.now args.atom args.out.now _ _ c.part_layout.result c.in_ok-accepted.ensures.0 c.in_ok-accepted.ensures.1 c.part_layout.ensures
