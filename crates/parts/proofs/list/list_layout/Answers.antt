-- `parts::list::list_layout` meets its contract. Assumes nothing.
use native.Mathlib.Omega.{arith}
use Rattle.table.proofs.Legal.{limited}
use Rattle.parts.proofs.Calling.{list_whole}
use Rattle.parts.proofs.list.list_layout.Goals as goal

pub copy_words-requires : goal.copy_words-requires
copy_words-requires c =
    (omega (arith, c.parts_of-words.ensures.size, c.from-n.ensures, (limited _ c.args.table.legal.limits).atoms), c.if-list-n.false)

pub returns : goal.returns
returns c =
    let args = c.args in
    list_whole args.table.layout.now args.table.sizes args.list.now _ args.table.legal c.parts_of-words.ensures c.from-n.ensures c.if-list-n.false c.copy_words.ensures
