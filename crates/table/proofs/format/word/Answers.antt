-- `table::format::word` meets its contract. Assumes nothing.
use borrow.Author.Tests.{le-ltb}
use Rattle.table.specs.Format.{word}
use Rattle.table.proofs.format.word.Goals as goal

pub returns-else-i-layout : goal.returns-else-i-layout
unfolding word
returns-else-i-layout c = simp (le-ltb _ _ c.if-i-layout.false)
