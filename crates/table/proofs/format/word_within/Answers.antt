-- `table::format::word_within` meets its contract. Assumes nothing.
use Rattle.std.proofs.Common.{arith}
use Rattle.std.proofs.lemmas.Grind.{common_steps}
use borrow.Author.Tests.{lt-ltb}
use Rattle.table.specs.Format.{word}
use Rattle.table.proofs.Reading.{half_below}
use Rattle.table.proofs.format.word_within.Goals as goal

pub returns : goal.returns
unfolding word
returns c = simp (lt-ltb _ _ (half_below c.requires)) (grind (arith, common_steps))
