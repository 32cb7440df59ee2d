-- `table::format::both_words` meets its contract. Assumes nothing.
use mathlib.Core.Path.{sym, ◌∙◌}
use Rattle.table.proofs.Legal.{left_in_lem, right_in_lem}
use Rattle.table.proofs.Reading.{left_read, right_read}
use Rattle.table.proofs.format.both_words.Goals as goal

pub returns-then-span-layout : goal.returns-then-span-layout
returns-then-span-layout c =
    let args = c.args in (
      c.words_within.ensures.0 ∙ sym (left_in_lem args.layout.now args.from args.n args.i c.if-i-n.true),
      c.words_within.ensures.1 ∙ sym (right_in_lem args.layout.now args.s args.from args.n args.i c.if-i-n.true),
    )

pub returns : goal.returns
returns c = (left_read _ _ _ _ c.section_word-left.ensures, right_read _ _ _ _ _ _ c.span-span.ensures c.section_word-right.ensures)
