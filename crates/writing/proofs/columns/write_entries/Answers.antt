-- `writing::columns::write_entries` meets its contract. The loop's invariant: the column of the entries passed is written. Assumes nothing.
use native.Mathlib.Omega.{arith}
use mathlib.Core.Path.{◌∙◌, ap}
use Rattle.table.specs.Format.{entry_at}
use Rattle.table.proofs.Legal.{ranged, rule_below}
use Rattle.files.specs.Contents.{later_entry, entry_row}
use Rattle.writing.specs.Columns.{word_in}
use Rattle.writing.proofs.Appending.{column_none, column_next, number_fits}
use Rattle.writing.proofs.columns.write_entries.Goals as goal

pub loop-i-init : goal.loop-i-init
loop-i-init c =
    let args = c.args in
    column_none args.side (λ i. entry_row (later_entry args.first (entry_at args.table.layout.now args.table.sizes i))) args.out.now args.at

pub overflow_add-first : goal.overflow_add-first
overflow_add-first c =
    let l = c.args.table.legal in
    record {
      fits =
          number_fits _ _ _ l c.requires.1 (rule_below _ _ (ranged _ _ l.ranges) c.loop-i.i (omega arith))
          (ap (λ x. x.rule) c.entry-entry.ensures);
    }

pub loop-i-preserved : goal.loop-i-preserved
loop-i-preserved c =
    let args = c.args in
    column_next args.side (λ i. entry_row (later_entry args.first (entry_at args.table.layout.now args.table.sizes i))) args.out.now args.at c.loop-i.i c.loop-i.invariant
    (c.word_in.ensures ∙ ap (λ x. word_in args.side (entry_row (later_entry args.first x))) c.entry-entry.ensures) c.put_word.ensures
