-- `writing::columns::write_entries` meets its contract. The loop's invariant: the column of the entries passed is written. Assumes nothing.
use mathlib.Core.Path.{◌≡◌}
use Rattle.table.specs.Format.{entry_at}
use Rattle.files.specs.Contents.{later_entry, entry_row}
use Rattle.writing.specs.Columns.{with_words, column}
use Rattle.writing.proofs.columns.write_entries.Given as goal

abbrev pub invariant-loop-i : goal.invariant-loop-i
invariant-loop-i l = l.out ≡ with_words l.initial.out l.at (column l.side (λ i. entry_row (later_entry l.first (entry_at l.table.layout.now l.table.sizes i))) l.i)
