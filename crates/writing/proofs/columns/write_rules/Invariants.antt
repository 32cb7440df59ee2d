-- `writing::columns::write_rules` meets its contract. The loop's invariant: the column of the rules passed is written. Assumes nothing.
use mathlib.Core.Path.{◌≡◌}
use Rattle.table.specs.Format.{rule_at}
use Rattle.files.specs.Contents.{rule_row}
use Rattle.writing.specs.Columns.{with_words, column}
use Rattle.writing.proofs.columns.write_rules.Given as goal

abbrev pub invariant-loop-i : goal.invariant-loop-i
invariant-loop-i l = l.out ≡ with_words l.initial.out l.at (column l.side (λ i. rule_row (rule_at l.layout l.s i)) l.i)
