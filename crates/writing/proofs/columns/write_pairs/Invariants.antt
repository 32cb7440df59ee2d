-- `writing::columns::write_pairs` meets its contract. The loop's invariant: the column of the pairs passed is written. Assumes nothing.
use Prim.Native.Nat.{◌+◌}
use mathlib.Core.Path.{◌≡◌}
use Rattle.table.specs.Format.{pair_at}
use Rattle.files.specs.Contents.{later_pair, pair_row}
use Rattle.writing.specs.Columns.{with_words, column}
use Rattle.writing.proofs.columns.write_pairs.Given as goal

abbrev pub invariant-loop-i : goal.invariant-loop-i
invariant-loop-i l = l.out ≡ with_words l.initial.out l.at (column l.side (λ i. pair_row (later_pair l.first (pair_at l.table.layout.now l.table.sizes (l.from + i)))) l.i)
