-- What a content must have for its file to be accepted (Accepting.antt: `file_accepted`, and its converse `content_proper`). Assumes nothing.
use Prim.Native.Nat.{ℕ, ◌<◌}
use mathlib.Core.Path.{◌≡◌}
use mathlib.Core.Bool.{false}
use mathlib.Core.List.{List, map}
use lib.Dec.{T}
use lib.ListN.{length, get_or}
use Rattle.logic.specs.Theory.{proper, superior}
use Rattle.logic.specs.Cycle.{Cycle}
use Rattle.table.specs.declared.edition.Edition.{Edition}
use Rattle.table.specs.Refusals.{oversize, bad_left}
use Rattle.table.proofs.Sorted.{Before}
use Rattle.files.specs.Contents.{Content, sizes_for, rule_of, entry_of, Row, fact_row, rule_row, entry_row, pair_row, theory_from}

-- each row comes before every later one
abbrev pub row_at : List Row → ℕ → Row
row_at l i = get_or l i (fact_row 0)

abbrev pub RowBefore : Row → Row → Type 0
RowBefore v w = Before v.left v.right w.left w.right

abbrev pub Rising : List Row → Type 0
Rising l = (i j : ℕ) → i < j → j < length l → RowBefore (row_at l i) (row_at l j)

pub record Proper (e : Edition) (c : Content) : Type 0 where
  -- not 2
  pub limits : oversize (sizes_for c) ≡ false
  -- not 4: each rule's origin is one that the edition has
  pub lefts : (r : ℕ) → r < length c.rules → bad_left e (rule_row (rule_of c r)).left ≡ false
  -- not 5
  pub ranges : T (proper (theory_from c))
  pub users : (i : ℕ) → i < length c.entries → (entry_of c i).rule < length c.rules
  -- not 6
  pub facts : Rising (map fact_row c.facts)
  pub entries : Rising (map entry_row c.entries)
  pub pairs : Rising (map pair_row c.pairs)
  -- not 7
  pub acyclic : Cycle (superior (theory_from c)) → ⊥
