-- Rows that rise. Assumes nothing.
use Prim.Native.Nat.{ℕ, ◌<◌}
use native.Mathlib.Nat.{lt_trans}
use mathlib.Core.Path.{◌≡◌, sym, subst}
use mathlib.Core.Logic.{inl, inr}
use mathlib.Core.List.{List, map}
use lib.Dec.{T}
use lib.ListN.{length, get_or, length-map}
use Rattle.logic.specs.Tests.{member}
use Rattle.logic.proofs.Lists.{member_get_d}
use Rattle.logic.proofs.Rising.{rising_from}
use Rattle.table.proofs.Sorted.{Before}
use Rattle.files.specs.Contents.{Row, fact_row}
use Rattle.files.proofs.Lists.{rising_places}
use Rattle.std.proofs.lemmas.List.{get_or-map}
use Rattle.files.proofs.Proper.{RowBefore, Rising}
use Rattle.files.proofs.Reading.{row_of}

-- the rows of numbers that rise, each before that of any greater one
pub rows_rise : (g : ℕ → Row) (l : List ℕ) → T (rising_from 0 l) → ((i j : ℕ) → i < j → T (member i l) → T (member j l) → RowBefore (g i) (g j)) → Rising (map g l)
rows_rise g l t r i j h k =
    let v : j < length l = subst (λ z. j < z) (length-map l g) k in
    let u : i < length l = lt_trans h v in
    coe 0 1 (z. RowBefore (sym (get_or-map g l i 0 (fact_row 0) u) z) (sym (get_or-map g l j 0 (fact_row 0) v) z))
    (r _ _ (rising_places 0 l t i j h v) (member_get_d l i u) (member_get_d l j v))

-- rows that rise, by what is listed
pub rows_at : {A : Type 0} (f : A → Row) (l : List A) (d : A) → f d ≡ fact_row 0 → Rising (map f l) → (i j : ℕ) → i < j → j < length l
    → RowBefore (f (get_or l i d)) (f (get_or l j d))
rows_at f l d e r i j h k = coe 0 1 (z. RowBefore (row_of f l d i e z) (row_of f l d j e z)) (r i j h (subst (λ z. j < z) (sym (length-map l f)) k))

-- a row stays before another where its words stay below those of the other
pub before_kept : (a b c d : ℕ) {a' b' c' d' : ℕ} → (a < c → a' < c') → (a ≡ c → a' ≡ c') → (b < d → b' < d') → Before a b c d → Before a' b' c' d'
unfolding Before
before_kept a b c d f g h (inl u) = inl (f u)
before_kept a b c d f g h (inr u) = inr (g u.0, h u.1)
