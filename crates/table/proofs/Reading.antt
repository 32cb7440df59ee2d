-- Laws of the format's readers. Assumes nothing.
use Prim.Native.Nat.{ℕ, ◌+◌, ◌*◌, ◌/◌, ◌≤◌, ◌<◌}
use native.Mathlib.Nat.{le_antisymm}
use native.Mathlib.Numerals.{add-one}
use native.Mathlib.Omega.{arith}
use mathlib.Core.Path.{◌≡◌, refl, sym, ◌∙◌, ap, ap₂}
use mathlib.Core.Bool.{Bool, false, cond}
use mathlib.Core.List.{List}
use Rattle.logic.specs.Tests.{◌or◌, some}
use lib.Dec.{leb, ltb}
use Rattle.table.specs.declared.format.Sizes.{Sizes}
use Rattle.table.specs.Format.{word, span_of, right, left_in, right_in}

-- a word of the right array, read past a span that is the sizes'
pub right_at : (b : List ℕ) (s : Sizes) (j span r : ℕ) → span ≡ span_of s → r ≡ word b (5 + span + j) → r ≡ right b s j
right_at b s j span r e f = f ∙ ap (λ k. word b (5 + k + j)) e

-- a word of a section of either array, as it is read
pub left_read : (b : List ℕ) (from n i : ℕ) {r : ℕ} → r ≡ cond (ltb i n) (word b (5 + (from + i))) 0 → r ≡ left_in b from n i
unfolding left_in
left_read b from n i e = e

pub right_read : (b : List ℕ) (s : Sizes) (from n i span : ℕ) {r : ℕ} → span ≡ span_of s → r ≡ cond (ltb i n) (word b (5 + span + (from + i))) 0 → r ≡ right_in b s from n i
unfolding right_in
right_read b s from n i span e f = f ∙ ap (λ k. cond (ltb i n) (word b (5 + k + (from + i))) 0) e

-- a word within the bytes
pub half_below : {i n : ℕ} → 2 * i + 2 ≤ n → i < n / 2
half_below h = omega arith

-- a scan of the right array, past a span that is the sizes'
pub right_scan : (b : List ℕ) (n limit from span k : ℕ) (r : Bool) → k ≡ span → r ≡ some n (λ i. leb limit (word b (5 + k + (from + i))))
    → r ≡ some n (λ i. leb limit (word b (5 + span + (from + i))))
right_scan b n limit from span k r e f = f ∙ ap (λ j. some n (λ i. leb limit (word b (5 + j + (from + i))))) e

-- a scan: no word, one word more, all words
pub scan_none : (p : ℕ → Bool) → false ≡ some 0 p
unfolding some
scan_none p = refl

pub some_next : (i : ℕ) (p : ℕ → Bool) → some (i + 1) p ≡ (some i p or p i)
unfolding some
some_next i p = ap (λ k. some k p) (add-one i)

pub scan_next : (i : ℕ) (p : ℕ → Bool) {found test next : Bool} → found ≡ some i p → test ≡ p i → next ≡ (found or test) → next ≡ some (i + 1) p
scan_next i p e f g = g ∙ ap₂ (λ x y. x or y) e f ∙ sym (some_next i p)

pub scan_end : (i n : ℕ) (p : ℕ → Bool) {found : Bool} → i ≤ n → n ≤ i → found ≡ some i p → found ≡ some n p
scan_end i n p h k e = e ∙ ap (λ z. some z p) (le_antisymm h k)
