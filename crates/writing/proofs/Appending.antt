-- Words after words in an output. Assumes nothing.
use Prim.Native.Nat.{ℕ, suc, ◌+◌, ◌*◌, ◌/◌, ◌%◌, ◌≤◌, ◌<◌}
use native.Mathlib.Nat.{add-zero, zero-add}
use native.Mathlib.Numerals.{add-one}
use native.Mathlib.Omega.{arith}
use mathlib.Core.Path.{◌≡◌, refl, sym, ◌∙◌, ap, ap₂, subst}
use mathlib.Core.List.{List, [], ◌∷◌, ◌++◌, map, map-append}
use lib.ListN.{length, length-map, drop, set}
use lib.Seq.{sets, sets-eq}
use Rattle.logic.specs.Tests.{upto}
use Rattle.logic.proofs.Lists.{length_upto}
use Rattle.table.specs.declared.format.Rule.{Rule}
use Rattle.table.specs.declared.format.Sizes.{Sizes}
use Rattle.table.specs.declared.edition.Edition.{Edition}
use Rattle.table.specs.declared.edition.Edition.TheVariants.{Old, Two}
use Rattle.table.specs.Refusals.{Legal}
use Rattle.table.proofs.Legal.{limited}
use Rattle.files.specs.Contents.{Row, rule_row, bytes_of, marked}
use Rattle.files.proofs.Reading.{bytes_length}
use Rattle.writing.specs.declared.columns.Side.{Side}
use Rattle.writing.specs.Columns.{word_in, with_words, column}

-- stores after stores
sets_more : (l : List ℕ) (i : ℕ) (xs ys : List ℕ) → sets (sets l i xs) (i + length xs) ys ≡ sets l i (xs ++ ys)
sets_more l i [] ys = ap (λ k. sets l k ys) (add-zero i)
sets_more l i (a ∷ xs) ys =
    ap (λ k. sets (sets (set l i a) (suc i) xs) k ys) (let e : i + suc (length xs) ≡ suc i + length xs = omega arith in e) ∙ sets_more (set l i a) (suc i) xs ys

pub bytes_append : (xs ys : List ℕ) → bytes_of (xs ++ ys) ≡ bytes_of xs ++ bytes_of ys
unfolding bytes_of
bytes_append [] ys = refl
bytes_append (w ∷ xs) ys = ap (λ l. w % 256 ∷ w / 256 ∷ l) (bytes_append xs ys)

-- words after words
pub words_more : (out : List ℕ) (at : ℕ) (xs ys : List ℕ) → with_words (with_words out at xs) (at + 2 * length xs) ys ≡ with_words out at (xs ++ ys)
words_more out at xs ys =
    ap (λ k. sets (with_words out at xs) (at + k) (bytes_of ys)) (sym (bytes_length xs)) ∙ sets_more out at (bytes_of xs) (bytes_of ys)
    ∙ ap (sets out at) (sym (bytes_append xs ys))

-- as they are written one call after the other
pub words_then : (out : List ℕ) (at : ℕ) (xs ys : List ℕ) {a b : List ℕ} {k : ℕ} → a ≡ with_words out at xs → k ≡ at + 2 * length xs → b ≡ with_words a k ys
    → b ≡ with_words out at (xs ++ ys)
words_then out at xs ys e f g = g ∙ ap₂ (λ l k. with_words l k ys) e f ∙ words_more out at xs ys

pub column_length : (side : Side) (row : ℕ → Row) (n : ℕ) → length (column side row n) ≡ n
column_length side row n = length-map (upto n) (λ i. word_in side (row i)) ∙ length_upto n

column_suc : (side : Side) (row : ℕ → Row) (i : ℕ) → column side row (i + 1) ≡ column side row i ++ (word_in side (row i) ∷ [])
unfolding upto
column_suc side row i =
    ap (λ k. map (λ j. word_in side (row j)) (upto k)) (add-one i) ∙ map-append (λ j. word_in side (row j)) (upto i) (i ∷ [])

-- a column: no row, one row more, all rows
module _ (side : Side) (row : ℕ → Row) (out : List ℕ) (at : ℕ) where
  pub column_none : out ≡ with_words out at (column side row 0)
  unfolding upto bytes_of
  column_none = refl

  pub column_next : (i : ℕ) {a b : List ℕ} {w : ℕ} → a ≡ with_words out at (column side row i) → w ≡ word_in side (row i) → b ≡ with_words a (at + 2 * i) (w ∷ [])
      → b ≡ with_words out at (column side row (i + 1))
  column_next i {w = w} e f g =
      words_then out at (column side row i) (w ∷ []) e (ap (λ k. at + 2 * k) (sym (column_length side row i))) g
      ∙ ap (λ x. with_words out at (column side row i ++ (x ∷ []))) f ∙ ap (with_words out at) (sym (column_suc side row i))

-- a rule's number, where the rules are numbered from `first` on
pub number_fits : (b : List ℕ) (s : Sizes) (first : ℕ) {n r : ℕ} → Legal b s → first ≤ 1024 → n < s.rules → r ≡ n → first + r < 65536
number_fits b s first l f h e = omega (arith, (limited s l.limits).rules)

-- the word of a rule, by its left word and its head
pub left_word : (side : Side) {r x : Rule} {l w : ℕ} → r ≡ x → l ≡ (rule_row r).left → w ≡ word_in side (record { left = l; right = r.head.0 }) → w ≡ word_in side (rule_row x)
left_word side {r} e f g = g ∙ ap (λ n. word_in side (record { left = n; right = r.head.0 })) f ∙ ap (λ z. word_in side (rule_row z)) e

pub marked_append : (e : Edition) (bytes : List ℕ) → marked e [] ++ bytes ≡ marked e bytes
unfolding marked
marked_append Old bytes = refl
marked_append Two bytes = refl

-- what stands before the layout, and the layout after it
module _ (e : Edition) (out : List ℕ) where
  pub begun_then : (bytes : List ℕ) {a b : List ℕ} {n : ℕ} → (n ≡ length (marked e [])) × (a ≡ sets out 0 (marked e [])) → b ≡ sets a n bytes → b ≡ sets out 0 (marked e bytes)
  begun_then bytes (h, k) f =
      f ∙ ap₂ (λ l n. sets l n bytes) k (h ∙ sym (zero-add _)) ∙ sets_more out 0 (marked e []) bytes ∙ ap (sets out 0) (marked_append e bytes)

-- a file that fits stands before what stood past it
pub written_whole : (out file : List ℕ) {a : List ℕ} → length file ≤ length out → a ≡ sets out 0 file → a ≡ file ++ drop (length file) out
written_whole out file h e = e ∙ sets-eq file out 0 (subst (λ n. n ≤ length out) (sym (zero-add (length file))) h) ∙ ap (λ n. file ++ drop n out) (zero-add (length file))
