-- The file of a content, as it is written. Assumes nothing.
use Prim.Native.Nat.{ℕ, ◌+◌, ◌*◌, ◌≤◌}
use native.Mathlib.Omega.{arith}
use mathlib.Core.Path.{◌≡◌, refl, sym, ◌∙◌, ap}
use mathlib.Core.Bool.{false}
use mathlib.Core.List.{List, [], ◌∷◌, ◌++◌, map, append_assoc}
use lib.ListN.{length, length-append, length-map}
use lib.Seq.{sets}
use Rattle.table.specs.declared.format.Sizes.{Sizes}
use Rattle.table.specs.declared.edition.Edition.{Edition}
use Rattle.table.specs.declared.edition.Edition.TheVariants.{Old, Two}
use Rattle.table.specs.Format.{span_of}
use Rattle.table.specs.Refusals.{oversize}
use Rattle.table.proofs.Legal.{limited}
use Rattle.files.specs.Contents.{Content, sizes_for, fact_row, rule_row, entry_row, pair_row, rows_of, words_of, bytes_of, marked, file_of}
use Rattle.writing.specs.declared.columns.Side.TheVariants.{Left, Right}
use Rattle.writing.specs.Columns.{word_in, with_words}
use Rattle.files.proofs.Reading.{file_length}
use Rattle.writing.proofs.Appending.{words_then, marked_append, begun_then}

-- what stands before the layout is a byte at most
pub mark_small : (e : Edition) {n : ℕ} → n ≡ length (marked e []) → n ≤ 1
unfolding marked
mark_small Old h = omega (arith, h)
mark_small Two h = omega (arith, h)

-- the span of sizes within their limits
pub span_small : (s : Sizes) {n : ℕ} → oversize s ≡ false → n ≡ span_of s → n ≤ 8192
span_small s f e = let m = limited s f in omega (arith, e, m.facts, m.rules, m.entries, m.pairs)

rows_count : (c : Content) → length (rows_of c) ≡ span_of (sizes_for c)
unfolding rows_of
rows_count c =
    omega (
      arith,
      length-append (map fact_row c.facts) (map rule_row c.rules ++ (map entry_row c.entries ++ map pair_row c.pairs)),
      length-append (map rule_row c.rules) (map entry_row c.entries ++ map pair_row c.pairs),
      length-append (map entry_row c.entries) (map pair_row c.pairs),
      length-map c.facts fact_row,
      length-map c.rules rule_row,
      length-map c.entries entry_row,
      length-map c.pairs pair_row,
    )

-- the sizes, the left array and the right one, after what stands before them
module _ (e : Edition) (c : Content) (out : List ℕ) where
  abbrev size_words : Sizes → List ℕ
  size_words s = s.atoms ∷ s.facts ∷ s.rules ∷ s.entries ∷ s.pairs ∷ []

  pub file_written : (s : Sizes) (a b d : List ℕ) {o : List ℕ} {n span : ℕ} → s ≡ sizes_for c → span ≡ span_of s → (n ≡ length (marked e [])) × (a ≡ sets out 0 (marked e []))
      → b ≡ with_words a n (s.atoms ∷ s.facts ∷ s.rules ∷ s.entries ∷ s.pairs ∷ []) → d ≡ with_words b (n + 10) (map (word_in Left) (rows_of c))
      → o ≡ with_words d (n + 10 + 2 * span) (map (word_in Right) (rows_of c)) → o ≡ sets out 0 (file_of e c)
  unfolding words_of word_in
  file_written s a b d {n = n} {span} f g h i j k =
      begun_then e out (bytes_of (words_of c)) h
      (words_then a n (size_words s ++ map (word_in Left) (rows_of c)) (map (word_in Right) (rows_of c)) (words_then a n (size_words s) (map (word_in Left) (rows_of c)) i refl j) place k
      ∙ ap (with_words a n) (append_assoc (size_words s) (map (word_in Left) (rows_of c)) (map (word_in Right) (rows_of c)) ∙ ap (λ z. size_words z ++ (map (word_in Left) (rows_of c) ++ map (word_in Right) (rows_of c))) f))
    where
      place : n + 10 + 2 * span ≡ n + 2 * length (size_words s ++ map (word_in Left) (rows_of c))
      place =
          omega (arith, g, ap span_of f, rows_count c, length-append (size_words s) (map (word_in Left) (rows_of c)), length-map (rows_of c) (word_in Left))

-- the bytes of a file
pub file_bytes : (e : Edition) (c : Content) (z : Sizes) {m span : ℕ} → z ≡ sizes_for c → m ≡ length (marked e []) → span ≡ span_of z → m + 10 + 4 * span ≡ length (file_of e c)
file_bytes e c z {m} {span} f g h =
    omega (arith, g, h, ap span_of f, ap length (sym (marked_append e (bytes_of (words_of c)))), length-append (marked e []) (bytes_of (words_of c)), file_length c)
