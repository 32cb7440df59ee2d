-- What is read in the file of a content is the content. Assumes nothing.
use Prim.Native.Nat.{ℕ, zero, suc, ◌+◌, ◌*◌, ◌/◌, ◌%◌, ◌≤◌, ◌<◌}
use native.Mathlib.Nat.{div-add-mod, zero-add}
use native.Mathlib.Omega.{arith}
use borrow.Author.Tests.{le-ltb}
use mathlib.Core.Path.{◌≡◌, refl, sym, ◌∙◌, ap, ap₂, subst}
use mathlib.Core.Logic.{⊎_elim}
use mathlib.Core.List.{List, [], ◌∷◌, ◌++◌, map}
use lib.ListN.{length, get_or, length-append, length-map, get_or-append, get_or-map, get_or-eq_default}
use lib.Seq.{get_or-append-add, ext_get_or}
use Rattle.logic.specs.Tests.{upto}
use Rattle.logic.proofs.Tests.{at_most}
use Rattle.table.specs.declared.format.Kind.{Kind}
use Rattle.table.specs.declared.format.Kind.TheVariants.{Strict, Defeasible, Defeater}
use Rattle.table.specs.declared.format.Origin.{Origin}
use Rattle.table.specs.declared.format.Origin.TheVariants.{None, House, Tour, Console}
use Rattle.table.specs.declared.edition.Edition.{Edition}
use Rattle.table.specs.declared.edition.Edition.TheVariants.{Old, Two}
use Rattle.table.specs.Editions.{layout_of}
use Rattle.table.specs.Format.{kind_number, word, sizes_of, span_of, left, right, facts_from, rules_from, entries_from, pairs_from, left_in, kind_of, origin_of, origin_number, fact_at, rule_at, entry_at, pair_at}
use Rattle.table.proofs.Legal.{left_in_lem, right_in_lem}
use Rattle.table.proofs.Bodies.{word_inside}
use Rattle.files.specs.Contents.{Content, content_in, content_of, fact_of, rule_of, entry_of, pair_of, sizes_for, Row, fact_row, rule_row, entry_row, pair_row, rows_of, words_of, bytes_of, marked, file_of}
use Rattle.files.proofs.Proper.{row_at}
use Rattle.files.proofs.Saying.{count_upto_map, at_upto}

-- two bytes a word, the low one first
pub bytes_length : (ws : List ℕ) → length (bytes_of ws) ≡ 2 * length ws
unfolding bytes_of
bytes_length [] = refl
bytes_length (w ∷ ws) = omega (arith, bytes_length ws)

pub low_byte : (ws : List ℕ) (i : ℕ) → get_or (bytes_of ws) (2 * i) 0 ≡ get_or ws i 0 % 256
unfolding bytes_of
low_byte [] i = refl
low_byte (w ∷ ws) zero = refl
low_byte (w ∷ ws) (suc i) = let e : 2 * suc i ≡ suc (suc (2 * i)) = omega arith in ap (λ k. get_or (bytes_of (w ∷ ws)) k 0) e ∙ low_byte ws i

pub high_byte : (ws : List ℕ) (i : ℕ) → get_or (bytes_of ws) (2 * i + 1) 0 ≡ get_or ws i 0 / 256
unfolding bytes_of
high_byte [] i = refl
high_byte (w ∷ ws) zero = refl
high_byte (w ∷ ws) (suc i) = let e : 2 * suc i + 1 ≡ suc (suc (2 * i + 1)) = omega arith in ap (λ k. get_or (bytes_of (w ∷ ws)) k 0) e ∙ high_byte ws i

-- each word is read back
word_past : (b : List ℕ) (i : ℕ) → length b ≤ 2 * i → word b i ≡ 0
unfolding word
word_past b i h = let k : length b / 2 ≤ i = omega arith in simp (le-ltb i (length b / 2) k)

pub word_bytes : (ws : List ℕ) (i : ℕ) → word (bytes_of ws) i ≡ get_or ws i 0
word_bytes ws i =
    ⊎_elim (λ h. past h ∙ sym (get_or-eq_default ws 0 h))
    (λ h. word_inside (bytes_of ws) i (omega (arith, bytes_length ws)) ∙ ap₂ (λ x y. x + 256 * y) (low_byte ws i) (high_byte ws i) ∙ whole (get_or ws i 0)) (at_most (length ws) i)
  where
    whole : (w : ℕ) → w % 256 + 256 * (w / 256) ≡ w
    whole w = omega (arith, div-add-mod w 256)

    past : length ws ≤ i → word (bytes_of ws) i ≡ 0
    past h = word_past (bytes_of ws) i (omega (arith, bytes_length ws))

-- the layout of a content's file, and its sizes
pub file_layout : (e : Edition) (c : Content) → layout_of e (file_of e c) ≡ bytes_of (words_of c)
unfolding layout_of marked
file_layout Old c = refl
file_layout Two c = refl

-- a rule's kind and origin are read back from its left word
left_parts : (k : Kind) (n : ℕ) → ((kind_number k + 4 * n) % 4 ≡ kind_number k) × ((kind_number k + 4 * n) / 4 ≡ n)
left_parts Strict n = (omega arith, omega arith)
left_parts Defeasible n = (omega arith, omega arith)
left_parts Defeater n = (omega arith, omega arith)

kind_number_lem : (k : Kind) → kind_of (kind_number k) ≡ k
unfolding kind_of
kind_number_lem Strict = refl
kind_number_lem Defeasible = refl
kind_number_lem Defeater = refl

origin_number_lem : (o : Origin) → origin_of (origin_number o) ≡ o
unfolding origin_of
origin_number_lem None = refl
origin_number_lem House = refl
origin_number_lem Tour = refl
origin_number_lem Console = refl

-- a list, from what a reader gives at its places
relisted : {A : Type 0} (f : ℕ → A) (l : List A) (d : A) → ((i : ℕ) → i < length l → f i ≡ get_or l i d) → map f (upto (length l)) ≡ l
relisted f l d r =
    ext_get_or d _ _ (count_upto_map f (length l)) (λ i h. let k : i < length l = omega (arith, count_upto_map f (length l)) in at_upto f (length l) i d k ∙ r i k)

-- the i-th row of a list; a row among those of a section and of what comes after it
pub row_of : {A : Type 0} (f : A → Row) (l : List A) (d : A) (i : ℕ) → f d ≡ fact_row 0 → row_at (map f l) i ≡ f (get_or l i d)
row_of f l d i e = ap (get_or (map f l) i) (sym e) ∙ get_or-map f l i d

row_here : {A : Type 0} (f : A → Row) (l : List A) (m : List Row) (d : A) (i : ℕ) → f d ≡ fact_row 0 → i < length l → row_at (map f l ++ m) i ≡ f (get_or l i d)
row_here f l m d i e h = get_or-append (map f l) m (fact_row 0) i (omega (arith, length-map l f)) ∙ row_of f l d i e

row_after : {A : Type 0} (f : A → Row) (l : List A) (m : List Row) (i k : ℕ) → k ≡ length l + i → row_at (map f l ++ m) k ≡ row_at m i
row_after f l m i k e = let g : k ≡ length (map f l) + i = omega (arith, length-map l f) in ap (λ j. row_at (map f l ++ m) j) g ∙ get_or-append-add (map f l) m i (fact_row 0)

module _ (c : Content) where
  pub file_sizes : sizes_of (bytes_of (words_of c)) ≡ sizes_for c
  unfolding words_of
  file_sizes = λ k. record {
    atoms = word_bytes (words_of c) 0 k;
    facts = word_bytes (words_of c) 1 k;
    rules = word_bytes (words_of c) 2 k;
    entries = word_bytes (words_of c) 3 k;
    pairs = word_bytes (words_of c) 4 k;
  }

  rows_length : length (rows_of c) ≡ span_of (sizes_for c)
  unfolding rows_of
  rows_length = simp (length-append, length-map) (omega arith)

  pub file_length : length (bytes_of (words_of c)) ≡ 10 + 4 * span_of (sizes_for c)
  unfolding words_of
  file_length = bytes_length (words_of c) ∙ simp (length-append, length-map, rows_length) (omega arith)

  -- a row stands at a place of both arrays
  abbrev pub Stands : ℕ → Row → Type 0
  Stands i w = (left (bytes_of (words_of c)) i ≡ w.left) × (right (bytes_of (words_of c)) (sizes_for c) i ≡ w.right)

  -- a word after the sizes
  array_word : (i : ℕ) → word (bytes_of (words_of c)) (5 + i) ≡ get_or (map (λ w. w.left) (rows_of c) ++ map (λ w. w.right) (rows_of c)) i 0
  unfolding words_of
  array_word i = let e : 5 + i ≡ suc (suc (suc (suc (suc i)))) = omega arith in word_bytes (words_of c) (5 + i) ∙ ap (λ k. get_or (words_of c) k 0) e

  row_stands : (i : ℕ) → i < span_of (sizes_for c) → Stands i (row_at (rows_of c) i)
  row_stands i h = (
    array_word i ∙ get_or-append (map (λ w. w.left) (rows_of c)) _ 0 i (omega (arith, lefts)) ∙ get_or-map (λ w. w.left) (rows_of c) i (fact_row 0),
    ap (word (bytes_of (words_of c))) place ∙ array_word (length (map (λ w. w.left) (rows_of c)) + i)
        ∙ get_or-append-add (map (λ w. w.left) (rows_of c)) _ i 0 ∙ get_or-map (λ w. w.right) (rows_of c) i (fact_row 0),
  )
    where
      lefts : length (map (λ w. w.left) (rows_of c)) ≡ span_of (sizes_for c)
      lefts = length-map (rows_of c) (λ w. w.left) ∙ rows_length

      place : 5 + span_of (sizes_for c) + i ≡ 5 + (length (map (λ w. w.left) (rows_of c)) + i)
      place = omega (arith, lefts)

  -- what stands at each place of each section
  pub fact_stands : (i : ℕ) → i < length c.facts → Stands (facts_from (sizes_for c) + i) (fact_row (fact_of c i))
  unfolding rows_of
  fact_stands i h =
      subst (Stands (facts_from (sizes_for c) + i)) (ap (row_at (rows_of c)) (zero-add i) ∙ row_here fact_row c.facts _ _ i refl h)
      (row_stands (facts_from (sizes_for c) + i) (omega arith))

  pub rule_stands : (r : ℕ) → r < length c.rules → Stands (rules_from (sizes_for c) + r) (rule_row (rule_of c r))
  unfolding rows_of
  rule_stands r h =
      subst (Stands (rules_from (sizes_for c) + r)) (row_after fact_row c.facts _ r _ refl ∙ row_here rule_row c.rules _ _ r refl h)
      (row_stands (rules_from (sizes_for c) + r) (omega arith))

  pub entry_stands : (i : ℕ) → i < length c.entries → Stands (entries_from (sizes_for c) + i) (entry_row (entry_of c i))
  unfolding rows_of
  entry_stands i h =
      let place : entries_from (sizes_for c) + i ≡ length c.facts + (length c.rules + i) = omega arith in
      subst (Stands (entries_from (sizes_for c) + i))
      (row_after fact_row c.facts _ (length c.rules + i) _ place ∙ row_after rule_row c.rules _ i _ refl ∙ row_here entry_row c.entries _ _ i refl h)
      (row_stands (entries_from (sizes_for c) + i) (omega arith))

  pub pair_stands : (i : ℕ) → i < length c.pairs → Stands (pairs_from (sizes_for c) + i) (pair_row (pair_of c i))
  unfolding rows_of
  pair_stands i h =
      let place : pairs_from (sizes_for c) + i ≡ length c.facts + (length c.rules + (length c.entries + i)) = omega arith in
      subst (Stands (pairs_from (sizes_for c) + i))
      (row_after fact_row c.facts _ (length c.rules + (length c.entries + i)) _ place ∙ row_after rule_row c.rules _ (length c.entries + i) _ refl
      ∙ row_after entry_row c.entries _ i _ refl ∙ row_of pair_row c.pairs _ i refl)
      (row_stands (pairs_from (sizes_for c) + i) (omega arith))

  -- what each reader gives
  fact_read : (i : ℕ) → i < length c.facts → (fact_at (bytes_of (words_of c)) (sizes_for c) i).0 ≡ fact_of c i
  fact_read i h = right_in_lem _ (sizes_for c) _ _ i h ∙ (fact_stands i h).1

  rule_read : (r : ℕ) → r < length c.rules → rule_at (bytes_of (words_of c)) (sizes_for c) r ≡ rule_of c r
  rule_read r h = λ k. record { kind = kind k; origin = origin k; head = record { 0 = (right_in_lem _ (sizes_for c) _ _ r h ∙ (rule_stands r h).1) k } }
    where
      word_is : left_in (bytes_of (words_of c)) (rules_from (sizes_for c)) (length c.rules) r ≡ (rule_row (rule_of c r)).left
      word_is = left_in_lem _ (rules_from (sizes_for c)) _ r h ∙ (rule_stands r h).0

      parts : ((rule_row (rule_of c r)).left % 4 ≡ kind_number (rule_of c r).kind) × ((rule_row (rule_of c r)).left / 4 ≡ origin_number (rule_of c r).origin)
      parts = left_parts (rule_of c r).kind (origin_number (rule_of c r).origin)

      kind : (rule_at (bytes_of (words_of c)) (sizes_for c) r).kind ≡ (rule_of c r).kind
      kind = ap (λ w. kind_of (w % 4)) word_is ∙ ap kind_of parts.0 ∙ kind_number_lem (rule_of c r).kind

      origin : (rule_at (bytes_of (words_of c)) (sizes_for c) r).origin ≡ (rule_of c r).origin
      origin = ap (λ w. origin_of (w / 4)) word_is ∙ ap origin_of parts.1 ∙ origin_number_lem (rule_of c r).origin

  entry_read : (i : ℕ) → i < length c.entries → entry_at (bytes_of (words_of c)) (sizes_for c) i ≡ entry_of c i
  entry_read i h = λ k. record {
    rule = (left_in_lem _ (entries_from (sizes_for c)) _ i h ∙ (entry_stands i h).0) k;
    literal = record { 0 = (right_in_lem _ (sizes_for c) _ _ i h ∙ (entry_stands i h).1) k };
  }

  pair_read : (i : ℕ) → i < length c.pairs → pair_at (bytes_of (words_of c)) (sizes_for c) i ≡ pair_of c i
  pair_read i h = λ k. record {
    stronger = (left_in_lem _ (pairs_from (sizes_for c)) _ i h ∙ (pair_stands i h).0) k;
    weaker = (right_in_lem _ (sizes_for c) _ _ i h ∙ (pair_stands i h).1) k;
  }

  -- so the file says the content
  pub file_content : content_in (bytes_of (words_of c)) (sizes_for c) ≡ c
  file_content = λ k. record {
    atoms = c.atoms;
    facts = relisted _ c.facts _ fact_read k;
    rules = relisted _ c.rules _ rule_read k;
    entries = relisted _ c.entries _ entry_read k;
    pairs = relisted _ c.pairs _ pair_read k;
  }

pub file_says : (e : Edition) (c : Content) → content_of e (file_of e c) ≡ c
file_says e c = ap (λ l. content_in l (sizes_of l)) (file_layout e c) ∙ ap (content_in (bytes_of (words_of c))) (file_sizes c) ∙ file_content c
