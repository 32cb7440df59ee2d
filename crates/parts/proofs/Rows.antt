-- The rows of a part's own table: how many each section has, and that they are those of its content. Assumes nothing.
use Prim.Native.Nat.{ℕ, ◌+◌, ◌*◌, ◌≤◌, ◌<◌}
use native.Mathlib.Omega.{arith}
use mathlib.Core.Path.{◌≡◌, refl, sym, ◌∙◌, ap, ap₂, subst}
use mathlib.Core.Bool.{Bool, true, false}
use mir.Val.{bool_byte}
use Rattle.std.proofs.lemmas.Grind.{common_steps}
use mathlib.Core.List.{List, ◌++◌, map, map-append}
use lib.ListN.{length, get_or, set, length-map}
use Rattle.logic.specs.Tests.{count_below, weigh, upto, pick}
use Rattle.logic.proofs.Sums.{count_upto}
use Rattle.logic.proofs.Pigeon.{counted_le, counted_next}
use Rattle.table.specs.declared.format.Sizes.{Sizes}
use Rattle.table.specs.Refusals.{oversize, Legal}
use Rattle.table.proofs.Legal.{limited}
use Rattle.files.specs.Contents.{Content, content_in, fact_of, rule_of, entry_of, pair_of, sizes_for, Row, fact_row, rule_row, entry_row, pair_row, rows_of}
use Rattle.files.proofs.Lists.{map_map}
use Rattle.files.proofs.Saying.{sizes_say}
use Rattle.writing.specs.declared.columns.Side.{Side}
use Rattle.writing.specs.Columns.{word_in, with_words}
use Rattle.writing.proofs.Appending.{words_then}
use Rattle.writing.proofs.Picking.{Put}
use Rattle.parting.specs.Parting.{rule_in, number_in, entry_in, pair_in, fact_kept, entry_kept, pair_kept, part_of}
use Rattle.parting.proofs.Numbering.{kept_le}
use Rattle.parting.proofs.Proper.{part_limits}
use Rattle.parts.specs.declared.kept.Section.{Section}
use Rattle.parts.specs.declared.kept.Section.TheVariants.{Facts, Rules, Entries, Pairs}
use Rattle.parts.specs.Kept.{size_of, kept_in, row_by, rows_in}

-- a count goes on by a test
byte_weighs : (b : Bool) → bool_byte b ≡ weigh b 1
unfolding weigh
byte_weighs true = refl
byte_weighs false = refl

pub counted_on : (i : ℕ) (p : ℕ → Bool) {n x : ℕ} {t : Bool} → n ≡ count_below i p → x ≡ bool_byte t → t ≡ p i → n + x ≡ count_below (i + 1) p
counted_on i p {n} {t = t} e f g = counted_next i p e (ap (λ k. n + k) (f ∙ byte_weighs t)) g

-- the rows of a part are those of its sections
module _ (c : Content) (a : ℕ) where
  part_rows : rows_in c a Facts ++ (rows_in c a Rules ++ (rows_in c a Entries ++ rows_in c a Pairs)) ≡ rows_of (part_of c a)
  unfolding rows_of row_by kept_in size_of
  part_rows =
      ap₂ ◌++◌ (sym (map_map fact_row (fact_of c) (pick (upto (length c.facts)) (fact_kept c a))))
      (ap₂ ◌++◌ (sym (map_map rule_row (rule_of c) (pick (upto (length c.rules)) (rule_in c a))))
      (ap₂ ◌++◌ (sym (map_map entry_row (λ i. entry_in c a (entry_of c i)) (pick (upto (length c.entries)) (entry_kept c a))))
      (sym (map_map pair_row (λ i. pair_in c a (pair_of c i)) (pick (upto (length c.pairs)) (pair_kept c a))))))

  kept_size : (x : Section) → count_below (size_of (sizes_for c) x) (kept_in c a x) ≡ size_of (sizes_for (part_of c a)) x
  unfolding size_of kept_in
  kept_size Facts = sym (length-map (pick (upto (length c.facts)) (fact_kept c a)) (fact_of c) ∙ count_upto (length c.facts) _)
  kept_size Rules = sym (length-map (pick (upto (length c.rules)) (rule_in c a)) (rule_of c) ∙ count_upto (length c.rules) _)
  kept_size Entries = sym (length-map (pick (upto (length c.entries)) (entry_kept c a)) (λ i. entry_in c a (entry_of c i)) ∙ count_upto (length c.entries) _)
  kept_size Pairs = sym (length-map (pick (upto (length c.pairs)) (pair_kept c a)) (λ i. pair_in c a (pair_of c i)) ∙ count_upto (length c.pairs) _)

  -- one section after the other
  pub sections_written : (side : Side) (out : List ℕ) (at : ℕ) {i j k n : ℕ} {o p q r : List ℕ}
      → (i ≡ at + 2 * length (rows_in c a Facts)) × (o ≡ with_words out at (map (word_in side) (rows_in c a Facts)))
      → (j ≡ i + 2 * length (rows_in c a Rules)) × (p ≡ with_words o i (map (word_in side) (rows_in c a Rules)))
      → (k ≡ j + 2 * length (rows_in c a Entries)) × (q ≡ with_words p j (map (word_in side) (rows_in c a Entries)))
      → (n ≡ k + 2 * length (rows_in c a Pairs)) × (r ≡ with_words q k (map (word_in side) (rows_in c a Pairs)))
      → r ≡ with_words out at (map (word_in side) (rows_of (part_of c a)))
  sections_written side out at {i} {j} {k} {o = o} {p} {q} f g h w =
      words_then out at (words (rows_in c a Facts)) (words (rows_in c a Rules ++ (rows_in c a Entries ++ rows_in c a Pairs))) f.1 (place (rows_in c a Facts) at f.0)
      (words_then o i (words (rows_in c a Rules)) (words (rows_in c a Entries ++ rows_in c a Pairs)) g.1 (place (rows_in c a Rules) i g.0)
      (words_then p j (words (rows_in c a Entries)) (words (rows_in c a Pairs)) h.1 (place (rows_in c a Entries) j h.0) w.1
      ∙ ap (with_words p j) (sym (map-append (word_in side) (rows_in c a Entries) (rows_in c a Pairs))))
      ∙ ap (with_words o i) (sym (map-append (word_in side) (rows_in c a Rules) (rows_in c a Entries ++ rows_in c a Pairs))))
      ∙ ap (with_words out at) (sym (map-append (word_in side) (rows_in c a Facts) (rows_in c a Rules ++ (rows_in c a Entries ++ rows_in c a Pairs))) ∙ ap (map (word_in side)) part_rows)
    where
      words : List Row → List ℕ
      words l = map (word_in side) l

      place : (l : List Row) (x : ℕ) {y : ℕ} → y ≡ x + 2 * length l → y ≡ x + 2 * length (map (word_in side) l)
      place l x e = e ∙ ap (λ z. x + 2 * z) (sym (length-map l (word_in side)))

module _ (b : List ℕ) (s : Sizes) (a : ℕ) where
  -- the sizes of the part, by its counts
  pub count_is : (x : Section) {n : ℕ} → n ≡ count_below (size_of s x) (kept_in (content_in b s) a x) → n ≡ size_of (sizes_for (part_of (content_in b s) a)) x
  count_is x e = e ∙ ap (λ z. count_below (size_of z x) (kept_in (content_in b s) a x)) (sym (sizes_say b s)) ∙ kept_size (content_in b s) a x

  -- the words of the rows of a section, and that those of the first i rows are put
  abbrev pub row_word : Side → Section → ℕ → ℕ
  row_word side x i = word_in side (row_by (content_in b s) (number_in (content_in b s) a) x i)

  abbrev pub PutTo : Side → Section → List ℕ → ℕ → ℕ → ℕ → List ℕ → Type 0
  PutTo side x out at i place o = Put (row_word side x) out at (kept_in (content_in b s) a x) i place o

  -- all of them put
  pub rows_put : (side : Side) (x : Section) (out : List ℕ) (at : ℕ) {place : ℕ} {o : List ℕ}
      → PutTo side x out at (size_of s x) place o
      → (place ≡ at + 2 * length (rows_in (content_in b s) a x)) × (o ≡ with_words out at (map (word_in side) (rows_in (content_in b s) a x)))
  rows_put side x out at {place} {o} w =
      let (e, f) = subst (λ z. Put (λ i. word_in side (row_by (content_in b s) (number_in (content_in b s) a) x i)) out at (kept_in (content_in b s) a x) (size_of z x) place o) (sym (sizes_say b s)) w in (
        e ∙ ap (λ n. at + 2 * n) (sym (length-map (pick (upto (size_of (sizes_for (content_in b s)) x)) (kept_in (content_in b s) a x)) (row_by (content_in b s) (number_in (content_in b s) a) x))),
        f ∙ ap (with_words out at) (sym (map_map (word_in side) (row_by (content_in b s) (number_in (content_in b s) a) x) (pick (upto (size_of (sizes_for (content_in b s)) x)) (kept_in (content_in b s) a x)))),
      )

  -- a section of the part is not longer, and its sizes are within their limits
  pub rows_few : (x : Section) → length (rows_in (content_in b s) a x) ≤ size_of s x
  rows_few x = subst (λ z. length (rows_in (content_in b s) a x) ≤ size_of z x) (sizes_say b s) (kept_le _ _ _)

  pub part_fits : {z : Sizes} → Legal b s → z ≡ sizes_for (part_of (content_in b s) a) → oversize z ≡ false
  part_fits l e = ap oversize e ∙ part_limits (content_in b s) a (ap oversize (sizes_say b s) ∙ l.limits)

  -- a section is short
  pub section_short : (x : Section) → Legal b s → size_of s x ≤ 4096
  unfolding size_of
  section_short Facts l = omega (arith, (limited s l.limits).facts)
  section_short Rules l = omega (arith, (limited s l.limits).rules)
  section_short Entries l = omega (arith, (limited s l.limits).entries)
  section_short Pairs l = omega (arith, (limited s l.limits).pairs)

  -- the new numbers: one rule more, all rules
  abbrev pub NumberedTo : ℕ → List ℕ → ℕ → Type 0
  NumberedTo i numbers n = (n ≡ count_below i (rule_in (content_in b s) a)) × ((r : ℕ) → r < i → get_or numbers r 0 ≡ number_in (content_in b s) a r)

  pub numbered_next : (i : ℕ) (numbers : List ℕ) {n m : ℕ} → i < length numbers → NumberedTo i numbers n → m ≡ count_below (i + 1) (rule_in (content_in b s) a)
      → NumberedTo (i + 1) (set numbers i n) m
  unfolding number_in
  numbered_next i numbers h w g = grind (arith, common_steps)

-- for the functions that count
pub ruleset counting = (counted_on, counted_le, section_short)
