-- What of a layout is a part's, section by section, and the words of its rows. Assumes nothing.
use Prim.Native.Nat.{ℕ, ◌*◌, ◌<◌}
use native.Mathlib.Omega.{arith}
use mathlib.Core.Path.{◌≡◌, sym, ◌∙◌, ap, ap₂, subst}
use mathlib.Core.Bool.{Bool}
use mathlib.Core.List.{List}
use lib.Dec.{eqb}
use lib.ListN.{get_or}
use Rattle.logic.specs.Tests.{◌and◌}
use Rattle.logic.specs.Theory.{atom}
use Rattle.logic.specs.Parts.{in_part}
use Rattle.logic.proofs.Parts.{smallest_agrees}
use Rattle.table.specs.declared.format.Sizes.{Sizes}
use Rattle.table.specs.declared.format.Literal.{Literal}
use Rattle.table.specs.declared.format.Rule.{Rule}
use Rattle.table.specs.declared.format.Entry.{Entry}
use Rattle.table.specs.declared.format.Pair.{Pair}
use Rattle.table.specs.Format.{fact_at, rule_at, entry_at, pair_at, theory_in}
use Rattle.table.specs.Refusals.{Legal}
use Rattle.table.proofs.Legal.{Ranged, ranged, right_in_lem, rule_below, head_below, stronger_below, weaker_below, proper_theory}
use Rattle.files.specs.Contents.{content_in, fact_row, rule_row}
use Rattle.files.proofs.Saying.{sizes_say, fact_says, rule_says, entry_says, pair_says, theory_says}
use Rattle.writing.specs.declared.columns.Side.{Side}
use Rattle.writing.specs.Columns.{word_in}
use Rattle.parting.specs.Parting.{literal_in, rule_in, number_in}
use Rattle.parts.specs.declared.kept.Section.{Section}
use Rattle.parts.specs.declared.kept.Section.TheVariants.{Facts, Rules, Entries, Pairs}
use Rattle.parts.specs.Chains.{Words}
use Rattle.parts.specs.Kept.{kept_in, row_by, Numbered}

module _ (b : List ℕ) (s : Sizes) (l : Legal b s) where
  in_range : Ranged b s
  in_range = ranged b s l.ranges

  -- a literal, a rule number are below their limits
  fact_below : (i : ℕ) → i < s.facts → (fact_at b s i).0 < 2 * s.atoms
  fact_below i h = subst (λ q. q < 2 * s.atoms) (sym (right_in_lem b s 0 s.facts i h)) (in_range.facts i h)

  pub fact_small : (i : ℕ) {q : Literal} → i < s.facts → q ≡ fact_at b s i → q.0 < 2 * s.atoms
  fact_small i h e = subst (λ z. z.0 < 2 * s.atoms) (sym e) (fact_below i h)

  pub head_small : (r : ℕ) {z : Rule} → r < s.rules → z ≡ rule_at b s r → z.head.0 < 2 * s.atoms
  head_small r h e = subst (λ z. z.head.0 < 2 * s.atoms) (sym e) (head_below b s in_range r h)

  pub entry_small : (i : ℕ) {z : Entry} → i < s.entries → z ≡ entry_at b s i → z.rule < s.rules
  entry_small i h e = subst (λ z. z.rule < s.rules) (sym e) (rule_below b s in_range i h)

  pub pair_small : (i : ℕ) {z : Pair} → i < s.pairs → z ≡ pair_at b s i → (z.stronger < s.rules) × (z.weaker < s.rules)
  pair_small i h e = subst (λ z. (z.stronger < s.rules) × (z.weaker < s.rules)) (sym e) (stronger_below b s in_range i h, weaker_below b s in_range i h)

  -- what is kept, by the words of the atoms
  pub literal_kept : {words : List ℕ} → Words (theory_in b s) words → {a : ℕ} → a < s.atoms → (q : ℕ) → q < 2 * s.atoms
      → eqb (get_or words (atom q) 0) (get_or words a 0) ≡ literal_in (content_in b s) a q
  unfolding literal_in theory_in
  literal_kept w {a} h q k =
      let m : atom q < s.atoms = omega arith in
      ap₂ eqb (w.each (atom q) m) (w.each a h) ∙ smallest_agrees (theory_in b s) (proper_theory b s in_range) a (atom q) h m
      ∙ ap (λ d. in_part d a (atom q)) (theory_says b s)

-- a row of a section, as it is read
module _ (b : List ℕ) (s : Sizes) (a : ℕ) where
  pub rule_kept : (r : ℕ) {z : Rule} {t : Bool} → z ≡ rule_at b s r → t ≡ literal_in (content_in b s) a z.head.0 → t ≡ rule_in (content_in b s) a r
  unfolding rule_in
  rule_kept r e f = f ∙ ap (λ z. literal_in (content_in b s) a z.head.0) (e ∙ rule_says b s r)

  module _ {x : Section} (i : ℕ) {t : Bool} where
    pub kept_fact : {q : Literal} → x ≡ Facts → q ≡ fact_at b s i → t ≡ literal_in (content_in b s) a q.0 → t ≡ kept_in (content_in b s) a x i
    unfolding kept_in
    kept_fact e f g = rw e (g ∙ ap (λ z. literal_in (content_in b s) a z.0) f ∙ ap (literal_in (content_in b s) a) (fact_says b s i))

    pub kept_rule : x ≡ Rules → t ≡ rule_in (content_in b s) a i → t ≡ kept_in (content_in b s) a x i
    unfolding kept_in
    kept_rule e g = rw e g

    pub kept_entry : {z : Entry} {n : ℕ} → x ≡ Entries → z ≡ entry_at b s i → n ≡ z.rule → t ≡ rule_in (content_in b s) a n → t ≡ kept_in (content_in b s) a x i
    unfolding kept_in
    kept_entry e f k g = rw e (g ∙ ap (rule_in (content_in b s) a) (k ∙ ap (λ z. z.rule) (f ∙ entry_says b s i)))

    pub kept_pair : {z : Pair} {n m : ℕ} {u v : Bool} → x ≡ Pairs → z ≡ pair_at b s i → n ≡ z.stronger → m ≡ z.weaker → u ≡ rule_in (content_in b s) a n
        → v ≡ rule_in (content_in b s) a m → t ≡ u and v → t ≡ kept_in (content_in b s) a x i
    unfolding kept_in
    kept_pair e f k j p q g =
        rw e (g ∙ ap₂ ◌and◌ (p ∙ ap (rule_in (content_in b s) a) (k ∙ ap (λ z. z.stronger) (f ∙ pair_says b s i)))
        (q ∙ ap (rule_in (content_in b s) a) (j ∙ ap (λ z. z.weaker) (f ∙ pair_says b s i))))

  -- the new number of a rule, read from the array of them
  pub number_read : {numbers : List ℕ} → Numbered (content_in b s) a numbers → {n : ℕ} → n < s.rules → get_or numbers n 0 ≡ number_in (content_in b s) a n
  number_read w {n} h = w.each n (subst (λ z. n < z.rules) (sym (sizes_say b s)) h)

  -- its words
  module _ (side : Side) {x : Section} (i : ℕ) {w : ℕ} where
    pub fact_word : {q : Literal} → x ≡ Facts → q ≡ fact_at b s i → w ≡ word_in side (record { left = 0; right = q.0 })
        → w ≡ word_in side (row_by (content_in b s) (number_in (content_in b s) a) x i)
    unfolding row_by
    fact_word e f g = rw e (g ∙ ap (λ z. word_in side (fact_row z.0)) f ∙ ap (λ z. word_in side (fact_row z)) (fact_says b s i))

    pub rule_word : {r : Rule} {n : ℕ} → x ≡ Rules → r ≡ rule_at b s i → n ≡ (rule_row r).left → w ≡ word_in side (record { left = n; right = r.head.0 })
        → w ≡ word_in side (row_by (content_in b s) (number_in (content_in b s) a) x i)
    unfolding row_by
    rule_word {r} e f k g = rw e (g ∙ ap (λ z. word_in side (record { left = z; right = r.head.0 })) k ∙ ap (λ z. word_in side (rule_row z)) (f ∙ rule_says b s i))

    pub entry_word : {z : Entry} {n : ℕ} → x ≡ Entries → z ≡ entry_at b s i → n ≡ number_in (content_in b s) a z.rule
        → w ≡ word_in side (record { left = n; right = z.literal.0 }) → w ≡ word_in side (row_by (content_in b s) (number_in (content_in b s) a) x i)
    unfolding row_by
    entry_word {z} e f k g =
        rw e (g ∙ ap (λ y. word_in side (record { left = y; right = z.literal.0 })) k
        ∙ ap (λ z. word_in side (record { left = number_in (content_in b s) a z.rule; right = z.literal.0 })) (f ∙ entry_says b s i))

    pub pair_word : {z : Pair} {n m : ℕ} → x ≡ Pairs → z ≡ pair_at b s i → n ≡ number_in (content_in b s) a z.stronger
        → m ≡ number_in (content_in b s) a z.weaker → w ≡ word_in side (record { left = n; right = m })
        → w ≡ word_in side (row_by (content_in b s) (number_in (content_in b s) a) x i)
    unfolding row_by
    pair_word e f n m g =
        rw e (g ∙ ap₂ (λ y u. word_in side (record { left = y; right = u })) n m
        ∙ ap (λ z. word_in side (record { left = number_in (content_in b s) a z.stronger; right = number_in (content_in b s) a z.weaker })) (f ∙ pair_says b s i))

-- for the two functions that go by the sections
pub ruleset rows_kept = (kept_fact, kept_rule, kept_entry, kept_pair)

pub ruleset row_words = (fact_word, rule_word, entry_word, pair_word)
