-- Laws of the ordered sections. Assumes nothing.
use Prim.Native.Nat.{ℕ, zero, suc, ◌+◌, ◌-◌, ◌*◌, ◌<◌, ◌≤◌}
use native.Mathlib.Nat.{lt_of_lt_of_le, lt_irrefl}
use native.Mathlib.Omega.{arith}
use mathlib.Core.Logic.{⊎_elim}
use borrow.Author.Count.{below_more}
use mathlib.Core.Path.{◌≡◌, refl, ◌∙◌, ap, ap₂, sym, subst}
use mathlib.Core.Bool.{true, false}
use mathlib.Core.List.{List}
use lib.Dec.{T, ltb, eqb, eqb→eq, ltb→lt, lt→ltb, le→leb}
use Rattle.logic.specs.Tests.{◌and◌, ◌or◌, every}
use Rattle.logic.proofs.Tests.{of_false, cond_false, at_most, eq→eqb, and_intro, and_left, and_right, or_left, or_right, or_elim, some_intro, isnt_intro, isnt_elim, every_intro, every_elim, some_found, some_none}
use Rattle.table.specs.declared.format.Sizes.{Sizes}
use Rattle.table.specs.Format.{word, span_of, left, facts_from, entries_from, pairs_from}
use Rattle.table.specs.Refusals.{bad_fact, section_from, section_size, left_from, section_left, section_right, rises, disorder}
use Rattle.table.specs.Keys.{Key}

assoc : (a j : ℕ) → 5 + a + j ≡ 5 + (a + j)
assoc a j = omega arith

-- two keys compare as their words do, the left ones first
module _ (l m p q : ℕ) {x y : ℕ} (e : x ≡ 65536 * l + p) (f : y ≡ 65536 * m + q) (u : p < 65536) (v : q < 65536) where
  lexical : x < y → T (ltb l m or (eqb l m and ltb p q))
  lexical h =
      ⊎_elim (λ (k : m ≤ l). let i : l ≡ m = omega arith in let j : p < q = omega arith in or_right _ _ (and_intro _ _ (eq→eqb l m i) (lt→ltb p q j)))
      (λ k. or_left _ _ (lt→ltb l m k)) (at_most m l)

  lexical_not : y ≤ x → T (ltb l m or (eqb l m and ltb p q)) → ⊥
  lexical_not h t =
      ⊎_elim (λ i. let k : l < m = ltb→lt l m i in lt_irrefl x (omega arith))
      (λ i. let k : l ≡ m = eqb→eq l m (and_left _ _ i) in let j : p < q = ltb→lt p q (and_right _ _ i) in lt_irrefl x (omega arith)) (or_elim _ _ t)

-- the left word of an entry by which it is ordered: once kinds are ruled out, a fact's is 0
module _ (b : List ℕ) (s : Sizes) (zeros : bad_fact b s ≡ false) where
  pub fact_left : (i : ℕ) → i < s.facts → left b (facts_from s + i) ≡ 0
  unfolding bad_fact
  fact_left i h = zero_of _ (λ k. of_false _ zeros (some_intro s.facts _ i h (le→leb 1 _ k)))
    where
      zero_of : (n : ℕ) → (1 ≤ n → ⊥) → n ≡ 0
      zero_of zero f = refl
      zero_of (suc n) f = absurd (f (omega arith))

  section_word : (k j : ℕ) → j < section_size s k → left_from b k (section_from s k) j ≡ word b (5 + section_from s k + j)
  unfolding section_size section_from left_from
  section_word zero j h = sym (fact_left j h) ∙ ap (word b) (sym (assoc 0 j))
  section_word (suc zero) j h = ap (word b) (sym (assoc (entries_from s) j))
  section_word (suc (suc k)) j h = cond_false (eqb (suc (suc k)) 0) _ _ (λ t. not_zero (eqb→eq _ _ t)) ∙ ap (word b) (sym (assoc (pairs_from s) j))
    where
      not_zero : suc (suc k) ≡ 0 → ⊥
      not_zero e = omega arith

  -- two neighbours rise exactly if their keys do
  module _ (k j from span : ℕ) (f : from ≡ section_from s k) (g : span ≡ span_of s) (h : j + 1 < section_size s k) {x y : ℕ} (p : Key b (5 + from) (5 + from + span) j x) (q : Key b (5 + from) (5 + from + span) (j + 1) y) where
    left_1 : section_left b s k j ≡ word b (5 + from + j)
    left_1 = section_word k j (omega arith) ∙ ap (λ z. word b (5 + z + j)) (sym f)

    left_2 : section_left b s k (j + 1) ≡ word b (5 + from + (j + 1))
    left_2 = section_word k (j + 1) h ∙ ap (λ z. word b (5 + z + (j + 1))) (sym f)

    right_at : (i : ℕ) → section_right b s k i ≡ word b (5 + from + span + i)
    right_at i = let e : 5 + span_of s + (section_from s k + i) ≡ 5 + from + span + i = omega arith in ap (word b) e

    -- the words of the two, and their keys
    facts : (x ≡ 65536 * section_left b s k j + section_right b s k j) × (y ≡ 65536 * section_left b s k (j + 1) + section_right b s k (j + 1))
        × (section_right b s k j < 65536) × (section_right b s k (j + 1) < 65536)
    facts = (
      p.whole ∙ sym (ap₂ (λ u v. 65536 * u + v) left_1 (right_at j)),
      q.whole ∙ sym (ap₂ (λ u v. 65536 * u + v) left_2 (right_at (j + 1))),
      subst (λ z. z < 65536) (sym (right_at j)) p.low,
      subst (λ z. z < 65536) (sym (right_at (j + 1))) q.low,
    )

    pub keys_rise : x < y → T (rises b s k j)
    unfolding rises
    keys_rise l = lexical (section_left b s k j) (section_left b s k (j + 1)) (section_right b s k j) (section_right b s k (j + 1)) facts.0 facts.1 facts.2 facts.3 l

    pub keys_fall : y ≤ x → T (rises b s k j) → ⊥
    unfolding rises
    keys_fall l t = lexical_not (section_left b s k j) (section_left b s k (j + 1)) (section_right b s k j) (section_right b s k (j + 1)) facts.0 facts.1 facts.2 facts.3 l t

-- sections before k are in order
abbrev pub InOrder : List ℕ → Sizes → ℕ → Type 0
InOrder b s k = (j : ℕ) → j < k → T (every (section_size s j - 1) (rises b s j))

pub no_disorder : (b : List ℕ) (s : Sizes) (k : ℕ) → 3 ≤ k → InOrder b s k → false ≡ disorder b s
unfolding disorder
no_disorder b s k h f = some_none 3 _ (λ j l t. isnt_elim _ t (f j (lt_of_lt_of_le l h)))

pub disorder_at : (b : List ℕ) (s : Sizes) (k i : ℕ) → k < 3 → i < section_size s k - 1 → (T (rises b s k i) → ⊥) → true ≡ disorder b s
unfolding disorder
disorder_at b s k i h l n = some_found 3 _ k h (isnt_intro _ (λ t. n (every_elim _ _ t i l)))

pub in_order_next : (b : List ℕ) (s : Sizes) (k : ℕ) → InOrder b s k → ((j : ℕ) → j < section_size s k - 1 → T (rises b s k j)) → InOrder b s (k + 1)
in_order_next b s k f g = below_more _ k f (every_intro _ _ g)

-- a section lies within the arrays
pub section_inside : (s : Sizes) (k : ℕ) → section_from s k + section_size s k ≤ span_of s
unfolding section_from section_size
section_inside s zero = omega arith
section_inside s (suc zero) = omega arith
section_inside s (suc (suc k)) = omega arith

-- the next entry of a section, by its key and the one before
module _ (b : List ℕ) (s : Sizes) (zeros : bad_fact b s ≡ false) (k from span : ℕ) (f : from ≡ section_from s k) (g : span ≡ span_of s) where
  pub key_on : (i : ℕ) {x : ℕ} → Key b (5 + from) (5 + from + span) i x → Key b (5 + from) (5 + from + span) (i + 1 - 1) x
  key_on i {x} q = let e : i ≡ i + 1 - 1 = omega arith in subst (λ z. Key b (5 + from) (5 + from + span) z x) e q

  module _ (m : ℕ) (h : m + 1 < section_size s k) {x y : ℕ} (p : Key b (5 + from) (5 + from + span) m x) (q : Key b (5 + from) (5 + from + span) (m + 1) y) where
    pub rises_on : x < y → ((j : ℕ) → j + 1 < m + 1 → T (rises b s k j)) → (j : ℕ) → j + 1 < m + 1 + 1 → T (rises b s k j)
    rises_on l c j d =
        ⊎_elim (λ u. let e : m ≡ j = omega arith in subst (λ z. T (rises b s k z)) e (keys_rise b s zeros k m from span f g h p q l)) (c j) (at_most (m + 1) (j + 1))

    pub falls_at : k < 3 → y ≤ x → true ≡ disorder b s
    falls_at t l = disorder_at b s k m t (omega arith) (keys_fall b s zeros k m from span f g h p q l)

  module _ (i : ℕ) (one : 1 ≤ i) (h : i < section_size s k) {x y : ℕ} (p : Key b (5 + from) (5 + from + span) (i - 1) x) (q : Key b (5 + from) (5 + from + span) i y) where
    same : i - 1 + 1 ≡ i
    same = omega arith

    last_key : Key b (5 + from) (5 + from + span) (i - 1 + 1) y
    last_key = subst (λ z. Key b (5 + from) (5 + from + span) z y) (sym same) q

    pub rises_next : x < y → ((j : ℕ) → j + 1 < i → T (rises b s k j)) → (j : ℕ) → j + 1 < i + 1 → T (rises b s k j)
    rises_next l c j d = rises_on (i - 1) (omega arith) p last_key l (λ n u. c n (omega arith)) j (omega arith)

    pub falls_next : k < 3 → y ≤ x → true ≡ disorder b s
    falls_next t l = falls_at (i - 1) (omega arith) p last_key t l
