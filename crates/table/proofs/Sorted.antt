-- The ordered sections of an accepted table rise from any place to any later one. Assumes nothing.
use Prim.Native.Nat.{ℕ, zero, suc, ◌+◌, ◌-◌, ◌*◌, ◌≤◌, ◌<◌}
use native.Mathlib.Nat.{lt_trans, lt_irrefl, le_of_lt, le_of_eq, eq-or-lt_of_le, not-suc-le-zero}
use native.Mathlib.Numerals.{add-one}
use native.Mathlib.Omega.{arith}
use mathlib.Core.Path.{◌≡◌, refl, sym, ◌∙◌, ap, subst}
use mathlib.Core.Logic.{◌⊎◌, inl, inr, ⊎_elim}
use mathlib.Core.Bool.{false, cond}
use mathlib.Core.List.{List}
use lib.Dec.{T, eqb, ltb→lt, eqb→eq}
use Rattle.logic.specs.Tests.{every, member, distinct, upto, pick}
use Rattle.logic.specs.Theory.{body_of}
use Rattle.logic.proofs.Tests.{test_cases, of_false, isnt_intro, and_left, and_right, or_elim, every_elim, some_intro, lt_suc_cases, at_most}
use Rattle.logic.proofs.Lists.{member_pick, member_upto, distinct_map, distinct_pick, distinct_upto}
use Rattle.table.specs.declared.format.Sizes.{Sizes}
use Rattle.table.specs.Format.{left, right, facts_from, entries_from, pairs_from, left_in, right_in, fact_at, entry_at, pair_at, body_in, theory_in}
use Rattle.table.specs.Refusals.{section_from, section_size, left_from, section_left, section_right, rises, disorder, Legal}
use Rattle.table.proofs.Legal.{left_in_lem, right_in_lem}

-- in the order by left, then right
unfoldable pub Before : ℕ → ℕ → ℕ → ℕ → Type 0
Before l r m q = (l < m) ⊎ ((l ≡ m) × (r < q))

before_trans : (l r m q n t : ℕ) → Before l r m q → Before m q n t → Before l r n t
unfolding Before
before_trans l r m q n t (inl a) (inl c) = inl (lt_trans a c)
before_trans l r m q n t (inl a) (inr c) = inl (subst (λ z. l < z) c.0 a)
before_trans l r m q n t (inr a) (inl c) = inl (subst (λ z. z < n) (sym a.0) c)
before_trans l r m q n t (inr a) (inr c) = inr (a.0 ∙ c.0, lt_trans a.1 c.1)

pub before_left : (l r m q : ℕ) → Before l r m q → l ≤ m
unfolding Before
before_left l r m q (inl a) = le_of_lt a
before_left l r m q (inr a) = le_of_eq a.0

-- where the left words are equal, the right words rise
pub before_right : (l r m q : ℕ) → l ≡ m → Before l r m q → r < q
unfolding Before
before_right l r m q e (inl a) = absurd (lt_irrefl m (subst (λ z. z < m) e a))
before_right l r m q e (inr a) = a.1

-- as one number
pub before_key : (l r m q : ℕ) → r < 65536 → Before l r m q → 65536 * l + r < 65536 * m + q
unfolding Before
before_key l r m q h (inl a) = omega arith
before_key l r m q h (inr a) = omega (arith, a.0, a.1)

before_same : {l l' r r' m m' q q' : ℕ} → l ≡ l' → r ≡ r' → m ≡ m' → q ≡ q' → Before l r m q → Before l' r' m' q'
before_same e f g h t = coe 0 1 (i. Before (e i) (f i) (g i) (h i)) t

module _ (b : List ℕ) (s : Sizes) (e : disorder b s ≡ false) where
  section_sorted : (k : ℕ) → k < 3 → T (every (section_size s k - 1) (rises b s k))
  unfolding disorder
  section_sorted k h = ⊎_elim (λ t. t) (λ n. absurd (of_false _ e (some_intro 3 _ k h (isnt_intro _ n)))) (test_cases (every (section_size s k - 1) (rises b s k)))

  At : ℕ → ℕ → ℕ → Type 0
  At k i j = Before (section_left b s k i) (section_right b s k i) (section_left b s k j) (section_right b s k j)

  next : (k i : ℕ) → T (rises b s k i) → At k i (i + 1)
  unfolding rises At Before
  next k i t =
      ⊎_elim (λ u. inl (ltb→lt _ _ u)) (λ u. inr (eqb→eq _ _ (and_left _ _ u), ltb→lt _ _ (and_right _ _ u))) (or_elim _ _ t)

  far : (k i j : ℕ) → k < 3 → i < j → j < section_size s k → At k i j
  unfolding At
  far k i zero h l m = absurd (not-suc-le-zero l)
  far k i (suc j) h l m =
      let last : At k j (suc j) = subst (At k j) (add-one j) (next k j (every_elim _ _ (section_sorted k h) j (omega arith))) in
      ⊎_elim (λ c. before_trans _ _ _ _ _ _ (far k i j h c (omega arith)) last) (λ c. subst (λ z. At k z (suc j)) (sym c) last) (lt_suc_cases i j l)

  -- as the readers give it, in a section that is ordered by both words
  rise_in : (k from n : ℕ) → k < 3 → section_from s k ≡ from → section_size s k ≡ n → eqb k 0 ≡ false → (i j : ℕ) → i < j → j < n
      → Before (left_in b from n i) (right_in b s from n i) (left_in b from n j) (right_in b s from n j)
  unfolding At left_from
  rise_in k from n h f g z i j l m =
      before_same (lefts i (lt_trans l m)) (rights i (lt_trans l m)) (lefts j m) (rights j m) (far k i j h l (subst (λ c. j < c) (sym g) m))
    where
      lefts : (c : ℕ) → c < n → section_left b s k c ≡ left_in b from n c
      lefts c v = ap (λ t. cond t 0 (left b (section_from s k + c))) z ∙ ap (λ o. left b (o + c)) f ∙ sym (left_in_lem b from n c v)

      rights : (c : ℕ) → c < n → section_right b s k c ≡ right_in b s from n c
      rights c v = ap (λ o. right b s (o + c)) f ∙ sym (right_in_lem b s from n c v)

  pub facts_rise : (i j : ℕ) → i < j → j < s.facts → (fact_at b s i).0 < (fact_at b s j).0
  unfolding At section_from section_size left_from
  facts_rise i j l m =
      subst (λ z. z < (fact_at b s j).0) (sym (right_in_lem b s (facts_from s) s.facts i (lt_trans l m)))
      (subst (λ z. right b s (facts_from s + i) < z) (sym (right_in_lem b s (facts_from s) s.facts j m)) (before_right _ _ _ _ refl (far 0 i j (omega arith) l m)))

  pub entries_rise : (i j : ℕ) → i < j → j < s.entries
      → Before (entry_at b s i).rule (entry_at b s i).literal.0 (entry_at b s j).rule (entry_at b s j).literal.0
  unfolding section_from section_size
  entries_rise = rise_in 1 (entries_from s) s.entries (omega arith) refl refl refl

  pub pairs_rise : (i j : ℕ) → i < j → j < s.pairs → Before (pair_at b s i).stronger (pair_at b s i).weaker (pair_at b s j).stronger (pair_at b s j).weaker
  unfolding section_from section_size
  pairs_rise = rise_in 2 (pairs_from s) s.pairs (omega arith) refl refl refl

-- Of a legal layout: the entries of one rule rise by literal, and those with one literal by rule.
module _ (b : List ℕ) (s : Sizes) (l : Legal b s) (i j : ℕ) (h : i < j) (k : j < s.entries) where
  pub literals_rise : (entry_at b s i).rule ≡ (entry_at b s j).rule → (entry_at b s i).literal.0 < (entry_at b s j).literal.0
  literals_rise e = before_right _ _ _ _ e (entries_rise b s l.sorted i j h k)

  pub rules_rise : (entry_at b s i).literal.0 ≡ (entry_at b s j).literal.0 → (entry_at b s i).rule < (entry_at b s j).rule
  unfolding Before
  rules_rise e = ⊎_elim (λ a. a) (λ a. absurd (lt_irrefl _ (subst (λ z. z < (entry_at b s j).literal.0) e a.1))) (entries_rise b s l.sorted i j h k)

-- the bodies of an accepted table have no literal twice
pub bodies_apart : (b : List ℕ) (s : Sizes) → Legal b s → (r : ℕ) → T (distinct (body_of (theory_in b s) r))
unfolding theory_in body_in
bodies_apart b s accepted r =
    distinct_map (λ i. (entry_at b s i).literal.0) (pick (upto s.entries) (λ i. eqb (entry_at b s i).rule r)) (distinct_pick (upto s.entries) _ (distinct_upto s.entries)) one
  where
    rises : (i j : ℕ) → T (member i (pick (upto s.entries) (λ k. eqb (entry_at b s k).rule r))) → T (member j (pick (upto s.entries) (λ k. eqb (entry_at b s k).rule r)))
        → i < j → (entry_at b s i).literal.0 < (entry_at b s j).literal.0
    rises i j u v h =
        let (x, e) = member_pick (upto s.entries) _ i u in
        let (y, f) = member_pick (upto s.entries) _ j v in
        literals_rise b s accepted i j h (member_upto s.entries j y) (eqb→eq _ _ e ∙ sym (eqb→eq _ _ f))

    one : (i j : ℕ) → T (member i (pick (upto s.entries) (λ k. eqb (entry_at b s k).rule r))) → T (member j (pick (upto s.entries) (λ k. eqb (entry_at b s k).rule r)))
        → (entry_at b s i).literal.0 ≡ (entry_at b s j).literal.0 → i ≡ j
    one i j u v e =
        ⊎_elim
        (λ l. ⊎_elim (λ o. o) (λ h. absurd (lt_irrefl _ (subst (λ z. z < (entry_at b s j).literal.0) e (rises i j u v h)))) (eq-or-lt_of_le l))
        (λ h. absurd (lt_irrefl _ (subst (λ z. (entry_at b s j).literal.0 < z) e (rises j i v u h)))) (at_most i j)
