-- The pairs of a join by their stronger rules: those of the house, then those of the tour. Assumes nothing.
use Prim.Native.Nat.{ℕ, zero, suc, ◌+◌, ◌-◌, ◌≤◌, ◌<◌}
use native.Mathlib.Nat.{lt_irrefl, lt_of_lt_of_le, add-suc, add-zero}
use native.Mathlib.Omega.{arith}
use mathlib.Core.Path.{◌≡◌, refl, sym, ◌∙◌, ap, ap₂, subst}
use mathlib.Core.Logic.{◌⊎◌, inl, inr, ⊎_elim}
use mathlib.Core.Bool.{Bool}
use mathlib.Core.List.{List, ◌++◌, map, map-append, append-nil, append_assoc, map-map}
use lib.Dec.{T, eqb, ltb→lt, lt→ltb, leb→le, le→leb, eqb→eq}
use lib.ListN.{length, length-append, length-map}
use Rattle.logic.specs.Tests.{count_below, total, upto, pick}
use Rattle.logic.specs.Theory.{Theory, complement, head_of, superior, proper}
use Rattle.logic.proofs.Tests.{test_eq, eq→eqb, and_intro, and_left, and_right, or_left, or_right, or_elim, every_elim, some_elim}
use Rattle.logic.proofs.Lists.{member_upto, pick_same}
use Rattle.logic.proofs.Sums.{total_ext, total_add, count_upto}
use Rattle.logic.proofs.Theories as theories
use Rattle.table.specs.declared.format.Sizes.{Sizes}
use Rattle.table.specs.declared.format.Pair.{Pair}
use Rattle.table.specs.Format.{pair_at, theory_in}
use Rattle.table.specs.Refusals.{Legal}
use Rattle.table.proofs.Legal.{ranged, proper_theory}
use Rattle.files.specs.Contents.{later_pair}
use Rattle.files.proofs.Saying.{count_upto_map}
use Rattle.joining.specs.Joining.{added, later, over, pairs_below}
use Rattle.joining.proofs.Lists.{pick_split, pick_none}
use Rattle.joining.proofs.Pairing.{pair, pairs_canonical}

-- the weaker rule of a pair of a proper theory is one of its rules
pub weaker_in : (d : Theory) → T (proper d) → (t s : ℕ) → T (superior d t s) → s < d.rules
unfolding superior
weaker_in d p t s u =
    let (i, b, v) = some_elim _ _ u in
    subst (λ r. r < d.rules) (eqb→eq _ _ (and_right _ _ v)) (ltb→lt _ _ (and_right _ _ (every_elim _ _ (and_right _ _ p) i b)))

module _ (h k : Theory) where
  -- the three ways to be over a rule
  pub over_cases : (t s : ℕ) → T (over h k t s)
      → T (superior h t s) ⊎ (((h.rules ≤ t) × (h.rules ≤ s) × T (superior k (t - h.rules) (s - h.rules))) ⊎ ((t < h.rules) × (h.rules ≤ s) × (head_of k (s - h.rules) ≡ complement (head_of h t))))
  unfolding over later added
  over_cases t s u =
      ⊎_elim
      (λ v. ⊎_elim inl
      (λ w. inr (inl (leb→le _ _ (and_left _ _ (and_left _ _ w)), leb→le _ _ (and_right _ _ (and_left _ _ w)), and_right _ _ w))) (or_elim _ _ v))
      (λ w. inr (inr (ltb→lt _ _ (and_left _ _ (and_left _ _ w)), leb→le _ _ (and_right _ _ (and_left _ _ w)), eqb→eq _ _ (and_right _ _ w)))) (or_elim _ _ u)

  pub added_in : (t s : ℕ) → t < h.rules → h.rules ≤ s → head_of k (s - h.rules) ≡ complement (head_of h t) → T (over h k t s)
  unfolding over added
  added_in t s a b e = or_right _ _ (and_intro _ _ (and_intro _ _ (lt→ltb t h.rules a) (le→leb h.rules s b)) (eq→eqb _ _ e))

  later_in : (t s : ℕ) → h.rules ≤ t → h.rules ≤ s → T (superior k (t - h.rules) (s - h.rules)) → T (over h k t s)
  unfolding over later
  later_in t s a b u = or_left _ _ (or_right _ _ (and_intro _ _ (and_intro _ _ (le→leb h.rules t a) (le→leb h.rules s b)) u))

  house_in : (t s : ℕ) → T (superior h t s) → T (over h k t s)
  unfolding over
  house_in t s u = or_left _ _ (or_left _ _ u)

  module _ (p : T (proper h)) where
    -- a house rule over the rules of the house, and over those of the tour; a tour rule over the rules of the tour, and over no other
    house_house : (x y : ℕ) → x < h.rules → y < h.rules → over h k x y ≡ superior h x y
    house_house x y a b =
        test_eq _ _
        (λ u. ⊎_elim (λ v. v) (⊎_elim (λ v. absurd (lt_irrefl x (lt_of_lt_of_le a v.0))) (λ v. absurd (lt_irrefl y (lt_of_lt_of_le b v.1)))) (over_cases x y u))
        (house_in x y)

    house_tour : (x j : ℕ) → x < h.rules → over h k x (h.rules + j) ≡ eqb (head_of k j) (complement (head_of h x))
    house_tour x j a =
        test_eq _ _
        (λ u. ⊎_elim (λ v. absurd (lt_irrefl h.rules (omega (arith, weaker_in h p x (h.rules + j) v))))
        (⊎_elim (λ v. absurd (lt_irrefl x (lt_of_lt_of_le a v.0))) (λ v. eq→eqb _ _ (ap (head_of k) (sym back) ∙ v.2))) (over_cases x (h.rules + j) u))
        (λ t. added_in x (h.rules + j) a (omega arith) (ap (head_of k) back ∙ eqb→eq _ _ t))
      where
        back : h.rules + j - h.rules ≡ j
        back = omega arith

    tour_tour : (r j : ℕ) → over h k (h.rules + r) (h.rules + j) ≡ superior k r j
    tour_tour r j =
        test_eq _ _
        (λ u. ⊎_elim (λ v. absurd (lt_irrefl h.rules (omega (arith, weaker_in h p (h.rules + r) (h.rules + j) v))))
        (⊎_elim (λ v. subst T same v.2) (λ v. absurd (lt_irrefl h.rules (omega (arith, v.0))))) (over_cases (h.rules + r) (h.rules + j) u))
        (λ t. later_in (h.rules + r) (h.rules + j) (omega arith) (omega arith) (subst T (sym same) t))
      where
        same : superior k (h.rules + r - h.rules) (h.rules + j - h.rules) ≡ superior k r j
        same = ap₂ (superior k) (let e : h.rules + r - h.rules ≡ r = omega arith in e) (let e : h.rules + j - h.rules ≡ j = omega arith in e)

    tour_house : (r y : ℕ) → y < h.rules → T (over h k (h.rules + r) y) → ⊥
    tour_house r y b u =
        ⊎_elim (λ v. lt_irrefl h.rules (omega (arith, theories.superior_below h p (h.rules + r) y v)))
        (⊎_elim (λ v. lt_irrefl y (lt_of_lt_of_le b v.1)) (λ v. lt_irrefl y (lt_of_lt_of_le b v.1))) (over_cases (h.rules + r) y u)

    -- what a house rule is over, and what a tour rule is over
    house_part : (n x : ℕ) → x < h.rules
        → pick (upto (h.rules + n)) (over h k x) ≡ pick (upto h.rules) (superior h x) ++ map (λ j. h.rules + j) (pick (upto n) (λ j. eqb (head_of k j) (complement (head_of h x))))
    house_part n x a =
        pick_split h.rules n (over h k x)
        ∙ ap₂ (λ l m. l ++ map (λ j. h.rules + j) m) (pick_same (upto h.rules) _ _ (λ y u. house_house x y a (member_upto h.rules y u)))
        (pick_same (upto n) _ _ (λ j _. house_tour x j a))

    tour_part : (n r : ℕ) → pick (upto (h.rules + n)) (over h k (h.rules + r)) ≡ map (λ j. h.rules + j) (pick (upto n) (superior k r))
    tour_part n r =
        pick_split h.rules n (over h k (h.rules + r))
        ∙ ap₂ (λ l m. l ++ map (λ j. h.rules + j) m) (pick_none h.rules _ (tour_house r)) (pick_same (upto n) _ _ (λ j _. tour_tour r j))

    -- the pairs of the first r tour rules come after those of the house's rules
    tour_pairs : (n r : ℕ) → pairs_below (h.rules + r) (h.rules + n) (over h k)
        ≡ pairs_below h.rules (h.rules + n) (over h k) ++ map (later_pair h.rules) (pairs_below r n (superior k))
    unfolding pairs_below
    tour_pairs n zero = ap (λ m. pairs_below m (h.rules + n) (over h k)) (add-zero h.rules) ∙ sym (append-nil _)
    tour_pairs n (suc r) =
        ap (λ m. pairs_below m (h.rules + n) (over h k)) (add-suc h.rules r)
        ∙ ap₂ (λ l m. l ++ map (pair (h.rules + r)) m) (tour_pairs n r) (tour_part n r)
        ∙ append_assoc (pairs_below h.rules (h.rules + n) (over h k)) (map (later_pair h.rules) (pairs_below r n (superior k))) _
        ∙ ap (pairs_below h.rules (h.rules + n) (over h k) ++◌)
        (ap (map (later_pair h.rules) (pairs_below r n (superior k)) ++◌)
        (map-map (pair (h.rules + r)) (λ j. h.rules + j) row ∙ sym (map-map (later_pair h.rules) (pair r) row))
        ∙ sym (map-append (later_pair h.rules) (pairs_below r n (superior k)) (map (pair r) row)))
      where
        row : List ℕ
        row = pick (upto n) (superior k r)

-- how many pairs a relation has
pub pairs_length : (m n : ℕ) (R : ℕ → ℕ → Bool) → length (pairs_below m n R) ≡ total m (λ x. length (pick (upto n) (R x)))
unfolding pairs_below total
pairs_length zero n R = refl
pairs_length (suc m) n R = length-append (pairs_below m n R) _ ∙ ap₂ ◌+◌ (pairs_length m n R) (length-map (pick (upto n) (R m)) (pair m))

-- The rows of the join of two accepted tables, and how many there are.
module _ (b : List ℕ) (s : Sizes) (l : Legal b s) (c : List ℕ) (t : Sizes) (m : Legal c t) where
  house_proper : T (proper (theory_in b s))
  house_proper = proper_theory b s (ranged b s l.ranges)

  pub house_row : (x : ℕ) → x < s.rules
      → pick (upto (s.rules + t.rules)) (over (theory_in b s) (theory_in c t) x)
      ≡ pick (upto s.rules) (superior (theory_in b s) x)
      ++ map (λ j. s.rules + j) (pick (upto t.rules) (λ j. eqb (head_of (theory_in c t) j) (complement (head_of (theory_in b s) x))))
  unfolding theory_in
  house_row x h = house_part (theory_in b s) (theory_in c t) house_proper t.rules x h

  pub tour_rows : pairs_below (s.rules + t.rules) (s.rules + t.rules) (over (theory_in b s) (theory_in c t))
      ≡ pairs_below s.rules (s.rules + t.rules) (over (theory_in b s) (theory_in c t)) ++ map (later_pair s.rules) (pairs_below t.rules t.rules (superior (theory_in c t)))
  unfolding theory_in
  tour_rows = tour_pairs (theory_in b s) (theory_in c t) house_proper t.rules t.rules

  pub pairs_count : length (pairs_below (s.rules + t.rules) (s.rules + t.rules) (over (theory_in b s) (theory_in c t)))
      ≡ s.pairs + t.pairs + total s.rules (λ x. count_below t.rules (λ j. eqb (head_of (theory_in c t) j) (complement (head_of (theory_in b s) x))))
  pairs_count = omega (
    arith,
    ap length tour_rows ∙ length-append house _,
    length-map (pairs_below t.rules t.rules (superior (theory_in c t))) (later_pair s.rules),
    listed c t m,
    listed b s l,
    pairs_length s.rules s.rules (superior (theory_in b s)),
    pairs_length s.rules (s.rules + t.rules) (over (theory_in b s) (theory_in c t)) ∙ total_ext s.rules _ _ row
        ∙ total_add s.rules (λ x. length (pick (upto s.rules) (superior (theory_in b s) x))) _,
  )
    where
      house : List Pair
      house = pairs_below s.rules (s.rules + t.rules) (over (theory_in b s) (theory_in c t))

      listed : (b : List ℕ) (s : Sizes) → Legal b s → length (pairs_below s.rules s.rules (superior (theory_in b s))) ≡ s.pairs
      listed b s l = ap length (sym (pairs_canonical b s l)) ∙ count_upto_map (pair_at b s) s.pairs

      row : (x : ℕ) → x < s.rules → length (pick (upto (s.rules + t.rules)) (over (theory_in b s) (theory_in c t) x))
          ≡ length (pick (upto s.rules) (superior (theory_in b s) x)) + count_below t.rules (λ j. eqb (head_of (theory_in c t) j) (complement (head_of (theory_in b s) x)))
      row x h =
          ap length (house_row x h) ∙ length-append (pick (upto s.rules) (superior (theory_in b s) x)) _
          ∙ ap (length (pick (upto s.rules) (superior (theory_in b s) x)) +◌)
          (length-map (pick (upto t.rules) (λ j. eqb (head_of (theory_in c t) j) (complement (head_of (theory_in b s) x)))) (λ j. s.rules + j) ∙ count_upto t.rules _)
