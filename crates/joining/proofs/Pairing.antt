-- The pairs of a relation as they are listed, and that an accepted table's pairs are those of its superiority. Assumes nothing.
use Prim.Native.Nat.{ℕ, zero, suc, ◌+◌, ◌-◌, ◌≤◌, ◌<◌}
use native.Mathlib.Nat.{le_refl, le_step, lt_irrefl, le_antisymm, le_of_lt, lt_of_lt_of_le, not-suc-le-zero}
use native.Mathlib.Numerals.{add-one}
use native.Mathlib.Omega.{arith}
use mathlib.Core.Path.{◌≡◌, refl, sym, ◌∙◌, ap, ap₂, subst}
use mathlib.Core.Logic.{◌↔◌, ◌⊎◌, inl, inr, ⊎_elim}
use mathlib.Core.Bool.{Bool}
use mathlib.Core.List.{List, [], ◌∷◌, ◌++◌, map, map-append, map-map}
use lib.Dec.{T, ltb, eqb→eq, eqb_refl, ltb→lt, lt→ltb}
use lib.ListN.{length, get_or, length-append, length-map, get_or-append}
use lib.Seq.{get_or-append-add}
use Rattle.logic.specs.Tests.{member, upto, pick}
use Rattle.logic.specs.Theory.{Theory, superior}
use Rattle.logic.proofs.Tests.{test_eq, at_most, lt_suc_cases, and_intro, and_left, and_right, some_intro, some_elim}
use Rattle.logic.proofs.Lists.{member_nil, member_here, member_there, member_cons_elim, member_map, member_map_intro, member_upto, member_upto_intro, member_pick, member_pick_intro}
use Rattle.logic.proofs.Rising.{rising_upto, rising_pick, rising_map, rising_same, rising_from, count_all, count_down, count_up}
use Rattle.logic.proofs.Sums.{total_le, total_zero, weigh_imply, weigh_false}
use Rattle.logic.proofs.Pigeon.{count_le}
use Rattle.table.specs.declared.format.Sizes.{Sizes}
use Rattle.table.specs.declared.format.Pair.{Pair}
use Rattle.table.specs.Format.{pair_at, theory_in}
use Rattle.table.specs.Refusals.{Legal}
use Rattle.table.proofs.Legal.{ranged, stronger_below, weaker_below}
use Rattle.table.proofs.Sorted.{Before, before_left, before_right, pairs_rise}
use Rattle.files.specs.Contents.{Content, Row, fact_row, pair_row, theory_from}
use Rattle.std.proofs.lemmas.List.{get_or-map}
use Rattle.files.proofs.Proper.{row_at, RowBefore, Rising}
use Rattle.files.proofs.Theories as theories
use Rattle.files.proofs.Reading.{row_of}
use Rattle.files.proofs.Rows.{rows_rise}
use Rattle.joining.specs.Joining.{pairs_below, pairs_under}
use Rattle.joining.proofs.Lists.{map_below, upto_split, places}

-- rule t over rule s; the pair stands in a list
abbrev pub pair : ℕ → ℕ → Pair
pair t s = record { stronger = t; weaker = s }

abbrev pub Listed : List Pair → ℕ → ℕ → Type 0
Listed l t s = (i : ℕ) × (i < length l) × (get_or l i (pair 0 0) ≡ pair t s)

listed_left : (l m : List Pair) (t s : ℕ) → Listed l t s → Listed (l ++ m) t s
listed_left l m t s (i, h, e) = (i, omega (arith, length-append l m), get_or-append l m (pair 0 0) i h ∙ e)

listed_right : (l m : List Pair) (t s : ℕ) → Listed m t s → Listed (l ++ m) t s
listed_right l m t s (i, h, e) = (length l + i, omega (arith, length-append l m), get_or-append-add l m i (pair 0 0) ∙ e)

listed_append : (l m : List Pair) (t s : ℕ) → Listed (l ++ m) t s → Listed l t s ⊎ Listed m t s
listed_append l m t s (i, h, e) =
    ⊎_elim (λ k. inl (i, k.0, sym k.1 ∙ e)) (λ k. let (j, u, _, f) = k in inr (j, u, sym f ∙ e)) (places l m (pair 0 0) i h)

-- the pairs of one stronger rule
listed_row : (x s : ℕ) (k : List ℕ) → T (member s k) → Listed (map (pair x) k) x s
listed_row x s [] m = absurd (member_nil s m)
listed_row x s (y ∷ k) m =
    ⊎_elim (λ e. (0, omega arith, ap (pair x) (sym e))) (λ u. let (i, h, e) = listed_row x s k u in (suc i, omega arith, e)) (member_cons_elim s y k m)

row_listed : (x t s : ℕ) (k : List ℕ) → Listed (map (pair x) k) t s → (t ≡ x) × T (member s k)
row_listed x t s [] (i, h, e) = absurd (not-suc-le-zero h)
row_listed x t s (y ∷ k) (zero, h, e) = (sym (ap (λ p. p.stronger) e), subst (λ z. T (member z (y ∷ k))) (ap (λ p. p.weaker) e) (member_here y k))
row_listed x t s (y ∷ k) (suc i, h, e) = let (a, m) = row_listed x t s k (i, omega arith, e) in (a, member_there s y k m)

-- the pairs of a relation are listed, and no others
pairs_in : (m n : ℕ) (R : ℕ → ℕ → Bool) (t s : ℕ) → t < m → s < n → T (R t s) → Listed (pairs_below m n R) t s
unfolding pairs_below
pairs_in zero n R t s h k r = absurd (not-suc-le-zero h)
pairs_in (suc m) n R t s h k r =
    let row : List Pair = map (pair m) (pick (upto n) (R m)) in
    ⊎_elim (λ l. listed_left (pairs_below m n R) row t s (pairs_in m n R t s l k r))
    (λ e. listed_right (pairs_below m n R) row t s (subst (λ z. Listed row z s) (sym e)
    (listed_row m s _ (member_pick_intro (upto n) (R m) s (member_upto_intro n s k) (subst (λ z. T (R z s)) e r)))))
    (lt_suc_cases t m h)

pairs_only : (m n : ℕ) (R : ℕ → ℕ → Bool) (t s : ℕ) → Listed (pairs_below m n R) t s → (t < m) × (s < n) × T (R t s)
unfolding pairs_below
pairs_only zero n R t s (i, h, e) = absurd (not-suc-le-zero h)
pairs_only (suc m) n R t s u =
    ⊎_elim (λ v. let (a, b, r) = pairs_only m n R t s v in (le_step a, b, r))
    (λ v. let (e, w) = row_listed m t s _ v in
    let (b, r) = member_pick (upto n) (R m) s w in
    (subst (λ z. z < suc m) (sym e) (le_refl (suc m)), member_upto n s b, subst (λ z. T (R z s)) (sym e) r))
    (listed_append (pairs_below m n R) _ t s u)

pub pairs_listed : (m n : ℕ) (R : ℕ → ℕ → Bool) (t s : ℕ) → ((t < m) × (s < n) × T (R t s)) ↔ Listed (pairs_below m n R) t s
pairs_listed m n R t s = (λ u. pairs_in m n R t s u.0 u.1 u.2, pairs_only m n R t s)

pub pairs_range : (m n : ℕ) (R : ℕ → ℕ → Bool) (i : ℕ) → i < length (pairs_below m n R)
    → ((get_or (pairs_below m n R) i (pair 0 0)).stronger < m) × ((get_or (pairs_below m n R) i (pair 0 0)).weaker < n)
pairs_range m n R i h = let (a, b, _) = pairs_only m n R _ _ (i, h, refl) in (a, b)

-- superiority by listed pairs
pub superior_listed : (c : Content) (m n : ℕ) (R : ℕ → ℕ → Bool) → c.pairs ≡ pairs_below m n R → (t s : ℕ)
    → T (superior (theory_from c) t s) ↔ ((t < m) × (s < n) × T (R t s))
superior_listed c m n R e t s = (
  λ u. let (i, h, f, g) = (theories.superior_place c t s).0 u in pairs_only m n R t s (subst (λ l. Listed l t s) e (i, h, ap₂ pair f g)),
  λ u. let (i, h, v) = subst (λ l. Listed l t s) (sym e) (pairs_in m n R t s u.0 u.1 u.2) in
      (theories.superior_place c t s).1 (i, h, ap (λ p. p.stronger) v, ap (λ p. p.weaker) v),
)

pub superior_below : (c : Content) (n : ℕ) (R : ℕ → ℕ → Bool) → c.pairs ≡ pairs_below n n R → ((t s : ℕ) → T (R t s) → (t < n) × (s < n))
    → (t s : ℕ) → superior (theory_from c) t s ≡ R t s
superior_below c n R e b t s = let (f, g) = superior_listed c n n R e t s in test_eq _ _ (λ u. (f u).2) (λ r. let (x, y) = b t s r in g (x, y, r))

-- rows that rise, after which come rows that rise
pub rising_append : (l m : List Row) → Rising l → Rising m
    → ((i j : ℕ) → i < length l → j < length m → RowBefore (row_at l i) (row_at m j)) → Rising (l ++ m)
rising_append l m p q b i j h k = ⊎_elim
    (λ v. before (⊎_elim (λ u. u.1) (λ u. absurd (lt_irrefl i (omega (arith, v.0, u.2)))) (at i (omega arith))) v.1 (p i j h v.0))
    (λ v. let (y, w, e, f) = v in
    ⊎_elim (λ u. before u.1 f (b i y u.0 w)) (λ u. let (x, a, c, g) = u in before g f (q x y (omega (arith, c, e)) w)) (at i (omega arith)))
    (at j k)
  where
    at : (i : ℕ) → i < length (l ++ m) → ((i < length l) × (row_at (l ++ m) i ≡ row_at l i)) ⊎ ((j : ℕ) × (j < length m) × (i ≡ length l + j) × (row_at (l ++ m) i ≡ row_at m j))
    at = places l m (fact_row 0)

    before : {v w v' w' : Row} → v ≡ v' → w ≡ w' → RowBefore v' w' → RowBefore v w
    before e f t = coe 0 1 (z. RowBefore (sym e z) (sym f z)) t

-- the rows of one left word
abbrev pub rows_over : ℕ → List ℕ → List Row
rows_over x k = map (λ s. record { left = x; right = s }) k

row_over : (x : ℕ) (k : List ℕ) (i : ℕ) → i < length (rows_over x k) → row_at (rows_over x k) i ≡ record { left = x; right = get_or k i 0 }
row_over x k i h = get_or-map _ k i 0 _ (subst (λ z. i < z) (length-map k _) h)

-- they rise, and so do the rows of a relation
pub over_rising : (x : ℕ) (k : List ℕ) → T (rising_from 0 k) → Rising (rows_over x k)
unfolding Before
over_rising x k r = rows_rise _ k r (λ i j h _ _. inr (refl, h))

pub pairs_rising : (m n : ℕ) (R : ℕ → ℕ → Bool) → Rising (map pair_row (pairs_below m n R))
unfolding pairs_below Before
pairs_rising zero n R = λ i j h k. absurd (not-suc-le-zero k)
pairs_rising (suc m) n R =
    subst Rising (sym (map-append pair_row (pairs_below m n R) (map (pair m) row) ∙ ap (map pair_row (pairs_below m n R) ++◌) (map-map pair_row (pair m) row)))
    (rising_append (map pair_row (pairs_below m n R)) (rows_over m row) (pairs_rising m n R) (over_rising m row (rising_pick 0 (upto n) (R m) (rising_upto n)))
    (λ i j h k. let u : i < length (pairs_below m n R) = omega (arith, h, length-map (pairs_below m n R) pair_row) in
    inl (coe 0 1 (z. (sym (row_of pair_row (pairs_below m n R) (pair 0 0) i refl) z).left < (sym (row_over m row j k) z).left) (pairs_range m n R i u).0)))
  where
    row : List ℕ
    row = pick (upto n) (R m)

-- the pairs of rule x stand from `pairs_under d x` on
pub under_none : (d : Theory) → pairs_under d 0 ≡ 0
under_none d = total_zero d.pairs _ (λ i _. weigh_false _ 1 (λ t. not-suc-le-zero (ltb→lt (d.pair i).stronger 0 t)))

pub under_grows : (d : Theory) (x : ℕ) → pairs_under d x ≤ pairs_under d (x + 1)
under_grows d x = total_le d.pairs _ _ (λ i _. weigh_imply (ltb (d.pair i).stronger x) _ 1 (λ t. let h : (d.pair i).stronger < x = ltb→lt _ _ t in lt→ltb (d.pair i).stronger (x + 1) (omega arith)))

pub under_most : (b : List ℕ) (s : Sizes) (x : ℕ) → pairs_under (theory_in b s) x ≤ s.pairs
unfolding theory_in
under_most b s x = count_le s.pairs _

pub under_ends : (b : List ℕ) (s : Sizes) → Legal b s → pairs_under (theory_in b s) s.rules ≡ s.pairs
unfolding theory_in
under_ends b s l = count_all _ s.pairs (λ i h. lt→ltb _ _ (stronger_below b s (ranged b s l.ranges) i h))

module _ (b : List ℕ) (s : Sizes) (l : Legal b s) where
  -- where the pairs of x begin, and how many they are
  abbrev from : ℕ → ℕ
  from x = pairs_under (theory_in b s) x

  abbrev own : ℕ → ℕ
  own x = pairs_under (theory_in b s) (x + 1) - pairs_under (theory_in b s) x

  -- a pair has a stronger rule below n just where it stands below the count of those
  down : (n i j : ℕ) → i < j → j < s.pairs → T (ltb (pair_at b s j).stronger n) → T (ltb (pair_at b s i).stronger n)
  down n i j h m t =
      let u : (pair_at b s j).stronger < n = ltb→lt _ _ t in
      let v : (pair_at b s i).stronger ≤ (pair_at b s j).stronger = before_left _ _ _ _ (pairs_rise b s l.sorted i j h m) in
      lt→ltb (pair_at b s i).stronger n (omega arith)

  place_under : (n i : ℕ) → i < s.pairs → (pair_at b s i).stronger < n → i < from n
  unfolding theory_in
  place_under n i h k = count_down (λ j. ltb (pair_at b s j).stronger n) s.pairs (down n) i h (lt→ltb _ _ k)

  under_place : (n i : ℕ) → i < from n → (pair_at b s i).stronger < n
  unfolding theory_in
  under_place n i k = ltb→lt _ _ (count_up (λ j. ltb (pair_at b s j).stronger n) s.pairs (down n) i k)

  -- the pairs of x stand from the count below x on, before that below x + 1
  of_place : (x i : ℕ) → from x ≤ i → i < from (x + 1) → (pair_at b s i).stronger ≡ x
  of_place x i h k =
      let up : (pair_at b s i).stronger < x + 1 = under_place (x + 1) i k in
      let low : (pair_at b s i).stronger < x → i < from x = place_under x i (lt_of_lt_of_le k (under_most b s (x + 1))) in
      ⊎_elim (λ m. absurd (lt_irrefl i (lt_of_lt_of_le (low m) h))) (λ m. omega arith) (at_most (suc (pair_at b s i).stronger) x)

  place_of : (x i : ℕ) → i < s.pairs → (pair_at b s i).stronger ≡ x → (from x ≤ i) × (i < from (x + 1))
  place_of x i h e = (
    ⊎_elim (λ m. m) (λ m. absurd (lt_irrefl x (subst (λ z. z < x) e (under_place x i m)))) (at_most (from x) i),
    place_under (x + 1) i h (omega arith),
  )

  pub own_strong : (x i : ℕ) → i < pairs_under (theory_in b s) (x + 1) - pairs_under (theory_in b s) x → (pair_at b s (pairs_under (theory_in b s) x + i)).stronger ≡ x
  own_strong x i h = of_place x (from x + i) (omega arith) (omega arith)

  -- what a scan from the first pair of x finds
  pub under_next : (x i : ℕ) → pairs_under (theory_in b s) x ≤ i → i ≤ s.pairs → ((j : ℕ) → pairs_under (theory_in b s) x ≤ j → j < i → (pair_at b s j).stronger ≡ x)
      → (i < s.pairs → (pair_at b s i).stronger ≡ x → ⊥) → i ≡ pairs_under (theory_in b s) (x + 1)
  under_next x i h k f n = le_antisymm
      (⊎_elim (λ m. m) (λ m. absurd (lt_irrefl (from (x + 1)) (place_of x _ (lt_of_lt_of_le m k) (f _ (under_grows (theory_in b s) x) m)).1)) (at_most i (from (x + 1))))
      (⊎_elim (λ m. m) (λ m. absurd (n (lt_of_lt_of_le m (under_most b s (x + 1))) (of_place x i h m))) (at_most (from (x + 1)) i))

  -- a rule is over another by one of its pairs
  superior_place : (x y : ℕ) → T (superior (theory_in b s) x y) → (i : ℕ) × (i < s.pairs) × ((pair_at b s i).stronger ≡ x) × ((pair_at b s i).weaker ≡ y)
  unfolding superior theory_in
  superior_place x y t = let (i, h, u) = some_elim _ _ t in (i, h, eqb→eq _ _ (and_left _ _ u), eqb→eq _ _ (and_right _ _ u))

  place_superior : (i : ℕ) → i < s.pairs → T (superior (theory_in b s) (pair_at b s i).stronger (pair_at b s i).weaker)
  unfolding superior theory_in
  place_superior i h = some_intro _ _ i h (and_intro _ _ (eqb_refl (pair_at b s i).stronger) (eqb_refl (pair_at b s i).weaker))

  -- the weaker rules of the pairs of x are the rules that x is over
  pub own_row : (x : ℕ) → x < s.rules
      → map (λ i. (pair_at b s (pairs_under (theory_in b s) x + i)).weaker) (upto (pairs_under (theory_in b s) (x + 1) - pairs_under (theory_in b s) x))
      ≡ pick (upto s.rules) (superior (theory_in b s) x)
  own_row x _ = rising_same 0 _ _ (rising_map weak (own x) rise) (rising_pick 0 (upto s.rules) _ (rising_upto s.rules)) inside outside
    where
      weak : ℕ → ℕ
      weak i = (pair_at b s (from x + i)).weaker

      place : (i : ℕ) → i < own x → from x + i < s.pairs
      place i h = omega (arith, h, under_most b s (x + 1))

      rise : (i j : ℕ) → i < j → j < own x → weak i < weak j
      rise i j h k =
          before_right _ _ _ _ (own_strong x i (omega arith) ∙ sym (own_strong x j k))
          (pairs_rise b s l.sorted (from x + i) (from x + j) (omega arith) (place j k))

      inside : (y : ℕ) → T (member y (map weak (upto (own x)))) → T (member y (pick (upto s.rules) (superior (theory_in b s) x)))
      inside y m =
          let (i, u, e) = member_map weak (upto (own x)) y m in
          let h : i < own x = member_upto (own x) i u in
          subst (λ z. T (member z (pick (upto s.rules) (superior (theory_in b s) x)))) (sym e)
          (member_pick_intro (upto s.rules) _ (weak i) (member_upto_intro s.rules (weak i) (weaker_below b s (ranged b s l.ranges) (from x + i) (place i h)))
          (subst (λ z. T (superior (theory_in b s) z (weak i))) (own_strong x i h) (place_superior (from x + i) (place i h))))

      outside : (y : ℕ) → T (member y (pick (upto s.rules) (superior (theory_in b s) x))) → T (member y (map weak (upto (own x))))
      outside y m =
          let (i, h, e, f) = superior_place x y (member_pick (upto s.rules) _ y m).1 in
          let (low, up) = place_of x i h e in
          let at : from x + (i - from x) ≡ i = omega arith in
          subst (λ z. T (member z (map weak (upto (own x))))) (ap (λ z. (pair_at b s z).weaker) at ∙ f)
          (member_map_intro weak (upto (own x)) (i - from x) (member_upto_intro (own x) (i - from x) (omega arith)))

  -- so the pairs with a stronger rule below x are those of superiority
  pairs_upto : (x : ℕ) → x ≤ s.rules → map (pair_at b s) (upto (from x)) ≡ pairs_below x s.rules (superior (theory_in b s))
  unfolding pairs_below upto
  pairs_upto zero h = ap (λ n. map (pair_at b s) (upto n)) (under_none (theory_in b s))
  pairs_upto (suc x) h =
      ap (λ n. map (pair_at b s) (upto n)) whole ∙ ap (map (pair_at b s)) (upto_split (from x) (own x)) ∙ map-append (pair_at b s) (upto (from x)) _
      ∙ ap₂ ◌++◌ (pairs_upto x (le_of_lt h)) (map-map (pair_at b s) (λ j. from x + j) (upto (own x)) ∙ row)
    where
      whole : from (suc x) ≡ from x + own x
      whole = ap from (sym (add-one x)) ∙ omega (arith, under_grows (theory_in b s) x)

      row : map (λ j. pair_at b s (from x + j)) (upto (own x)) ≡ map (pair x) (pick (upto s.rules) (superior (theory_in b s) x))
      row =
          map_below _ (λ j. pair x (pair_at b s (from x + j)).weaker) (own x) (λ j k. ap (λ z. pair z (pair_at b s (from x + j)).weaker) (own_strong x j k))
          ∙ sym (map-map (pair x) (λ j. (pair_at b s (from x + j)).weaker) (upto (own x))) ∙ ap (map (pair x)) (own_row x h)

-- The pairs of an accepted table are the pairs of its superiority.
pub pairs_canonical : (b : List ℕ) (s : Sizes) → Legal b s → map (pair_at b s) (upto s.pairs) ≡ pairs_below s.rules s.rules (superior (theory_in b s))
pairs_canonical b s l = ap (λ n. map (pair_at b s) (upto n)) (sym (under_ends b s l)) ∙ pairs_upto b s l s.rules (le_refl s.rules)
