-- A cost is the growth of a weight of what is held, and what a coherent test weighs is bounded. Assumes nothing.
use Prim.Native.Nat.{ℕ, zero, suc, ◌+◌, ◌-◌, ◌*◌, ◌/◌, ◌%◌, ◌≤◌, ◌<◌}
use native.Mathlib.Nat.{mod-lt, le_trans, le_refl, le_of_eq, mul_assoc, zero-mul, not-suc-le-zero}
use native.Mathlib.Omega.{arith}
use mathlib.Core.Path.{◌≡◌, refl, sym, ◌∙◌, ap, ap₂, subst, fun_ext}
use mathlib.Core.Logic.{⊎_elim}
use mathlib.Core.Bool.{Bool, true, false}
use mathlib.Core.List.{List, [], ◌∷◌, ◌++◌}
use lib.Dec.{T, eqb, ltb, eqb→eq, lt→ltb, eqb-suc-zero}
use lib.ListN.{length}
use Rattle.logic.specs.Tests.{◌and◌, ◌or◌, isnt, some_of, member, empty, total, weigh, count_below}
use Rattle.logic.specs.Theory.{Theory, body_of, entries, size, proper}
use Rattle.logic.specs.System.{held, Coherent}
use Rattle.logic.specs.Reading.{Reading, tags, family_of, conclusion, visits, visited, decided, decides, names, naming, cost_of, tagged_by, system_of, searches_of}
use Rattle.logic.specs.Laws.{Rules, reading_run}
use Rattle.logic.specs.Worklist.{log_of, lines}
use Rattle.logic.specs.Demands.{Demands}
use Rattle.logic.proofs.Tests.{test_cases, test_eq, and_intro, and_left, and_right, or_left, or_right, or_elim, eq→eqb}
use Rattle.logic.proofs.Lists.{member_nil, member_left, member_snoc, member_last, distinct_apart}
use Rattle.logic.proofs.Sums.{total_ext, total_le, total_add, total_const, total_zero, total_swap, total_grid, total_point, weigh_true, weigh_false, weigh_le, weigh_imply, count_upto}
use Rattle.logic.proofs.Derivations.{Lawful, derives_all_below}
use Rattle.logic.proofs.Budgets.{Weighed, demands}
use Rattle.logic.proofs.Pigeon.{count_one}
use Rattle.logic.proofs.Coherence.{derivation_coherent, coherent_total}
use Rattle.logic.proofs.Readings.{system_opposed, reading_lawful, reading_coherent, reading_length}
use Rattle.logic.proofs.Bodies.{all_moves, one_moves, all_nothing, one_nothing}
use Rattle.logic.proofs.Literals.{join_div, join_mod, literal_half, tag_half, family_half}

-- One test has one number more than another.
pub record Adds (h k : ℕ → Bool) (x : ℕ) : Type 0 where
  pub new : T (h x) → ⊥
  pub has : T (k x)
  pub same : (y : ℕ) → (y ≡ x → ⊥) → k y ≡ h y

pub held_adds : (l : List ℕ) (x : ℕ) → (T (member x l) → ⊥) → Adds (held l) (held (l ++ (x ∷ []))) x
held_adds l x n =
    record {
      new = n;
      has = member_last l x;
      same = λ y o. test_eq _ _ (λ m. ⊎_elim (λ u. u) (λ e. absurd (o e)) (member_snoc l x y m)) (λ u. member_left y l (x ∷ []) u);
    }

adds_more : (h k : ℕ → Bool) (x : ℕ) → Adds h k x → (y : ℕ) → T (h y) → T (k y)
adds_more h k x a y t =
    ⊎_elim (λ e. subst (λ z. T (k z)) (sym (eqb→eq y x e)) a.has) (λ o. subst T (sym (a.same y (λ e. o (eq→eqb y x e)))) t) (test_cases (eqb y x))

-- weights
weigh_mono : (a : Bool) (m n : ℕ) → m ≤ n → weigh a m ≤ weigh a n
unfolding weigh
weigh_mono true m n h = h
weigh_mono false m n h = le_refl 0

weigh_or : (a b : Bool) (n : ℕ) → weigh (a or b) n ≤ weigh a n + weigh b n
unfolding weigh ◌or◌
weigh_or true b n = omega arith
weigh_or false b n = omega arith

weigh_add : (a : Bool) (m n : ℕ) → weigh a (m + n) ≡ weigh a m + weigh a n
unfolding weigh
weigh_add true m n = refl
weigh_add false m n = refl

-- what a test passes that it did not pass before
weigh_grow : (a b c : Bool) (n : ℕ) → (T b → T c) → weigh (a and c) n ≡ weigh (a and b) n + weigh (a and c and isnt b) n
unfolding weigh ◌and◌ isnt
weigh_grow true true true n f = omega arith
weigh_grow true true false n f = absurd (f tt)
weigh_grow true false true n f = omega arith
weigh_grow true false false n f = omega arith
weigh_grow false b c n f = omega arith

-- all families but the first
total_later : (n c : ℕ) → total (suc n) (λ f. weigh (isnt (eqb f 0)) c) ≡ n * c
unfolding total isnt weigh
total_later zero c = sym (zero-mul c)
total_later (suc n) c =
    let e : total (suc n) (λ f. weigh (isnt (eqb f 0)) c) ≡ n * c = total_later n c in
    let last : weigh (isnt (eqb (suc n) 0)) c ≡ c = ap (λ b. weigh (isnt b) c) (eqb-suc-zero n) in
    omega arith

-- a disjunction is counted at most twice, the numbers of a list at most as often as the list is long
count_flip : (n x : ℕ) → count_below n (λ k. eqb k x) ≤ 1
count_flip n x =
    subst (λ f. total n f ≤ 1) (fun_ext (λ k. ap (λ b. weigh b 1) (test_eq (eqb x k) (eqb k x) (λ t. eq→eqb k x (sym (eqb→eq x k t))) (λ t. eq→eqb x k (sym (eqb→eq k x t))))))
    (count_one n x)

count_or : (n : ℕ) (p q : ℕ → Bool) → count_below n (λ k. p k or q k) ≤ count_below n p + count_below n q
count_or n p q =
    subst (λ z. count_below n (λ k. p k or q k) ≤ z) (total_add n (λ k. weigh (p k) 1) (λ k. weigh (q k) 1)) (total_le n _ _ (λ k _. weigh_or (p k) (q k) 1))

count_member : (n : ℕ) (l : List ℕ) → count_below n (λ k. member k l) ≤ length l
unfolding some_of
count_member n [] = let e : count_below n (λ k. member k []) ≡ 0 = total_zero n _ (λ k _. weigh_false _ 1 (member_nil k)) in omega arith
count_member n (x ∷ l) =
    let a : count_below n (λ k. eqb k x or member k l) ≤ count_below n (λ k. eqb k x) + count_below n (λ k. member k l) = count_or n (λ k. eqb k x) (λ k. member k l) in
    let b : count_below n (λ k. eqb k x) ≤ 1 = count_flip n x in
    let c : count_below n (λ k. member k l) ≤ length l = count_member n l in
    omega arith

module _ (d : Theory) where
  -- a rule with antecedents is decided in a family
  decided_with_body : ℕ → (ℕ → ℕ → Bool) → ℕ → Bool
  decided_with_body f holds r = isnt (empty (body_of d r)) and decided d f holds r

  -- each of a conclusion and its opposite costs, before pairs: 1 and its visits
  slot_cost : ℕ → ℕ → ℕ
  slot_cost n j = 1 + length (visited d (j % n) (j / n))

  -- the pairs of the rules decided in a family
  pairs_of : ℕ → (ℕ → Bool) → ℕ → ℕ
  pairs_of n h f = weigh (isnt (eqb f 0)) (total d.rules (λ r. weigh (decided_with_body f (tagged_by (2 * n) h) r) (naming d r)))

  pub weight : ℕ → (ℕ → Bool) → ℕ
  weight n h = total (2 * (n * (2 * d.atoms))) (λ x. weigh (h x) (slot_cost n (x / 2))) + total n (pairs_of n h)

  -- what the weight never exceeds
  abbrev pub heaviest : ℕ → ℕ
  heaviest n = n * (2 * d.atoms + entries d) + (n - 1) * (2 * d.pairs)

  module _ (n : ℕ) (p : 0 < n) (h k : ℕ → Bool) (x : ℕ) (a : Adds h k x) where
    before : ℕ → ℕ → Bool
    before = tagged_by (2 * n) h

    after : ℕ → ℕ → Bool
    after = tagged_by (2 * n) k

    more : (f r : ℕ) → T (decided d f before r) → T (decided d f after r)
    unfolding before after
    more f r t =
        ⊎_elim (λ u. or_left _ _ (all_moves d before after (2 * f) r (λ b _. adds_more h k x a _) u))
        (λ u. or_right _ _ (one_moves d before after (2 * f + 1) r (λ b _. adds_more h k x a _) u)) (or_elim _ _ t)

    -- a tag of another family than that of x
    other_tag : (f b q : ℕ) → f < n → b < 2 → (f ≡ x / 2 % n → ⊥) → conclusion (2 * n) q (2 * f + b) ≡ x → ⊥
    other_tag f b q l c o e =
        let i : (2 * n * q + (2 * f + b)) % (2 * n) ≡ 2 * f + b = join_mod (2 * n) q (2 * f + b) (omega arith) in
        let j : x % (2 * n) ≡ 2 * (x / 2 % n) + x % 2 = tag_half n x p in
        let g : x % (2 * n) ≡ 2 * f + b = ap (◌% (2 * n)) (sym e) ∙ i in
        o (omega arith)

    fewer : (f r : ℕ) → f < n → (f ≡ x / 2 % n → ⊥) → T (decided d f after r) → T (decided d f before r)
    unfolding before after
    fewer f r l o t =
        ⊎_elim (λ u. or_left _ _ (all_moves d after before (2 * f) r (λ q _. back q (2 * f) (other q 0 (2 * f) (omega arith) (omega arith))) u))
        (λ u. or_right _ _ (one_moves d after before (2 * f + 1) r (λ q _. back q (2 * f + 1) (other q 1 (2 * f + 1) (omega arith) refl)) u)) (or_elim _ _ t)
      where
        other : (q b t : ℕ) → b < 2 → t ≡ 2 * f + b → conclusion (2 * n) q t ≡ x → ⊥
        other q b t c e i = other_tag f b q l c o (ap (conclusion (2 * n) q) (sym e) ∙ i)

        back : (q t : ℕ) → (conclusion (2 * n) q t ≡ x → ⊥) → T (k (conclusion (2 * n) q t)) → T (h (conclusion (2 * n) q t))
        back q t c u = subst T (a.same (conclusion (2 * n) q t) c) u

    pairs_same : (f : ℕ) → f < n → (f ≡ x / 2 % n → ⊥) → pairs_of n k f ≡ pairs_of n h f
    unfolding pairs_of decided_with_body before after
    pairs_same f l o =
        ap (weigh (isnt (eqb f 0)))
        (total_ext d.rules _ _ (λ r _. ap (λ c. weigh (isnt (empty (body_of d r)) and c) (naming d r)) (test_eq _ _ (fewer f r l o) (more f r))))

    -- the pairs of the rules that x settles
    charged : ℕ → ℕ
    charged f = weigh (isnt (eqb f 0)) (total d.rules (λ r. weigh (decides d f before after r) (naming d r)))

    pairs_grow : (f : ℕ) → pairs_of n k f ≡ pairs_of n h f + charged f
    unfolding pairs_of decided_with_body charged decides before after
    pairs_grow f =
        ap (weigh (isnt (eqb f 0)))
        (total_ext d.rules _ _ (λ r _. weigh_grow (isnt (empty (body_of d r))) (decided d f before r) (decided d f after r) (naming d r) (more f r))
        ∙ total_add d.rules _ _)
        ∙ weigh_add (isnt (eqb f 0)) _ _

    weight_grows : x < 2 * (n * (2 * d.atoms)) → weight n k ≡ weight n h + (slot_cost n (x / 2) + charged (x / 2 % n))
    unfolding weight
    weight_grows b =
        let visits : total (2 * (n * (2 * d.atoms))) (λ y. weigh (k y) (slot_cost n (y / 2))) ≡ total (2 * (n * (2 * d.atoms))) (λ y. weigh (h y) (slot_cost n (y / 2))) + slot_cost n (x / 2) =
        total_point _ (λ y. weigh (h y) (slot_cost n (y / 2))) (λ y. weigh (k y) (slot_cost n (y / 2))) x (slot_cost n (x / 2)) b here
        (λ y _ o. ap (λ c. weigh c (slot_cost n (y / 2))) (a.same y o)) in
        let pairs : total n (pairs_of n k) ≡ total n (pairs_of n h) + charged (x / 2 % n) =
        total_point n (pairs_of n h) (pairs_of n k) (x / 2 % n) (charged (x / 2 % n)) (mod-lt (x / 2) p) (pairs_grow (x / 2 % n)) pairs_same in
        omega arith
      where
        here : weigh (k x) (slot_cost n (x / 2)) ≡ weigh (h x) (slot_cost n (x / 2)) + slot_cost n (x / 2)
        here =
            let e : weigh (k x) (slot_cost n (x / 2)) ≡ slot_cost n (x / 2) = weigh_true (k x) _ a.has in
            let f : weigh (h x) (slot_cost n (x / 2)) ≡ 0 = weigh_false (h x) _ a.new in
            omega arith

    -- the cost of a conclusion is the growth of the weight
    pub cost_grows : x < 2 * (n * (2 * d.atoms)) → weight n k ≡ weight n h + cost_of d (family_of (x % (2 * n))) (x / (2 * n)) (tagged_by (2 * n) h) (tagged_by (2 * n) k)
    unfolding slot_cost charged before after
    cost_grows b =
        weight_grows b
        ∙ ap (weight n h +◌) (ap₂ (λ f q. cost_of d f q (tagged_by (2 * n) h) (tagged_by (2 * n) k)) (sym (family_half n x p)) (sym (literal_half n x)))

  -- nothing is settled by nothing
  weight_nothing : (n : ℕ) → weight n (held []) ≡ 0
  unfolding weight pairs_of decided_with_body
  weight_nothing n =
      ap₂ ◌+◌ (total_zero (2 * (n * (2 * d.atoms))) _ (λ x _. weigh_false _ _ (member_nil x))) (total_zero n (pairs_of n (held [])) (λ f _. none f))
    where
      undecided : (f r : ℕ) → T (decided_with_body f (tagged_by (2 * n) (held [])) r) → ⊥
      undecided f r t =
          ⊎_elim (λ u. all_nothing d (tagged_by (2 * n) (held [])) (2 * f) r (λ a. member_nil _) (and_left _ _ t) u)
          (λ u. one_nothing d (tagged_by (2 * n) (held [])) (2 * f + 1) r (λ a. member_nil _) u) (or_elim _ _ (and_right _ _ t))

      none : (f : ℕ) → pairs_of n (held []) f ≡ 0
      none f =
          let e : total d.rules (λ r. weigh (decided_with_body f (tagged_by (2 * n) (held [])) r) (naming d r)) ≡ 0 =
          total_zero d.rules _ (λ r _. weigh_false _ _ (undecided f r)) in
          let l : pairs_of n (held []) f ≤ total d.rules (λ r. weigh (decided_with_body f (tagged_by (2 * n) (held [])) r) (naming d r)) = weigh_le _ _ in
          omega arith

  -- each entry is visited at most once in a family
  visits_bound : (f : ℕ) → total (2 * d.atoms) (λ q. length (visited d f q)) ≤ entries d
  unfolding visits
  visits_bound f =
      subst (λ m. m ≤ entries d)
      (sym (total_ext (2 * d.atoms) _ _ (λ q _. count_upto d.rules (visits d f q)) ∙ total_swap (2 * d.atoms) d.rules (λ q r. weigh (visits d f q r) 1)))
      (total_le d.rules _ _ (λ r _. le_trans (total_le (2 * d.atoms) _ _ (λ q _. weigh_imply _ _ 1 (and_left _ _))) (count_member (2 * d.atoms) (body_of d r))))

  -- a pair names at most two rules
  naming_bound : total d.rules (naming d) ≤ d.pairs * 2
  naming_bound =
      subst (λ m. m ≤ d.pairs * 2) (sym (total_swap d.rules d.pairs (λ r i. weigh (names d (d.pair i) r) 1)))
      (le_trans (total_le d.pairs _ (λ _. 2) (λ i _. two i)) (le_of_eq (total_const d.pairs 2)))
    where
      two : (i : ℕ) → count_below d.rules (names d (d.pair i)) ≤ 2
      two i =
          let a : count_below d.rules (names d (d.pair i)) ≤ count_below d.rules (λ r. eqb (d.pair i).stronger r) + count_below d.rules (λ r. eqb (d.pair i).weaker r) =
          count_or d.rules _ _ in
          let b : count_below d.rules (λ r. eqb (d.pair i).stronger r) ≤ 1 = count_one d.rules _ in
          let c : count_below d.rules (λ r. eqb (d.pair i).weaker r) ≤ 1 = count_one d.rules _ in
          omega arith

  slots_bound : (n : ℕ) → total (n * (2 * d.atoms)) (slot_cost n) ≤ n * (2 * d.atoms + entries d)
  unfolding slot_cost
  slots_bound n =
      subst (λ m. m ≤ n * (2 * d.atoms + entries d))
      (sym (total_grid n (2 * d.atoms) (slot_cost n) ∙ total_ext (2 * d.atoms) _ _ (λ q _. total_ext n _ _ (λ f b. ap₂ (λ i j. 1 + length (visited d i j)) (join_mod n q f b) (join_div n q f b)))
      ∙ total_swap (2 * d.atoms) n (λ q f. 1 + length (visited d f q))))
      (le_trans (total_le n _ (λ _. 2 * d.atoms + entries d) (λ f _. family f)) (le_of_eq (total_const n _)))
    where
      family : (f : ℕ) → total (2 * d.atoms) (λ q. 1 + length (visited d f q)) ≤ 2 * d.atoms + entries d
      family f =
          let a : total (2 * d.atoms) (λ q. 1 + length (visited d f q)) ≡ total (2 * d.atoms) (λ _. 1) + total (2 * d.atoms) (λ q. length (visited d f q)) =
          total_add (2 * d.atoms) (λ _. 1) _ in
          let b : total (2 * d.atoms) (λ _. 1) ≡ 2 * d.atoms * 1 = total_const (2 * d.atoms) 1 in
          omega (arith, visits_bound f)

  pairs_bound : (n : ℕ) → 0 < n → (h : ℕ → Bool) → total n (pairs_of n h) ≤ (n - 1) * (2 * d.pairs)
  unfolding pairs_of
  pairs_bound zero p h = absurd (not-suc-le-zero p)
  pairs_bound (suc n) p h =
      let e : suc n - 1 ≡ n = omega arith in
      let later : total (suc n) (λ f. weigh (isnt (eqb f 0)) (d.pairs * 2)) ≡ n * (d.pairs * 2) = total_later n (d.pairs * 2) in
      subst (λ m. total (suc n) (pairs_of (suc n) h) ≤ m * (2 * d.pairs)) (sym e) (omega (arith, total_le (suc n) (pairs_of (suc n) h) _ (λ f _. family f)))
    where
      family : (f : ℕ) → pairs_of (suc n) h f ≤ weigh (isnt (eqb f 0)) (d.pairs * 2)
      family f = weigh_mono (isnt (eqb f 0)) _ _ (le_trans (total_le d.rules _ (naming d) (λ r _. weigh_le _ _)) naming_bound)

  pub weight_bound : (n : ℕ) → 0 < n → (h : ℕ → Bool) → Coherent h → weight n h ≤ heaviest n
  unfolding weight
  weight_bound n p h c = omega (arith, coherent_total (n * (2 * d.atoms)) h (slot_cost n) c, slots_bound n, pairs_bound n p h)

-- The share of a tag: of a refutation that a search finds, one more than the search's number; of all tags together.
module _ (m : Reading) where
  unfoldable pub share_of : ℕ → ℕ
  share_of t = weigh (eqb (t % 2) 1 and ltb (t / 2) m.searches) (suc (t / 2))

  unfoldable pub shares : ℕ
  shares = total (tags m) share_of

  share_found : (i t : ℕ) → i < m.searches → t ≡ 2 * i + 1 → i < share_of t
  unfolding share_of
  share_found i t b e =
      let f : t / 2 ≡ i = omega arith in
      let g : t % 2 ≡ 1 = omega arith in
      subst (λ n. i < n) (sym (weigh_true _ (suc (t / 2)) (and_intro _ _ (eq→eqb _ _ g) (lt→ltb _ _ (subst (λ n. n < m.searches) (sym f) b))))) (omega arith)

  -- the shares of all conclusions about n literals
  all_shares : (n : ℕ) → 0 < tags m → total (tags m * n) (λ x. share_of (x % tags m)) ≡ n * shares
  unfolding shares
  all_shares n p =
      total_grid (tags m) n (λ x. share_of (x % tags m))
      ∙ total_ext n _ _ (λ q _. total_ext (tags m) _ share_of (λ t h. ap share_of (join_mod (tags m) q t h)))
      ∙ total_const n shares

-- the closure system of a reading is weighed, with its searches
pub reading_weighed : (m : Reading) → Rules m → (d : Theory) → Lawful (system_of m d) (searches_of m d) → (most : ℕ)
    → size d + heaviest d m.families + (2 * d.atoms * shares m + m.searches) * size d ≤ most → Weighed (system_of m d) (searches_of m d) most
unfolding system_of searches_of
reading_weighed m l d w most b =
    record {
      weight = weight d m.families;
      nothing = weight_nothing d m.families;
      growth = λ e x t u. cost_grows d m.families l.tagged (held e) (held (e ++ (x ∷ []))) x (held_adds e x (distinct_apart e x [] u))
          (subst (λ k. x < k) (mul_assoc 2 m.families (2 * d.atoms)) (derives_all_below (system_of m d) (searches_of m d) [] (e ++ (x ∷ [])) t x (member_last e x)));
      share = λ x. share_of m (x % tags m);
      shared = λ i h x c t. share_found m i (x % tags m) c (eqb→eq _ _ (and_left _ _ t));
      limit = λ e t. let c : weight d m.families (held e) ≤ heaviest d m.families =
          weight_bound d m.families l.tagged (held e) (derivation_coherent (system_of m d) (searches_of m d) w (system_opposed m l d) e t) in
          let f : (total (tags m * (2 * d.atoms)) (λ x. share_of m (x % tags m)) + m.searches) * size d ≡ (2 * d.atoms * shares m + m.searches) * size d =
          ap (λ n. (n + m.searches) * size d) (all_shares m (2 * d.atoms) (let p = l.tagged in omega arith)) in
          omega arith;
    }

-- Demands 2 and 3 of a run in a reading, by its bound, and that its lines are at most as many as one literal of each atom has conclusions.
module _ (m : Reading) (l : Rules m) (d : Theory) (p : T (proper d)) (most : ℕ)
    (b : size d + heaviest d m.families + (2 * d.atoms * shares m + m.searches) * size d ≤ most) where
  pub reading_demands : (plenty : ℕ) → size d ≤ plenty → most ≤ plenty → (budget : ℕ) → Demands (system_of m d) (searches_of m d) most plenty budget
  unfolding system_of
  reading_demands =
      demands (system_of m d) (searches_of m d) (reading_lawful m l d p) most (reading_weighed m l d (reading_lawful m l d p) most b) (reading_coherent m l d p)

pub reading_lines : (m : Reading) → Rules m → (d : Theory) → T (proper d) → (budget : ℕ) → lines (reading_run m d budget) ≤ tags m * d.atoms
reading_lines m l d p budget =
    let most : ℕ = size d + heaviest d m.families + (2 * d.atoms * shares m + m.searches) * size d in
    let k = reading_demands m l d p most (le_refl most) most (omega arith) (le_refl most) budget in
    reading_length m l d p (log_of (reading_run m d budget)) k.is_derivation k.once
