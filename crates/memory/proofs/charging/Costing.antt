-- The cost of a conclusion, by the uses of its literal and the words of the rules that use it. Assumes nothing.
use Prim.Native.Nat.{ℕ, zero, suc, ◌+◌, ◌-◌, ◌*◌, ◌/◌, ◌%◌, ◌≤◌, ◌<◌}
use native.Mathlib.Nat.{add-zero, mod-lt}
use native.Mathlib.Omega.{arith}
use mathlib.Core.Path.{◌≡◌, refl, sym, ◌∙◌, ap, ap₂, subst}
use mathlib.Core.Logic.{◌⊎◌, inl, inr, ⊎_elim}
use mathlib.Core.Bool.{Bool, true, false, cond}
use mathlib.Core.List.{List, [], ◌∷◌, map}
use lib.Dec.{T, ltb, ltb→lt, lt→ltb, eqb, eqb→eq, eqb_refl, eqb-suc-suc}
use lib.ListN.{length, get_or}
use Rattle.std.specs.List.{range_with_len, sum, sum_by}
use Rattle.std.proofs.Common.{add-one, zero-add}
use Rattle.std.proofs.lemmas.List.Sums.{sum_by-append, sum_by-cons}
use Rattle.std.proofs.lemmas.List.FromFn.{sum_by-map-range_with_len_more}
use Rattle.logic.specs.Tests.{◌and◌, ◌or◌, isnt, member, distinct, total, weigh, count_below, upto, pick}
use Rattle.logic.specs.Theory.{Theory, kind_of, body_of, is_strict}
use Rattle.logic.specs.Inference.{all_have, one_has}
use Rattle.logic.specs.Reading.{visits, visited, decided, decides, naming, cost_of, tagged_by, system_of}
use Rattle.logic.specs.Plain.{plain_system}
use Rattle.logic.proofs.Tests.{and_intro, and_left, and_right, at_most, cond_false, cond_true, eq→eqb, false_or, isnt_elim, isnt_intro, none_above, of_false, or_false, or_left, or_right, some_of_intro, test_cases, true_of, true_or}
use Rattle.logic.proofs.Lists.{filled_intro, pick_append, pick_more}
use Rattle.logic.proofs.Sums.{count_upto, total_add, total_ext, weigh_both, weigh_false, weigh_true}
use Rattle.logic.proofs.Bodies.{all_same, one_same}
use Rattle.logic.proofs.Literals.{join_split, split_below}
use Rattle.table.specs.declared.format.Sizes.{Sizes}
use Rattle.table.specs.Format.{theory_in}
use Rattle.table.specs.Refusals.{Legal}
use Rattle.table.proofs.Legal.{limited}
use Rattle.table.proofs.Sorted.{bodies_apart}
use Rattle.memory.specs.Layout.{tag_count, field_size}
use Rattle.memory.specs.Fields.{has, size_f, kind_f, naming_f, uses_f}
use Rattle.memory.specs.Memory.{view, use_at, held_of, users, uses_from, virtual, Ready}
use Rattle.memory.specs.Api.{adds, UsesAt, UsesIn, cost_in}
use Rattle.memory.specs.Deciding.{decided_by, charge_by}
use Rattle.memory.proofs.inference.Counting.{pick_all}
use Rattle.memory.proofs.inference.Following.{fires_defeasibly, out_defeasibly}
use Rattle.memory.proofs.index.Kinds.{strict_number}
use Rattle.memory.proofs.uses.Users.{use_is, user_below, uses_begin, uses_finish}

-- the sums over a list (std's `sum_by`)
sum_map : (f g : ℕ → ℕ) (l : List ℕ) → sum_by f (map g l) ≡ sum_by (λ k. f (g k)) l
sum_map f g [] = refl
sum_map f g (x ∷ l) = sum_by-cons f (g x) (map g l) ∙ ap (f (g x) +◌) (sum_map f g l) ∙ sym (sum_by-cons (λ k. f (g k)) x l)

-- the sum over the numbers below n that pass
sum_pick : (n : ℕ) (p : ℕ → Bool) (f : ℕ → ℕ) → sum_by f (pick (upto n) p) ≡ total n (λ k. weigh (p k) (f k))
unfolding total upto pick
sum_pick zero p f = refl
sum_pick (suc n) p f =
    ap (sum_by f) (pick_append (upto n) (n ∷ []) p) ∙ sum_by-append f (pick (upto n) p) _ ∙ ap₂ ◌+◌ (sum_pick n p f) (one (p n))
  where
    one : (b : Bool) → sum_by f (cond b (n ∷ []) []) ≡ weigh b (f n)
    one true = zero-add (f n) ∙ sym (weigh_true true (f n) tt)
    one false = sym (weigh_false false (f n) (λ t. t))

sum_upto : (n : ℕ) (f : ℕ → ℕ) → sum_by f (upto n) ≡ total n f
unfolding total upto
sum_upto zero f = refl
sum_upto (suc n) f = sum_by-append f (upto n) (n ∷ []) ∙ ap₂ ◌+◌ (sum_upto n f) (zero-add (f n))

-- the sum over places is the sum over what stands there
sum_listed : (n m : ℕ) (g : ℕ → ℕ) (p : ℕ → Bool) (f : ℕ → ℕ) → map g (upto n) ≡ pick (upto m) p
    → total n (λ k. f (g k)) ≡ total m (λ k. weigh (p k) (f k))
sum_listed n m g p f e = sym (sum_upto n (λ k. f (g k))) ∙ sym (sum_map f g (upto n)) ∙ ap (sum_by f) e ∙ sum_pick m p f

-- what is decided newly, by which of the two tests grows
grown_all : (a b o : Bool) → ((b or o) and isnt (a or o)) ≡ (isnt a and isnt o and b)
unfolding ◌and◌ ◌or◌ isnt
grown_all true true true = refl
grown_all true true false = refl
grown_all true false true = refl
grown_all true false false = refl
grown_all false true true = refl
grown_all false true false = refl
grown_all false false true = refl
grown_all false false false = refl

grown_one : (a o : Bool) → ((a or true) and isnt (a or o)) ≡ (isnt a and isnt o and true)
unfolding ◌and◌ ◌or◌ isnt
grown_one true true = refl
grown_one true false = refl
grown_one false true = refl
grown_one false false = refl

true_left : (a b : Bool) → (true and a and b) ≡ (a and b)
unfolding ◌and◌
true_left a b = refl

added : (x l w v u : ℕ) → x ≡ v + u → l ≡ v → w ≡ u → 1 + x ≡ 1 + l + w
added x l w v u e f g = omega arith

two_or_three : (t : ℕ) → 2 ≤ t → t < tag_count → (t ≡ 2) ⊎ (t ≡ 3)
two_or_three t h k = ⊎_elim (λ u. inl (eqb→eq t 2 u)) (λ n. inr (let o : t ≡ 2 → ⊥ = λ e. n (eq→eqb t 2 e) in omega arith)) (test_cases (eqb t 2))

module _ (d : Theory) (m : List ℕ) (ready : Ready d m) (p t : ℕ) (tag : t < tag_count) (new : held_of m (tag_count * p + t) ≡ false) where
  abbrev before : ℕ → ℕ → Bool
  before = tagged_by tag_count (held_of m)

  abbrev after : ℕ → ℕ → Bool
  after = tagged_by tag_count (adds (held_of m) (tag_count * p + t))

  -- another conclusion is held after as before
  other_held : (a u : ℕ) → (tag_count * a + u ≡ tag_count * p + t → ⊥) → after a u ≡ before a u
  other_held a u n = or_false _ _ (λ e. n (eqb→eq _ _ e))

  other_tag : (a u : ℕ) → u < tag_count → (u ≡ t → ⊥) → after a u ≡ before a u
  other_tag a u h n = other_held a u (λ e. n (omega arith))

  other_literal : (a u : ℕ) → u < tag_count → (a ≡ p → ⊥) → after a u ≡ before a u
  other_literal a u h n = other_held a u (λ e. n (omega arith))

  now_held : T (after p t)
  now_held = or_right (held_of m (tag_count * p + t)) _ (eqb_refl (tag_count * p + t))

  -- a rule that does not use p is decided by no tag of p
  unused : (r : ℕ) → (T (member p (body_of d r)) → ⊥) → T (decides d 1 before after r) → ⊥
  unfolding decides
  unused r n u =
      isnt_elim _ (and_right _ _ u)
      (subst T (ap₂ ◌or◌ (all_same d after before 2 r (same 2 (omega arith))) (one_same d after before 3 r (same 3 (omega arith)))) (and_right _ _ (and_left _ _ u)))
    where
      same : (v : ℕ) → v < tag_count → (a : ℕ) → T (member a (body_of d r)) → after a v ≡ before a v
      same v h a i = other_literal a v h (λ e. n (subst (λ z. T (member z (body_of d r))) e i))

  module _ (r : ℕ) (l : r < d.rules) (apart : T (distinct (body_of d r))) (used : T (member p (body_of d r))) where
    -- the antecedents with +∂ grow by one
    all_after : t ≡ 2 → all_have d after 2 r ≡ eqb (view m (has 2) r + 1) (view m size_f r)
    unfolding all_have virtual
    all_after e =
        let more : length (pick (body_of d r) (λ a. after a 2)) ≡ length (pick (body_of d r) (λ a. before a 2)) + 1 =
        pick_more (body_of d r) (λ a. before a 2) (λ a. after a 2) p apart used (λ v. of_false _ new (subst (λ z. T (before p z)) (sym e) v))
        (subst (λ z. T (after p z)) e now_held) (λ a n. other_literal a 2 (omega arith) n) in
        let tagged : view m (has 2) r ≡ 1 + length (pick (body_of d r) (λ a. before a 2)) = ready.tagged 2 r (omega arith) l in
        let words : suc (length (pick (body_of d r) (λ a. after a 2))) ≡ view m (has 2) r + 1 = omega arith in
        sym (pick_all (body_of d r) (λ a. after a 2)) ∙ sym (eqb-suc-suc (length (pick (body_of d r) (λ a. after a 2))) (length (body_of d r)))
        ∙ ap₂ eqb words (sym (ready.invariant.index.sizes r l))

    -- one antecedent has −∂
    one_after : t ≡ 3 → T (one_has d after 3 r)
    unfolding one_has
    one_after e = some_of_intro (body_of d r) (λ a. after a 3) p used (subst (λ z. T (after p z)) e now_held)

    -- the rule was open
    open_before : (c : Bool) → (isnt (all_have d before 2 r) and isnt (one_has d before 3 r) and c)
        ≡ (isnt (eqb (view m (has 2) r) (view m size_f r)) and eqb (view m (has 3) r) 0 and c)
    open_before c =
        ap (◌and c)
        (ap₂ ◌and◌ (ap isnt (sym (fires_defeasibly d m ready r l))) (ap isnt (sym (out_defeasibly d m ready r l)) ∙ none_above (view m (has 3) r)))

    decides_by : (t ≡ 2) ⊎ (t ≡ 3) → decides d 1 before after r ≡ decided_by (view m) t r
    unfolding decides
    decides_by c = ap (λ b. b and decided d 1 after r and isnt (decided d 1 before r)) (true_of _ (filled_intro (body_of d r) p used)) ∙ true_left _ _ ∙ ⊎_elim by_all by_one c
      where
        by_all : t ≡ 2 → (decided d 1 after r and isnt (decided d 1 before r)) ≡ decided_by (view m) t r
        by_all e =
            ap (λ b. b and isnt (decided d 1 before r)) (ap₂ ◌or◌ (all_after e) (one_same d after before 3 r (λ a _. other_tag a 3 (omega arith) (λ f. omega arith))))
            ∙ grown_all (all_have d before 2 r) (eqb (view m (has 2) r + 1) (view m size_f r)) (one_has d before 3 r) ∙ open_before _
            ∙ ap (λ b. isnt (eqb (view m (has 2) r) (view m size_f r)) and eqb (view m (has 3) r) 0 and b)
            (false_or (eqb t 3) (eqb (view m (has 2) r + 1) (view m size_f r)) (λ u. let f : t ≡ 3 = eqb→eq t 3 u in omega arith))

        by_one : t ≡ 3 → (decided d 1 after r and isnt (decided d 1 before r)) ≡ decided_by (view m) t r
        by_one e =
            ap (λ b. b and isnt (decided d 1 before r))
            (ap₂ ◌or◌ (all_same d after before 2 r (λ a _. other_tag a 2 (omega arith) (λ f. omega arith))) (true_of (one_has d after 3 r) (one_after e)))
            ∙ grown_one (all_have d before 2 r) (one_has d before 3 r) ∙ open_before true
            ∙ ap (λ b. isnt (eqb (view m (has 2) r) (view m size_f r)) and eqb (view m (has 3) r) 0 and b)
            (true_or (eqb t 3) (eqb (view m (has 2) r + 1) (view m size_f r)) (eq→eqb t 3 e))

  -- what a rule adds to the cost of a definite tag, and of a defeasible one
  definite_part : t < 2 → (r : ℕ) → r < d.rules → weigh (member p (body_of d r)) (charge_by (view m) t r) ≡ weigh (visits d 0 p r) 1
  unfolding visits charge_by
  definite_part h r l =
      ap (weigh (member p (body_of d r))) (cond_true (ltb t 2) _ _ (lt→ltb t 2 h) ∙ ap (λ b. weigh b 1) (ap (λ k. eqb k 0) (ready.invariant.index.kinds r l) ∙ strict_number (kind_of d r)))
      ∙ weigh_both (member p (body_of d r)) (is_strict (kind_of d r)) 1
      ∙ ap (λ b. weigh (member p (body_of d r) and b) 1) (false_or (isnt (eqb 0 0)) (is_strict (kind_of d r)) (λ u. isnt_elim (eqb 0 0) u tt))

  defeasible_part : (t ≡ 2) ⊎ (t ≡ 3) → (r : ℕ) → r < d.rules → T (distinct (body_of d r))
      → weigh (member p (body_of d r)) (charge_by (view m) t r) ≡ weigh (visits d 1 p r) 1 + weigh (decides d 1 before after r) (naming d r)
  unfolding visits charge_by
  defeasible_part c r l apart = ⊎_elim yes no (test_cases (member p (body_of d r)))
    where
      late : T (ltb t 2) → ⊥
      late u = let h : t < 2 = ltb→lt t 2 u in ⊎_elim (λ e. omega arith) (λ e. omega arith) c

      yes : T (member p (body_of d r))
          → weigh (member p (body_of d r)) (charge_by (view m) t r) ≡ weigh (visits d 1 p r) 1 + weigh (decides d 1 before after r) (naming d r)
      yes u =
          weigh_true _ _ u ∙ cond_false (ltb t 2) _ _ late
          ∙ ap₂ ◌+◌ (sym (weigh_true (visits d 1 p r) 1 (and_intro _ _ u (or_left _ _ (isnt_intro (eqb 1 0) (λ v. v))))))
          (ap₂ weigh (sym (decides_by r l apart u c)) (ready.invariant.index.namings r l))

      no : (T (member p (body_of d r)) → ⊥)
          → weigh (member p (body_of d r)) (charge_by (view m) t r) ≡ weigh (visits d 1 p r) 1 + weigh (decides d 1 before after r) (naming d r)
      no n =
          weigh_false _ _ n ∙ ap₂ ◌+◌ (sym (weigh_false (visits d 1 p r) 1 (λ u. n (and_left _ _ u)))) (sym (weigh_false _ _ (unused r n)))

  cost_by_lem : ((r : ℕ) → r < d.rules → T (distinct (body_of d r)))
      → 1 + total d.rules (λ r. weigh (member p (body_of d r)) (charge_by (view m) t r)) ≡ cost_of d (t / 2) p before after
  cost_by_lem apart = ⊎_elim defeasible definite (at_most 2 t)
    where
      definite : t < 2 → 1 + total d.rules (λ r. weigh (member p (body_of d r)) (charge_by (view m) t r)) ≡ cost_of d (t / 2) p before after
      definite h =
          let e : t / 2 ≡ 0 = omega arith in
          let c : cost_of d (t / 2) p before after ≡ cost_of d 0 p before after = ap (λ f. cost_of d f p before after) e in
          let z : weigh (isnt (eqb 0 0)) (total d.rules (λ r. weigh (decides d 0 before after r) (naming d r))) ≡ 0 = weigh_false _ _ (λ u. isnt_elim (eqb 0 0) u tt) in
          let v : length (visited d 0 p) ≡ count_below d.rules (visits d 0 p) = count_upto d.rules (visits d 0 p) in
          let s : total d.rules (λ r. weigh (member p (body_of d r)) (charge_by (view m) t r)) ≡ count_below d.rules (visits d 0 p) =
          total_ext d.rules _ _ (definite_part h) in
          added _ _ _ _ 0 (s ∙ sym (add-zero _)) v z ∙ sym c

      defeasible : 2 ≤ t → 1 + total d.rules (λ r. weigh (member p (body_of d r)) (charge_by (view m) t r)) ≡ cost_of d (t / 2) p before after
      defeasible h =
          let e : t / 2 ≡ 1 = omega arith in
          let c : cost_of d (t / 2) p before after ≡ cost_of d 1 p before after = ap (λ f. cost_of d f p before after) e in
          let z : weigh (isnt (eqb 1 0)) (total d.rules (λ r. weigh (decides d 1 before after r) (naming d r))) ≡ total d.rules (λ r. weigh (decides d 1 before after r) (naming d r)) = weigh_true _ _ (isnt_intro (eqb 1 0) (λ u. u)) in
          let v : length (visited d 1 p) ≡ count_below d.rules (visits d 1 p) = count_upto d.rules (visits d 1 p) in
          let s : total d.rules (λ r. weigh (member p (body_of d r)) (charge_by (view m) t r))
          ≡ count_below d.rules (visits d 1 p) + total d.rules (λ r. weigh (decides d 1 before after r) (naming d r)) =
          total_ext d.rules _ _ (λ r l. defeasible_part (two_or_three t h tag) r l (apart r l)) ∙ total_add d.rules _ _ in
          added _ _ _ _ _ s v z ∙ sym c

-- the sum over a range, as the code takes it
pub range_total : (f : ℕ → ℕ) (a n : ℕ) → sum (map f (range_with_len a n)) ≡ total n (λ k. f (a + k))
unfolding total
range_total f a zero = refl
range_total f a (suc n) = ap (λ k. sum (map f (range_with_len a k))) (sym (add-one n)) ∙ sum_by-map-range_with_len_more (λ x. x) f a n (a + n) refl ∙ ap (◌+ f (a + n)) (range_total f a n)

-- a conclusion's cost, by the uses of its literal
module _ (b : List ℕ) (s : Sizes) (m : List ℕ) (x : ℕ) (accepted : Legal b s) (ready : Ready (theory_in b s) m) (small : x < tag_count * (2 * s.atoms)) where
  literal : x / tag_count < 2 * s.atoms
  literal = split_below tag_count (2 * s.atoms) x (omega arith) (omega arith)

  few : (s.atoms ≤ 512) × (s.rules ≤ field_size)
  few = ((limited s accepted.limits).atoms, (limited s accepted.limits).rules)

  module _ {first end : ℕ} (at : UsesAt (theory_in b s) (x / tag_count) first end) where
    in_theory : x / tag_count < 2 * (theory_in b s).atoms
    unfolding theory_in
    in_theory = literal

    f : first ≡ uses_from (view m) (x / tag_count)
    f = uses_begin (theory_in b s) (view m) (use_at m) ready.invariant.index in_theory at

    e : end ≡ view m uses_f (x / tag_count)
    e = uses_finish (theory_in b s) (view m) (use_at m) ready.invariant.index in_theory at

    listed : map (λ k. use_at m (first + k)) (upto (end - first)) ≡ pick (upto s.rules) (λ r. member (x / tag_count) (body_of (theory_in b s) r))
    unfolding theory_in users
    listed = ap₂ (λ i j. map (λ k. use_at m (i + k)) (upto (j - i))) f e ∙ ready.invariant.index.uses (x / tag_count) literal

    rule_used : (k : ℕ) → first ≤ k → k < end → use_at m k < field_size
    unfolding theory_in
    rule_used k h l =
        let r : get_or (users (theory_in b s) (x / tag_count)) (k - first) 0 < s.rules = user_below (theory_in b s) (x / tag_count) (k - first) (omega (arith, at.finish)) in
        let u : use_at m k ≡ get_or (users (theory_in b s) (x / tag_count)) (k - first) 0 = use_is (theory_in b s) (view m) (use_at m) ready.invariant.index in_theory at k h l in
        let n : s.rules ≤ field_size = few.1 in
        omega arith

    pub uses_in : UsesIn m first end
    unfolding theory_in
    uses_in =
        let w = ready.invariant.index.within (x / tag_count) literal in
        record { room = ready.invariant.room; order = omega (arith, w.0, f, e); within = omega (arith, w.1, f, e); rules = rule_used }

    -- of a conclusion that is not processed it is the reading's
    pub cost_processed : held_of m x ≡ false → cost_in m x first end ≡ (plain_system (theory_in b s)).cost (held_of m) (adds (held_of m) x) x
    unfolding system_of theory_in
    cost_processed new =
        ap (1 +◌) (sum_listed (end - first) s.rules (λ j. use_at m (first + j)) _ (λ r. charge_by (view m) (x % tag_count) r) listed)
        ∙ cost_by_lem (theory_in b s) m ready (x / tag_count) (x % tag_count) (mod-lt x (omega arith)) (ap (held_of m) (join_split tag_count x) ∙ new) (λ r _. bodies_apart b s accepted r)
        ∙ ap (λ y. cost_of (theory_in b s) (x % tag_count / 2) (x / tag_count) (tagged_by tag_count (held_of m)) (tagged_by tag_count (adds (held_of m) y))) (join_split tag_count x)

-- what a use adds, as it is read
module _ (w : ℕ → ℕ → ℕ) (t r : ℕ) where
  pub read_definite : {b : Bool} {x : ℕ} → t < 2 → b ≡ eqb (w kind_f r) 0 → x ≡ weigh b 1 → x ≡ charge_by w t r
  unfolding charge_by
  read_definite h e f =
      f ∙ ap (λ b. weigh b 1) e ∙ sym (cond_true (ltb t 2) (weigh (eqb (w kind_f r) 0) 1) (1 + weigh (decided_by w t r) (w naming_f r)) (lt→ltb t 2 h))

  module _ (h : 2 ≤ t) where
    later : charge_by w t r ≡ 1 + weigh (decided_by w t r) (w naming_f r)
    unfolding charge_by
    later = cond_false (ltb t 2) (weigh (eqb (w kind_f r) 0) 1) (1 + weigh (decided_by w t r) (w naming_f r)) (λ u. let l : t < 2 = ltb→lt t 2 u in omega arith)

    pub read_decided : {n : ℕ} → T (decided_by w t r) → n ≡ 1 + w naming_f r → n ≡ charge_by w t r
    read_decided y e = e ∙ ap (1 +◌) (sym (weigh_true (decided_by w t r) (w naming_f r) y)) ∙ sym later

    pub read_undecided : decided_by w t r ≡ false → 1 ≡ charge_by w t r
    read_undecided n = ap (1 +◌) (sym (weigh_false (decided_by w t r) (w naming_f r) (of_false _ n))) ∙ sym later
