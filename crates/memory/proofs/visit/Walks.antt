-- The walk over the pairs of the rule that is visited: each weaker rule that is a rival is notified. Assumes nothing.
use Prim.Native.Nat.{ℕ, ◌+◌, ◌-◌, ◌*◌, ◌≤◌, ◌<◌}
use native.Mathlib.Omega.{arith}
use mathlib.Core.Path.{◌≡◌, refl, sym, ◌∙◌, ap, subst}
use mathlib.Core.Logic.{inl, ⊎_elim}
use mathlib.Core.Bool.{Bool, true, false}
use mathlib.Core.List.{List}
use lib.Dec.{T, ltb, eqb, eqb→eq, eqb_refl, ltb→lt, lt→ltb}
use lib.ListN.{length}
use Rattle.logic.specs.Tests.{◌and◌, ◌or◌, isnt, weigh}
use Rattle.logic.specs.Theory.{Theory, can_support, complement, kind_of, head_of, supporter}
use Rattle.logic.proofs.Tests.{and_intro, and_left, and_right, at_most, eq→eqb, false_of, isnt_elim, isnt_intro, of_false, of_true, or_elim, or_left, or_right, test_cases, test_eq, true_of}
use Rattle.logic.proofs.Sums.{total_le, weigh_false, weigh_imply}
use Rattle.logic.proofs.Pigeon.{count_le}
use Rattle.logic.proofs.Literals.{complement_complement}
use Rattle.memory.specs.Layout.{tag_count, field_size, memory_size}
use Rattle.memory.specs.Fields.{has, size_f, head_f, rivals_f, first_f, beaten_f, proved_f, rivals_end, counts_end, rivals_base, rivals_by, by_rival}
use Rattle.memory.specs.Memory.{view, rivals_of, NeverBothAt}
use Rattle.memory.specs.Visits.{WellFormed, Raised, reached, allowed, decided_for, notifies, notified_below, just_reached_by_rival, Open, Unchanged, Notified}
use Rattle.memory.proofs.Views.{past_rule}
use Rattle.memory.proofs.visit.Counts.{NotifiedTurns, Turns, counts_pair, decided_literal, decided_rule, notified_countered, notified_unopposed, reached_same}
use Rattle.memory.proofs.visit.Steps.{open_ext, open_literal, open_raised, raised_unchanged, tag_cases, unchanged_trans}

-- whether a pair is one of rule r, for tag t
abbrev own : Theory → ℕ → ℕ → ℕ → ℕ → Bool
own d t r g k = eqb g (rivals_by t) and eqb (d.pair k).stronger r

-- what has been notifies, of r's own pairs and of the others
to_other : (d : Theory) (w : ℕ → ℕ → ℕ) (t r i g k : ℕ) → (T (own d t r g k) → ⊥) → notified_below d w t r i g k ≡ notifies d w g k
unfolding notified_below
to_other d w t r i g k n = test_eq _ _ (and_left _ _) (λ u. and_intro _ _ u (or_left _ _ (isnt_intro _ n)))

to_notified : (d : Theory) (w : ℕ → ℕ → ℕ) (t r i g k : ℕ) → k < i → notified_below d w t r i g k ≡ notifies d w g k
unfolding notified_below
to_notified d w t r i g k h = test_eq _ _ (and_left _ _) (λ u. and_intro _ _ u (or_right _ _ (lt→ltb k i h)))

to_later : (d : Theory) (w : ℕ → ℕ → ℕ) (t r i g k : ℕ) → T (own d t r g k) → i ≤ k → notified_below d w t r i g k ≡ false
unfolding notified_below
to_later d w t r i g k e h =
    false_of _ (λ u. ⊎_elim (λ v. isnt_elim _ v e) (λ v. let c : k < i = ltb→lt k i v in omega arith) (or_elim _ _ (and_right _ _ u)))

-- two places between which no own pair stands
to_same : (d : Theory) (w : ℕ → ℕ → ℕ) (t r i j g k : ℕ) → (T (own d t r g k) → (k < i → k < j) × (k < j → k < i)) → notified_below d w t r j g k ≡ notified_below d w t r i g k
to_same d w t r i j g k f =
    ⊎_elim
    (λ e. ⊎_elim (λ h. to_later d w t r j g k e (⊎_elim (λ l. l) (λ l. let c : k < i = (f e).1 l in absurd (omega arith)) (at_most j k)) ∙ sym (to_later d w t r i g k e h))
    (λ h. to_notified d w t r j g k ((f e).0 h) ∙ sym (to_notified d w t r i g k h)) (at_most i k))
    (λ n. to_other d w t r j g k n ∙ sym (to_other d w t r i g k n)) (test_cases (own d t r g k))

-- the tests read words below the counts of rivals
to_unchanged : (d : Theory) (m n : List ℕ) (t r i g k : ℕ) → beaten_f ≤ g → g < rivals_end → Unchanged m n → notified_below d (view n) t r i g k ≡ notified_below d (view m) t r i g k
unfolding notified_below
to_unchanged d m n t r i g k lo hi s =
    ap (λ z. z and (isnt (eqb g (rivals_by t) and eqb (d.pair k).stronger r) or ltb k i))
    (reached_same (view m) (view n) (g - rivals_base) (d.pair k).stronger (s.low (has (g - rivals_base)) (d.pair k).stronger (omega arith)) (s.low size_f (d.pair k).stronger (omega arith)))

-- the memory m, in a walk that began with m₀, before pair i
pub record Walking (d : Theory) (t r : ℕ) (m₀ m : List ℕ) (i : ℕ) : Type 0 where
  pub from : view m₀ first_f r ≤ i
  pub tests : Open d m (decided_for (view m)) (notified_below d (view m) t r i)
  pub unchanged : Unchanged m₀ m
  pub fires : T (reached (view m) t r)

pub walk_start : (d : Theory) (m : List ℕ) (t r i : ℕ) → T (reached (view m) t r) → Open d m (decided_for (view m)) (notified_below d (view m) t r 0) → i ≡ view m first_f r → Walking d t r m m i
walk_start d m t r i f o e =
    record {
      from = omega arith;
      tests = open_ext d m _ _ _ _ (λ _ _ _ _ _. refl)
          (λ g k _ _ l _. to_same d (view m) t r 0 i g k (λ u. (
            λ h. absurd (omega arith),
            λ h. absurd (omega (
              arith,
              (o.index.firsts k l).0,
              ap (view m first_f) (eqb→eq (d.pair k).stronger r (and_right _ _ u)),
            )),
          ))) o;
      unchanged = record { low = λ _ _ _. refl; kept = record { size = refl; rest = refl } };
      fires = f;
    }

module _ (d : Theory) (s : WellFormed d) (t r : ℕ) (m₀ m : List ℕ) (i : ℕ) (w : Walking d t r m₀ m i) where
  -- past the last of r's pairs
  pub walk_end : (i < d.pairs → (d.pair i).stronger ≡ r → ⊥) → Open d m (decided_for (view m)) (notifies d (view m))
  walk_end n = open_ext d m _ _ _ _ (λ _ _ _ _ _. refl)
      (λ g k _ _ l _. ⊎_elim (λ e. sym (to_notified d (view m) t r i g k (before k l (eqb→eq _ _ (and_right _ _ e))))) (λ o. sym (to_other d (view m) t r i g k o)) (test_cases (own d t r g k))) w.tests
    where
      before : (k : ℕ) → k < d.pairs → (d.pair k).stronger ≡ r → k < i
      before k l e = ⊎_elim
          (λ h. let (a, c) = w.tests.index.firsts k l in
          let z : view m first_f (d.pair k).stronger ≡ view m first_f r = ap (view m first_f) e in
          let y : view m first_f r ≡ view m₀ first_f r = w.unchanged.low first_f r (omega arith) in
          let x : view m first_f (d.pair k).stronger ≤ i = omega (arith, w.from) in
          let p : (d.pair (view m first_f (d.pair k).stronger)).stronger ≤ (d.pair i).stronger = s.order.rising _ i x (omega arith) in
          let q : (d.pair i).stronger ≤ (d.pair k).stronger = s.order.rising i k h l in
          absurd (n (omega arith) (omega arith))) (λ h. h) (at_most i k)

  module _ (lo : 2 ≤ t) (hi : t < tag_count) (h : i < d.pairs) (e : (d.pair i).stronger ≡ r) where
    -- what its turns ask
    pub walk_small : (view m (rivals_by t) (d.pair i).weaker < 65535) × (view m head_f (d.pair i).weaker < field_size) × (view m (by_rival t) (view m head_f (d.pair i).weaker) < 65535)
    walk_small =
        let x : (d.pair i).weaker < d.rules = s.order.weak i h in
        let c : view m head_f (d.pair i).weaker ≡ head_of d (d.pair i).weaker = w.tests.index.heads (d.pair i).weaker x in
        let k : head_of d (d.pair i).weaker < 2 * d.atoms = s.heads (d.pair i).weaker x in
        let f : view m head_f (d.pair i).weaker < 2 * d.atoms = omega arith in (
          omega (
            arith,
            w.tests.counts.rules (rivals_by t) (d.pair i).weaker (omega arith) (omega arith) x,
            count_le d.pairs (λ i'.
                eqb (d.pair i').weaker (d.pair i).weaker and supporter d (d.pair i').stronger (complement (head_of d (d.pair i).weaker)) and notified_below d (view m) t r i (rivals_by t) i'),
            s.order.few,
          ),
          omega (arith, s.few),
          omega (
            arith,
            w.tests.counts.literals (by_rival t) (view m head_f (d.pair i).weaker) (omega arith) (omega arith) f,
            count_le d.rules (λ x.
                allowed (by_rival t) (kind_of d x) and eqb (head_of d x) (view m head_f (d.pair i).weaker) and decided_for (view m) (by_rival t) x),
            s.order.small,
          ),
        )

    -- one turn: the weaker rule is notified
    module _ (can : T (can_support (kind_of d r))) (q : ℕ) (c : q ≡ complement (head_of d r)) (n : List ℕ) (g : Notified q (d.pair i).weaker t m n) where
      weak : (d.pair i).weaker < d.rules
      weak = s.order.weak i h

      head : view m head_f (d.pair i).weaker ≡ head_of d (d.pair i).weaker
      head = w.tests.index.heads (d.pair i).weaker weak

      is_own : T (own d t r (rivals_by t) i)
      is_own = and_intro _ _ (eqb_refl (rivals_by t)) (eq→eqb _ _ e)

      -- a pair of r is a rival's if its weaker rule has the complement of r's head
      rival : supporter d (d.pair i).stronger (complement (head_of d (d.pair i).weaker)) ≡ eqb (view m head_f (d.pair i).weaker) q
      unfolding supporter
      rival = test_eq _ _
          (λ u. let x : head_of d (d.pair i).stronger ≡ complement (head_of d (d.pair i).weaker) = eqb→eq _ _ (and_right _ _ u) in
          eq→eqb _ _ (head ∙ sym (complement_complement (head_of d (d.pair i).weaker)) ∙ ap complement (sym x ∙ ap (head_of d) e) ∙ sym c))
          (λ u. and_intro _ _ (subst (λ z. T (can_support (kind_of d z))) (sym e) can)
          (eq→eqb _ _ (ap (head_of d) e ∙ sym (complement_complement (head_of d r)) ∙ ap complement (sym c ∙ sym (eqb→eq _ _ u) ∙ head))))

      notifying : T (notifies d (view m) (rivals_by t) i)
      notifying = let z : rivals_by t - rivals_base ≡ t = omega arith in subst (λ x. T (reached (view m) x (d.pair i).stronger)) (sym z) (subst (λ x. T (reached (view m) t x)) (sym e) w.fires)

      first : Open d g.middle (decided_for (view m)) (notified_below d (view m) t r (i + 1))
      first =
          open_raised d m g.middle _ _ _ _ (rivals_by t) (d.pair i).weaker _ (omega arith) (past_rule (rivals_by t) (omega arith) (inl (omega arith))) g.first w.tests
          (counts_pair d (view m) (view g.middle) _ _ w.tests.counts (notified_below d (view m) t r (i + 1)) (rivals_by t) i _ (omega arith) (omega arith) h g.first.words
          (λ f k _ _ l o. to_same d (view m) t r i (i + 1) f k (λ u. (λ v. omega arith, λ v. ⊎_elim (λ a. absurd (o (eqb→eq _ _ (and_left _ _ u)) (omega arith))) (λ a. a) (at_most i k))))
          weights)
        where
          weights : weigh (supporter d (d.pair i).stronger (complement (head_of d (d.pair i).weaker)) and notified_below d (view m) t r (i + 1) (rivals_by t) i) 1
              ≡ weigh (supporter d (d.pair i).stronger (complement (head_of d (d.pair i).weaker)) and notified_below d (view m) t r i (rivals_by t) i) 1 + weigh (eqb (view m head_f (d.pair i).weaker) q) 1
          weights =
              let a : notified_below d (view m) t r (i + 1) (rivals_by t) i ≡ true = to_notified d (view m) t r (i + 1) (rivals_by t) i (omega arith) ∙ true_of _ notifying in
              let b : weigh (supporter d (d.pair i).stronger (complement (head_of d (d.pair i).weaker)) and notified_below d (view m) t r i (rivals_by t) i) 1 ≡ 0 =
              weigh_false _ 1 (λ u. of_false _ (to_later d (view m) t r i (rivals_by t) i is_own (omega arith)) (and_right _ _ u)) in
              let y : weigh (supporter d (d.pair i).stronger (complement (head_of d (d.pair i).weaker)) and notified_below d (view m) t r (i + 1) (rivals_by t) i) 1 ≡ weigh (eqb (view m head_f (d.pair i).weaker) q) 1 =
              ap (λ z. weigh z 1) (test_eq _ _ (λ u. subst T rival (and_left _ _ u)) (λ u. and_intro _ _ (subst T (sym rival) u) (of_true _ a))) in
              omega arith

      -- no rule has more rivals that are notified than rivals
      bound : view g.middle (rivals_by t) (d.pair i).weaker ≤ view g.middle rivals_f (d.pair i).weaker
      bound =
          let a : view g.middle (rivals_by t) (d.pair i).weaker ≡ rivals_of d (notified_below d (view m) t r (i + 1) (rivals_by t)) (d.pair i).weaker = first.counts.rules (rivals_by t) (d.pair i).weaker (omega arith) (omega arith) weak in
          let b : view g.middle rivals_f (d.pair i).weaker ≡ rivals_of d (λ _. true) (d.pair i).weaker = first.index.rivals (d.pair i).weaker weak in
          let y : rivals_of d (notified_below d (view m) t r (i + 1) (rivals_by t)) (d.pair i).weaker ≤ rivals_of d (λ _. true) (d.pair i).weaker =
          total_le d.pairs _ _ (λ k _. weigh_imply _ _ 1 (λ u. and_intro _ _ (and_left _ _ u) tt)) in
          omega arith

      turns : Turns (allowed (by_rival t) (kind_of d (d.pair i).weaker) and decided_for (view g.middle) (by_rival t) (d.pair i).weaker)
          (allowed (by_rival t) (kind_of d (d.pair i).weaker) and decided_for (view m) (by_rival t) (d.pair i).weaker)
          (eqb (view m head_f (d.pair i).weaker) q and just_reached_by_rival (view g.middle) t (d.pair i).weaker)
      turns = tag_cases NotifiedTurns notified_countered notified_unopposed t lo hi (view m) (view g.middle) (d.pair i).weaker (eqb (view m head_f (d.pair i).weaker) q) (kind_of d (d.pair i).weaker) g.first.words bound

      raised : Raised (by_rival t) (head_of d (d.pair i).weaker) (weigh (eqb (view m head_f (d.pair i).weaker) q and just_reached_by_rival (view g.middle) t (d.pair i).weaker) 1) g.middle n
      raised = subst (λ z. Raised (by_rival t) z (weigh (eqb (view m head_f (d.pair i).weaker) q and just_reached_by_rival (view g.middle) t (d.pair i).weaker) 1) g.middle n) head g.second

      same : (f x : ℕ) → proved_f ≤ f → f < counts_end → decided_for (view n) f x ≡ decided_for (view g.middle) f x
      same f x a b = decided_literal (view g.middle) (view n) (by_rival t) _ _ (omega arith) raised.words f x a b

      notified_unchanged : Unchanged m n
      notified_unchanged = unchanged_trans (raised_unchanged (omega arith) g.first) (raised_unchanged (omega arith) raised)

      second : Open d n (decided_for (view n)) (notified_below d (view m) t r (i + 1))
      second =
          open_literal d g.middle n (decided_for (view m)) _ (decided_for (view n)) (by_rival t) (d.pair i).weaker _ (omega arith) (omega arith) weak raised
          (λ f x a b _ o. same f x a b ∙ decided_rule (view m) (view g.middle) t (d.pair i).weaker _ lo hi g.first.words f x a b o)
          (ap (λ z. weigh (allowed (by_rival t) (kind_of d (d.pair i).weaker) and z) 1) (same (by_rival t) (d.pair i).weaker (omega arith) (omega arith)) ∙ turns) first

      pub walk_next : Walking d t r m₀ n (i + 1)
      walk_next =
          record {
            from = omega (arith, w.from);
            tests = open_ext d n _ _ _ _ (λ _ _ _ _ _. refl) (λ f k a b _ _. to_unchanged d m n t r (i + 1) f k a b notified_unchanged) second;
            unchanged = unchanged_trans w.unchanged notified_unchanged;
            fires = subst T (sym (reached_same (view m) (view n) t r (notified_unchanged.low (has t) r (omega arith)) (notified_unchanged.low size_f r (omega arith)))) w.fires;
          }

-- the turns, of the values that the code has at hand
module _ (d : Theory) (s : WellFormed d) (t r : ℕ) (m₀ m : List ℕ) (i : ℕ) (w : Walking d t r m₀ m i) where
  pub turn_asks : (x : ℕ) → 2 ≤ t → t < tag_count → i < d.pairs → (d.pair i).stronger ≡ r → x ≡ (d.pair i).weaker
      → ((x < field_size) × (2 ≤ t) × (t < tag_count) × (memory_size ≤ length m) × NeverBothAt (view m) x)
      × ((view m (rivals_by t) x < 65535) × (view m head_f x < field_size) × (view m (by_rival t) (view m head_f x) < 65535))
  turn_asks x lo hi h e f = (
    (omega (arith, s.order.weak i h, s.order.small), lo, hi, w.tests.room, subst (NeverBothAt (view m)) (sym f) (w.tests.never (d.pair i).weaker (s.order.weak i h))),
    subst (λ z. (view m (rivals_by t) z < 65535) × (view m head_f z < field_size) × (view m (by_rival t) (view m head_f z) < 65535)) (sym f) (walk_small d s t r m₀ m i w lo hi h e),
  )

  pub turn_next : (x : ℕ) → 2 ≤ t → t < tag_count → i < d.pairs → (d.pair i).stronger ≡ r → x ≡ (d.pair i).weaker → T (can_support (kind_of d r)) → (q : ℕ) → q ≡ complement (head_of d r)
      → (n : List ℕ) → Notified q x t m n → Walking d t r m₀ n (i + 1)
  turn_next x lo hi h e f can q c n g = walk_next d s t r m₀ m i w lo hi h e can q c n (subst (λ z. Notified q z t m n) f g)

-- the complement of the rule's head, as it is read
pub opposite_is : (d : Theory) (m : List ℕ) (p b : ℕ → ℕ → Bool) (r h c q : ℕ) → Open d m p b → r < d.rules → h ≡ view m head_f r → c ≡ complement h → q ≡ c → q ≡ complement (head_of d r)
opposite_is d m p b r h c q o k e f g = g ∙ f ∙ ap complement (e ∙ o.index.heads r k)
