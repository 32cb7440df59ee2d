-- The turns of the loops over rules, over the uses of a literal and over the list (specs/Leaving.antt). Assumes nothing.
use Prim.Native.Nat.{ℕ, ◌+◌, ◌-◌, ◌*◌, ◌≤◌, ◌<◌}
use native.Mathlib.Nat.{lt_irrefl}
use native.Mathlib.Numerals.{add-one}
use native.Mathlib.Omega.{arith}
use mathlib.Core.Path.{◌≡◌, refl, sym, ◌∙◌, ap, subst}
use mathlib.Core.Logic.{⊎_elim}
use mathlib.Core.Bool.{Bool, false}
use mathlib.Core.List.{List, [], ◌∷◌, ◌++◌}
use lib.Dec.{T, eqb→eq, eqb_refl, ltb, ltb→lt, lt→ltb}
use lib.ListN.{length, get_or, set, take, drop, take-append-drop}
use lib.Seq.{take_all, take-suc, take-take, get_or-take, length-take-le}
use Rattle.logic.specs.Tests.{◌or◌, member, distinct, weigh, upto}
use Rattle.logic.specs.Theory.{Theory, head_of, body_of}
use Rattle.logic.proofs.Tests.{test_eq, false_of, eq→eqb, and_intro, and_left, and_right, or_left, or_right, or_elim, lt_suc_cases}
use Rattle.logic.proofs.Lists.{member_nil, member_left, member_last, member_snoc, member_get_d, member_pick, member_pick_intro, member_upto, member_upto_intro, distinct_pick, distinct_upto, distinct_before, pick_same}
use Rattle.logic.proofs.Sums.{weigh_true, weigh_false, pick_one_more}
use Rattle.memory.specs.Memory.{users, antecedents}
use Rattle.memory.specs.Api.{UsesAt}
use Rattle.memory.proofs.uses.Users.{user_below}
use Rattle.searching.specs.Leaving.{Leaves, founds, Leaving, Reached, told_of, told_to, Telling}
use Rattle.searching.proofs.Losing.{Orderly, Asks, loss_asks, lost_ext, loss_next}

-- the first places of an array are within more of them
first_in : (m n : ℕ) (l : List ℕ) → m ≤ n → (x : ℕ) → T (member x (take m l)) → T (member x (take n l))
first_in m n l h x t =
    subst (λ k. T (member x k)) (ap (◌++ drop m (take n l)) (sym (take-take m n l h)) ∙ take-append-drop m (take n l)) (member_left x (take m l) (drop m (take n l)) t)

-- the rules that use a literal
users_apart : (d : Theory) (p : ℕ) → T (distinct (users d p))
unfolding users
users_apart d p = distinct_pick (upto d.rules) _ (distinct_upto d.rules)

users_of : (d : Theory) (p r : ℕ) → T (member r (users d p)) → (r < d.rules) × T (member p (body_of d r))
unfolding users
users_of d p r m = let (u, v) = member_pick (upto d.rules) _ r m in (member_upto d.rules r u, v)

users_in : (d : Theory) (p r : ℕ) → r < d.rules → T (member p (body_of d r)) → T (member r (users d p))
unfolding users
users_in d p r h m = member_pick_intro (upto d.rules) _ r (member_upto_intro d.rules r h) m

-- the k-th use
module _ (d : Theory) (p first end k : ℕ) (u : UsesAt d p first end) (f : first ≤ k) (g : k < end) where
  pub use_within : k - first < length (users d p)
  use_within = omega (arith, u.finish)

  pub user_small : {r : ℕ} → r ≡ get_or (users d p) (k - first) 0 → r < d.rules
  user_small e = subst (λ x. x < d.rules) (sym e) (user_below d p (k - first) use_within)

module _ (d : Theory) (holds : ℕ → ℕ → Bool) (i : ℕ) (o : Orderly d) where
  -- a rule loses its virtual antecedent
  pub begin_next : (r : ℕ) (lost gone list : List ℕ) (end : ℕ) → Reached d holds i r (λ _ _. false) lost gone list end → r < d.rules
      → (lost' gone' list' : List ℕ) (last : ℕ) → lost' ≡ set lost r (get_or lost r 0 + 1)
      → Leaves (founds d holds i (get_or lost r 0 + 1) r) (head_of d r) gone list end gone' list' last → Reached d holds i (r + 1) (λ _ _. false) lost' gone' list' last
  begin_next r lost gone list end k h lost' gone' list' last e p =
      loss_next d holds i r (λ _ _. false) lost gone list end o k r h (r + 1) (λ _ _. false) (λ a x t. absurd t)
      (omega (arith, k.losses.counts r h, weigh_false (ltb r r) 1 (λ t. lt_irrefl r (ltb→lt r r t)), weigh_true (ltb r (r + 1)) 1 (lt→ltb r (r + 1) (omega arith))))
      (λ x l ne. ap (λ b. weigh b 1 + antecedents d (λ _. false) x) (test_eq (ltb x (r + 1)) (ltb x r)
      (λ t. lt→ltb x r (⊎_elim (λ u. u) (λ u. absurd (ne u)) (lt_suc_cases x r (subst (λ y. x < y) (add-one r) (ltb→lt x (r + 1) t)))))
      (λ t. let u = ltb→lt x r t in lt→ltb x (r + 1) (omega arith))))
      gone' list' last p lost' e

  -- no rule was told of any literal
  pub tell_none : (n : ℕ) (lost gone list : List ℕ) (end : ℕ) → Reached d holds i n (λ _ _. false) lost gone list end → Reached d holds i n (told_of (take 0 list)) lost gone list end
  tell_none n lost gone list end k =
      lost_ext d holds i n (λ _ _. false) (told_of (take 0 list)) lost gone list end (λ r h a m. false_of _ (member_nil a)) (λ a r t. absurd (member_nil a t)) k

  -- The literal at place `next`.
  module _ (list₀ : List ℕ) (next : ℕ) where
    -- it is one
    pub next_below : (gone : List ℕ) (end : ℕ) → Leaving d holds i gone list₀ end → next < end → get_or list₀ next 0 < 2 * d.atoms
    next_below gone end k h =
        k.listed.below _ (subst (λ x. T (member x (take end list₀))) (get_or-take end list₀ next 0 h)
        (member_get_d (take end list₀) next (omega (arith, length-take-le end list₀ (omega (arith, k.within, k.places))))))

    telling_none : (lost gone : List ℕ) (end : ℕ) → next < end → Reached d holds i d.rules (told_of (take next list₀)) lost gone list₀ end
        → Telling d holds i list₀ next lost gone list₀ end 0
    telling_none lost gone end h k =
        record {
          reached =
              lost_ext d holds i d.rules (told_of (take next list₀)) (told_to (take next list₀) (get_or list₀ next 0) (take 0 (users d (get_or list₀ next 0)))) lost gone list₀ end
              (λ r l a m. test_eq _ _ (past r a) (or_left _ _)) (λ a r t. first_in next end list₀ (omega arith) a (past r a t)) k;
          same = refl;
          ahead = h;
        }
      where
        past : (r a : ℕ) → T (told_to (take next list₀) (get_or list₀ next 0) (take 0 (users d (get_or list₀ next 0))) a r) → T (member a (take next list₀))
        past r a t = ⊎_elim (λ u. u) (λ u. absurd (member_nil r (and_right _ _ u))) (or_elim _ _ t)

    pub telling_start : (lost gone : List ℕ) (end j : ℕ) → j ≡ 0 → next < end → Reached d holds i d.rules (told_of (take next list₀)) lost gone list₀ end
        → Telling d holds i list₀ next lost gone list₀ end j
    telling_start lost gone end j e h k = subst (λ z. Telling d holds i list₀ next lost gone list₀ end z) (sym e) (telling_none lost gone end h k)

    module _ (lost gone list : List ℕ) (end j : ℕ) (k : Telling d holds i list₀ next lost gone list end j) where
      abbrev p : ℕ
      p = get_or list₀ next 0

      abbrev U : List ℕ
      U = users d p

      -- the places up to it are as they were
      before : take next list₀ ≡ take next (take end list)
      before =
          sym (take-take next (next + 1) list₀ (omega arith)) ∙ ap (take next) (sym k.same) ∙ take-take next (next + 1) list (omega arith)
          ∙ sym (take-take next end list (omega (arith, k.ahead)))

      here : p ≡ get_or (take end list) next 0
      here =
          sym (get_or-take (next + 1) list₀ next 0 (omega arith)) ∙ ap (λ l. get_or l next 0) (sym k.same) ∙ get_or-take (next + 1) list next 0 (omega arith)
          ∙ sym (get_or-take end list next 0 k.ahead)

      inside : next < length (take end list)
      inside =
          let l = k.reached.barring.leaving in
          omega (arith, k.ahead, length-take-le end list (omega (arith, l.within, l.places)))

      pub telling_asks : (x : ℕ) → x < d.rules → Asks d lost gone end x
      telling_asks = loss_asks d holds i d.rules (told_to (take next list₀) p (take j U)) lost gone list end o k.reached

      telling_in : T (member p (take end list))
      telling_in = subst (λ x. T (member x (take end list))) (sym here) (member_get_d (take end list) next inside)

      new : T (member p (take next list₀)) → ⊥
      new t =
          distinct_before (take end list) next k.reached.barring.leaving.listed.once inside
          (subst (λ l. T (member (get_or (take end list) next 0) l)) before (subst (λ x. T (member x (take next list₀))) here t))

      heard : (l : List ℕ) (a r : ℕ) → T (told_to (take next list₀) p l a r) → T (member a (take end list))
      heard l a r t =
          ⊎_elim (λ u. first_in next end list (omega (arith, k.ahead)) a (subst (λ m. T (member a m)) (before ∙ take-take next end list (omega (arith, k.ahead))) u))
          (λ u. subst (λ x. T (member x (take end list))) (sym (eqb→eq a p (and_left _ _ u))) telling_in) (or_elim _ _ t)

      up_to : next < length list₀ → take (next + 1) list ≡ take next list₀ ++ (p ∷ [])
      up_to f = k.same ∙ rw add-one (take-suc list₀ next 0 f)

      -- all its uses are told
      pub telling_end : next < length list₀ → length U ≤ j → Reached d holds i d.rules (told_of (take (next + 1) list)) lost gone list end
      telling_end f l =
          lost_ext d holds i d.rules (told_to (take next list₀) p (take j U)) (told_of (take (next + 1) list)) lost gone list end
          (λ r h a m. test_eq _ _ (λ t. there r h a m (subst (λ q. T (member a q)) (up_to f) t)) (λ t. subst (λ q. T (member a q)) (sym (up_to f)) (back a r t)))
          (λ a r t. first_in (next + 1) end list (omega (arith, k.ahead)) a t) k.reached
        where
          there : (r : ℕ) → r < d.rules → (a : ℕ) → T (member a (body_of d r)) → T (member a (take next list₀ ++ (p ∷ []))) → T (told_to (take next list₀) p (take j U) a r)
          there r h a m t =
              ⊎_elim (or_left _ _)
              (λ e. or_right _ _ (and_intro _ _ (eq→eqb a p e) (subst (λ q. T (member r q)) (sym (take_all j U l)) (users_in d p r h (subst (λ x. T (member x (body_of d r))) e m)))))
              (member_snoc (take next list₀) p a t)

          back : (a r : ℕ) → T (told_to (take next list₀) p (take j U) a r) → T (member a (take next list₀ ++ (p ∷ [])))
          back a r t =
              ⊎_elim (member_left a (take next list₀) _)
              (λ u. subst (λ x. T (member x (take next list₀ ++ (p ∷ [])))) (sym (eqb→eq a p (and_left _ _ u))) (member_last (take next list₀) p)) (or_elim _ _ t)

      -- the j-th use is told
      module _ (h : j < length U) where
        abbrev r : ℕ
        r = get_or U j 0

        user : (r < d.rules) × T (member p (body_of d r))
        user = users_of d p r (member_get_d U j h)

        grown : take (j + 1) U ≡ take j U ++ (r ∷ [])
        grown = rw add-one (take-suc U j 0 h)

        told_new : T (told_to (take next list₀) p (take j U) p r) → ⊥
        told_new t = ⊎_elim new (λ u. distinct_before U j (users_apart d p) h (and_right _ _ u)) (or_elim _ _ t)

        told_now : T (told_to (take next list₀) p (take (j + 1) U) p r)
        told_now = or_right _ _ (and_intro _ _ (eqb_refl p) (subst (λ l. T (member r l)) (sym grown) (member_last (take j U) r)))

        told_else : (a x : ℕ) → (a ≡ p → x ≡ r → ⊥) → told_to (take next list₀) p (take (j + 1) U) a x ≡ told_to (take next list₀) p (take j U) a x
        told_else a x ne =
            ap (member a (take next list₀) or◌) (test_eq _ _
            (λ t. and_intro _ _ (and_left _ _ t) (⊎_elim (λ u. u) (λ e. absurd (ne (eqb→eq a p (and_left _ _ t)) e))
            (member_snoc (take j U) r x (subst (λ l. T (member x l)) grown (and_right _ _ t)))))
            (λ t. and_intro _ _ (and_left _ _ t) (subst (λ l. T (member x l)) (sym grown) (member_left x (take j U) _ (and_right _ _ t)))))

        count_here : weigh (ltb r d.rules) 1 + antecedents d (λ a. told_to (take next list₀) p (take (j + 1) U) a r) r ≡ get_or lost r 0 + 1
        count_here =
            omega (
              arith,
              k.reached.losses.counts r user.0,
              pick_one_more (body_of d r) (λ a. told_to (take next list₀) p (take j U) a r) (λ a. told_to (take next list₀) p (take (j + 1) U) a r) p (o.apart r) told_new told_now
                  (λ a ne. told_else a r (λ e _. ne e)),
              weigh_true (member p (body_of d r)) 1 user.1,
            )

        telling_one : (lost' gone' list' : List ℕ) (last : ℕ) → lost' ≡ set lost r (get_or lost r 0 + 1)
            → Leaves (founds d holds i (get_or lost r 0 + 1) r) (head_of d r) gone list end gone' list' last → Telling d holds i list₀ next lost' gone' list' last (j + 1)
        telling_one lost' gone' list' last e q =
            record {
              reached =
                  loss_next d holds i d.rules (told_to (take next list₀) p (take j U)) lost gone list end o k.reached r user.0 d.rules
                  (told_to (take next list₀) p (take (j + 1) U)) (heard (take (j + 1) U)) count_here
                  (λ x l ne. ap (λ z. weigh (ltb x d.rules) 1 + length z) (pick_same (body_of d x) (λ a. told_to (take next list₀) p (take j U) a x)
                  (λ a. told_to (take next list₀) p (take (j + 1) U) a x) (λ a _. told_else a x (λ _. ne))))
                  gone' list' last q lost' e;
              same = q.pushed.kept (next + 1) (omega (arith, k.ahead)) ∙ k.same;
              ahead = omega (arith, k.ahead, q.pushed.more);
            }

        pub telling_next : (x j' : ℕ) (lost' gone' list' : List ℕ) (last : ℕ) → x ≡ r → j' ≡ j + 1 → lost' ≡ set lost x (get_or lost x 0 + 1)
            → Leaves (founds d holds i (get_or lost x 0 + 1) x) (head_of d x) gone list end gone' list' last → Telling d holds i list₀ next lost' gone' list' last j'
        telling_next x j' lost' gone' list' last f g e q =
            subst (λ z. Telling d holds i list₀ next lost' gone' list' last z) (sym g)
            (telling_one lost' gone' list' last (subst (λ z. lost' ≡ set lost z (get_or lost z 0 + 1)) f e)
            (subst (λ z. Leaves (founds d holds i (get_or lost z 0 + 1) z) (head_of d z) gone list end gone' list' last) f q))
