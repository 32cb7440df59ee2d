-- Kahn's algorithm in the arrays of src/cycle.rt: a queue in the first places of one, counts and places by rule in the others.
-- Assumes nothing.
use Prim.Native.Nat.{ℕ, ◌+◌, ◌-◌, ◌≤◌, ◌<◌}
use native.Mathlib.Nat.{lt_irrefl, le_antisymm}
use native.Mathlib.Numerals.{add-one}
use native.Mathlib.Omega.{arith}
use mathlib.Core.Path.{◌≡◌, refl, sym, ◌∙◌, ap, subst}
use mathlib.Core.Logic.{⊎_elim}
use mathlib.Core.Bool.{Bool}
use mathlib.Core.List.{List, [], ◌∷◌, ◌++◌}
use lib.Dec.{T, eqb, eqb→eq, ltb, ltb→lt, lt→ltb}
use lib.ListN.{length, get_or, take, drop, set, length-set, take-append-drop}
use lib.Seq.{take-suc, take-take, length-take-le, get_or-set_same, get_or-set_other}
use Rattle.logic.specs.Tests.{◌and◌, ◌or◌, member, distinct, total, count_below}
use Rattle.logic.specs.Theory.{Theory}
use Rattle.logic.proofs.Tests.{test_cases, test_eq, at_most, eq→eqb, and_intro, and_left, and_right, or_left, or_right, or_elim, lt_suc_cases}
use Rattle.logic.proofs.Lists.{member_nil, member_left, member_last, member_snoc, distinct_left, distinct_apart}
use Rattle.logic.proofs.Sums.{weigh_true, weigh_false}
use Rattle.logic.proofs.Pigeon.{count_le}
use Rattle.table.specs.Pairs.{PairsInOrder}
use Rattle.table.specs.Release.{removed_by, Runs, Zeros, Queued, Pushed}
use Rattle.table.proofs.Kahn.{pushed, pushed_in, pushed_last, pushed_of, pushed_once, told_ext, step_waits, step_room, step}

-- a queue of the rules that wait for nothing, rule by rule
pub zeros_none : (degree q : List ℕ) → Zeros 0 degree (take 0 q)
unfolding distinct
zeros_none degree q =
    record {
      once = tt;
      below = λ w m. absurd (member_nil w m);
      none = λ w m. absurd (member_nil w m);
      whole = λ w h e. absurd (omega arith);
    }

zeros_pushed : (r : ℕ) (degree q : List ℕ) → Zeros r degree q → Zeros (r + 1) degree (pushed (eqb (get_or degree r 0) 0) q r)
zeros_pushed r degree q z =
    record {
      once = pushed_once (eqb (get_or degree r 0) 0) q r z.once (λ m. lt_irrefl r (z.below r m));
      below =
          λ w m. ⊎_elim (λ u. omega (arith, z.below w u)) (λ u. let e : w ≡ r = u.1 in omega arith) (pushed_of (eqb (get_or degree r 0) 0) q r w m);
      none =
          λ w m. ⊎_elim (z.none w) (λ u. ap (λ k. get_or degree k 0) u.1 ∙ eqb→eq _ _ u.0) (pushed_of (eqb (get_or degree r 0) 0) q r w m);
      whole =
          λ w h e. ⊎_elim (λ l. pushed_in (eqb (get_or degree r 0) 0) q r w (z.whole w l e))
          (λ i. subst (λ k. T (member k (pushed (eqb (get_or degree r 0) 0) q r))) (sym i) (pushed_last (eqb (get_or degree r 0) 0) q r
          (eq→eqb _ _ (subst (λ k. get_or degree k 0 ≡ 0) i e)))) (lt_suc_cases w r (subst (λ k. w < k) (add-one r) h));
    }

pub zeros_next : (r : ℕ) (degree q after : List ℕ) (end last : ℕ) → Zeros r degree (take end q)
    → Pushed (eqb (get_or degree r 0) 0) r q end after last → Zeros (r + 1) degree (take last after)
zeros_next r degree q after end last z p = subst (λ l. Zeros (r + 1) degree l) (sym p.grown) (zeros_pushed r degree (take end q) z)

pub zeros_all : (n r : ℕ) (degree q : List ℕ) → r ≤ n → n ≤ r → Zeros r degree q → Zeros n degree q
zeros_all n r degree q h l z = subst (λ k. Zeros k degree q) (le_antisymm h l) z

-- how often a number stands below i, number by number
pub record Tally (f : ℕ → ℕ) (l : List ℕ) (i : ℕ) : Type 0 where
  pub at : (w : ℕ) → w < 1024 → get_or l w 0 ≡ count_below i (λ k. eqb (f k) w)

pub tally_none : (f : ℕ → ℕ) (l : List ℕ) → ((w : ℕ) → w < 1024 → get_or l w 0 ≡ 0) → Tally f l 0
unfolding total
tally_none f l e = record { at = e }

pub tally_most : (f : ℕ → ℕ) (l : List ℕ) (i x : ℕ) → Tally f l i → x < 1024 → get_or l x 0 ≤ i
tally_most f l i x t h = omega (arith, t.at x h, count_le i (λ k. eqb (f k) x))

pub tally_next : (f : ℕ → ℕ) (l : List ℕ) (i x : ℕ) → x ≡ f i → x < length l → Tally f l i → Tally f (set l x (get_or l x 0 + 1)) (i + 1)
unfolding total
tally_next f l i x e fits t = record {
  at = λ w h. rw (add-one i) (⊎_elim
      (λ u. let g : f i ≡ w = eqb→eq _ _ u in
      let here : get_or (set l x (get_or l x 0 + 1)) w 0 ≡ get_or l x 0 + 1 =
      ap (λ k. get_or (set l x (get_or l x 0 + 1)) k 0) (sym (e ∙ g)) ∙ get_or-set_same l x (get_or l x 0 + 1) 0 fits in
      let old : get_or l x 0 ≡ get_or l w 0 = ap (λ k. get_or l k 0) (e ∙ g) in
      omega (arith, t.at w h, weigh_true (eqb (f i) w) 1 u))
      (λ n. let same : get_or (set l x (get_or l x 0 + 1)) w 0 ≡ get_or l w 0 =
      get_or-set_other l x w (get_or l x 0 + 1) 0 (λ g. n (eq→eqb (f i) w (sym (g ∙ e)))) in
      omega (arith, t.at w h, weigh_false (eqb (f i) w) 1 n)) (test_cases (eqb (f i) w)));
}

pub tally_all : (f : ℕ → ℕ) (l : List ℕ) (n i : ℕ) → i ≤ n → n ≤ i → Tally f l i → Tally f l n
tally_all f l n i h m t = subst (λ k. Tally f l k) (le_antisymm h m) t

-- where the pairs of each rule begin, of those from the i-th on
pub record RunsFrom (d : Theory) (first : List ℕ) (i : ℕ) : Type 0 where
  pub at : (k : ℕ) → i ≤ k → k < d.pairs
      → (get_or first (d.pair k).stronger 0 ≤ k) × ((d.pair (get_or first (d.pair k).stronger 0)).stronger ≡ (d.pair k).stronger)

pub runs_none : (d : Theory) (first : List ℕ) (i : ℕ) → d.pairs ≤ i → RunsFrom d first i
runs_none d first i h = record { at = λ k l m. absurd (omega arith) }

pub runs_next : (d : Theory) (first : List ℕ) (i x : ℕ) → 0 < i → x ≡ (d.pair (i - 1)).stronger → x < length first → RunsFrom d first i
    → RunsFrom d (set first x (i - 1)) (i - 1)
runs_next d first i x pos e fits f = record {
  at = λ k l m. ⊎_elim
      (λ u. let g : (d.pair k).stronger ≡ x = eqb→eq _ _ u in
      let here : get_or (set first x (i - 1)) (d.pair k).stronger 0 ≡ i - 1 =
      ap (λ z. get_or (set first x (i - 1)) z 0) g ∙ get_or-set_same first x (i - 1) 0 fits in
      (omega arith, ap (λ z. (d.pair z).stronger) here ∙ sym e ∙ sym g))
      (λ n. let same : get_or (set first x (i - 1)) (d.pair k).stronger 0 ≡ get_or first (d.pair k).stronger 0 =
      get_or-set_other first x (d.pair k).stronger (i - 1) 0 (λ g. n (eq→eqb _ _ g)) in
      let old = f.at k (⊎_elim (λ a. a) (λ a. let z : k ≡ i - 1 = omega arith in
      absurd (n (eq→eqb _ _ (ap (λ j. (d.pair j).stronger) z ∙ sym e)))) (at_most i k)) m in
      (subst (λ z. z ≤ k) (sym same) old.0, ap (λ z. (d.pair z).stronger) same ∙ old.1))
      (test_cases (eqb (d.pair k).stronger x));
}

pub runs_all : (d : Theory) (first : List ℕ) (i : ℕ) → i ≤ 0 → RunsFrom d first i → Runs d first
runs_all d first i h f = record { least = λ k l. (f.at k (omega arith) l).0; same = λ k l. (f.at k (omega arith) l).1 }

-- the first places of an array are within more of them
prefix : (i j : ℕ) (l : List ℕ) → i ≤ j → take i l ++ drop i (take j l) ≡ take j l
prefix i j l h = ap (◌++ drop i (take j l)) (sym (take-take i j l h)) ∙ take-append-drop i (take j l)

taken_in : (q : List ℕ) (next end : ℕ) → next < end → next < length q → T (member (get_or q next 0) (take end q))
taken_in q next end h l =
    subst (λ m. T (member (get_or q next 0) m)) (prefix (next + 1) end q (omega arith))
    (member_left (get_or q next 0) (take (next + 1) q) _ (rw (add-one next, take-suc q next 0 l) (member_last (take next q) (get_or q next 0))))

pub taken_small : (d : Theory) (removed : ℕ → Bool) (degree q : List ℕ) (next end r : ℕ) → PairsInOrder d → Queued d removed degree (take end q)
    → next < end → next < length q → r ≡ get_or q next 0 → r < 1024
taken_small d removed degree q next end r o k h l e = omega (arith, k.zeros.below (get_or q next 0) (taken_in q next end h l), o.small)

-- the pairs that are removed while a rule r is taken up: those of the rules before it, and its own below i
abbrev pub told_to : Theory → List ℕ → ℕ → ℕ → ℕ → Bool
told_to d l r i k = member (d.pair k).stronger l or (eqb (d.pair k).stronger r and ltb k i)

-- how it stands while the rule at place `next` of the queue is taken up
pub record Removing (d : Theory) (queue₀ : List ℕ) (next : ℕ) (degree queue : List ℕ) (last i : ℕ) : Type 0 where
  pub queued : Queued d (told_to d (take next queue₀) (get_or queue₀ next 0) i) degree (take last queue)
  pub same : take (next + 1) queue ≡ take (next + 1) queue₀
  pub degrees : length degree ≡ 1024
  pub places : length queue ≡ 1024
  pub ahead : next < last
  pub most : last ≤ 1024

module _ (d : Theory) (queue₀ : List ℕ) (next : ℕ) (fits : next < length queue₀) where
  pub removing_start : (first degree : List ℕ) (end r i : ℕ) → Runs d first → Queued d (removed_by d (take next queue₀)) degree (take end queue₀)
      → length degree ≡ 1024 → length queue₀ ≡ 1024 → next < end → end ≤ 1024 → r ≡ get_or queue₀ next 0 → i ≡ get_or first r 0
      → (get_or first (get_or queue₀ next 0) 0 ≤ i) × Removing d queue₀ next degree queue₀ end i
  removing_start first degree end r i runs q a b l m e f =
      let g : i ≡ get_or first (get_or queue₀ next 0) 0 = f ∙ ap (λ z. get_or first z 0) e in
      (omega arith, subst (λ z. Removing d queue₀ next degree queue₀ end z) (sym g) begun)
    where
      early : (k : ℕ) → k < d.pairs → T (eqb (d.pair k).stronger (get_or queue₀ next 0) and ltb k (get_or first (get_or queue₀ next 0) 0)) → ⊥
      early k h u =
          let e : (d.pair k).stronger ≡ get_or queue₀ next 0 = eqb→eq _ _ (and_left _ _ u) in
          let l : k < get_or first (get_or queue₀ next 0) 0 = ltb→lt _ _ (and_right _ _ u) in
          let g : get_or first (d.pair k).stronger 0 ≡ get_or first (get_or queue₀ next 0) 0 = ap (λ z. get_or first z 0) e in
          omega (arith, runs.least k h)

      begun : Removing d queue₀ next degree queue₀ end (get_or first (get_or queue₀ next 0) 0)
      begun =
          record {
            queued =
                told_ext d _ _ degree (take end queue₀)
                (λ k h. test_eq _ _ (λ t. or_left _ _ t) (λ t. ⊎_elim (λ u. u) (λ u. absurd (early k h u)) (or_elim _ _ t))) q;
            same = refl;
            degrees = a;
            places = b;
            ahead = l;
            most = m;
          }

  module _ (o : PairsInOrder d) (degree queue : List ℕ) (last i : ℕ) (k : Removing d queue₀ next degree queue last i) where
    up_to : take (next + 1) queue ≡ take next queue₀ ++ (get_or queue₀ next 0 ∷ [])
    up_to = k.same ∙ rw add-one (take-suc queue₀ next 0 fits)

    whole : take next queue₀ ++ (get_or queue₀ next 0 ∷ []) ++ drop (next + 1) (take last queue) ≡ take last queue
    whole = let h : next + 1 ≤ last = omega (arith, k.ahead) in ap (◌++ drop (next + 1) (take last queue)) (sym up_to) ∙ prefix (next + 1) last queue h

    pub removing_in : T (member (get_or queue₀ next 0) (take last queue))
    removing_in =
        subst (λ l. T (member (get_or queue₀ next 0) l)) whole
        (member_left (get_or queue₀ next 0) (take next queue₀ ++ (get_or queue₀ next 0 ∷ [])) _ (member_last (take next queue₀) (get_or queue₀ next 0)))

    removing_new : T (member (get_or queue₀ next 0) (take next queue₀)) → ⊥
    removing_new =
        distinct_apart (take next queue₀) (get_or queue₀ next 0) []
        (distinct_left _ (drop (next + 1) (take last queue)) (subst (λ l. T (distinct l)) (sym whole) k.queued.zeros.once))

    pub removing_end : (first : List ℕ) → Runs d first → get_or first (get_or queue₀ next 0) 0 ≤ i → (i < d.pairs → (d.pair i).stronger ≡ get_or queue₀ next 0 → ⊥)
        → Queued d (removed_by d (take (next + 1) queue)) degree (take last queue)
    removing_end first runs from stop =
        told_ext d _ _ degree (take last queue) (λ j h. test_eq _ _ (there j) (λ t. back j h (subst (λ l. T (member (d.pair j).stronger l)) up_to t))) k.queued
      where
        there : (j : ℕ) → T (told_to d (take next queue₀) (get_or queue₀ next 0) i j) → T (member (d.pair j).stronger (take (next + 1) queue))
        there j t =
            subst (λ l. T (member (d.pair j).stronger l)) (sym up_to) (⊎_elim
            (λ u. member_left (d.pair j).stronger (take next queue₀) _ u)
            (λ u. subst (λ z. T (member z (take next queue₀ ++ (get_or queue₀ next 0 ∷ [])))) (sym (eqb→eq _ _ (and_left _ _ u)))
            (member_last (take next queue₀) (get_or queue₀ next 0))) (or_elim _ _ t))

        passed : (j : ℕ) → j < d.pairs → (d.pair j).stronger ≡ get_or queue₀ next 0 → i ≤ j → ⊥
        passed j h e l =
            let start : get_or first (d.pair j).stronger 0 ≡ get_or first (get_or queue₀ next 0) 0 = ap (λ z. get_or first z 0) e in
            let in_range : i < d.pairs = omega arith in
            let low : (d.pair (get_or first (d.pair j).stronger 0)).stronger ≤ (d.pair i).stronger = o.rising _ i (omega arith) in_range in
            let high : (d.pair i).stronger ≤ (d.pair j).stronger = o.rising i j l h in
            let first_is : (d.pair (get_or first (d.pair j).stronger 0)).stronger ≡ (d.pair j).stronger = runs.same j h in
            stop in_range (omega arith)

        back : (j : ℕ) → j < d.pairs → T (member (d.pair j).stronger (take next queue₀ ++ (get_or queue₀ next 0 ∷ [])))
            → T (told_to d (take next queue₀) (get_or queue₀ next 0) i j)
        back j h t =
            ⊎_elim (λ u. or_left _ _ u)
            (λ e. or_right (member (d.pair j).stronger (take next queue₀)) _ (and_intro _ _ (eq→eqb _ _ e)
            (⊎_elim (λ l. absurd (passed j h e l)) (λ l. lt→ltb j i l) (at_most i j)))) (member_snoc (take next queue₀) (get_or queue₀ next 0) (d.pair j).stronger t)

    -- the i-th pair is the rule's
    module _ (h : i < d.pairs) (e : (d.pair i).stronger ≡ get_or queue₀ next 0) where
      in_queue : T (member (d.pair i).stronger (take last queue))
      in_queue = subst (λ z. T (member z (take last queue))) (sym e) removing_in

      fresh : T (told_to d (take next queue₀) (get_or queue₀ next 0) i i) → ⊥
      fresh t =
          ⊎_elim (λ u. removing_new (subst (λ z. T (member z (take next queue₀))) e u)) (λ u. lt_irrefl i (ltb→lt i i (and_right _ _ u))) (or_elim _ _ t)

      pub removing_waits : (x : ℕ) → x ≡ (d.pair i).weaker → 1 ≤ get_or degree x 0
      removing_waits x f =
          subst (λ z. 1 ≤ get_or degree z 0) (sym f) (step_waits d o _ degree (take last queue) k.queued i h fresh in_queue)

      pub removing_room : last < d.rules
      removing_room =
          let m : last ≤ length queue = omega (arith, k.places, k.most) in
          omega (arith, step_room d o _ degree (take last queue) k.queued i h fresh in_queue, length-take-le last queue m)

      told_other : (j : ℕ) → (j ≡ i → ⊥) → told_to d (take next queue₀) (get_or queue₀ next 0) (i + 1) j ≡ told_to d (take next queue₀) (get_or queue₀ next 0) i j
      told_other j ne =
          ap (λ t. member (d.pair j).stronger (take next queue₀) or (eqb (d.pair j).stronger (get_or queue₀ next 0) and t)) (test_eq _ _
          (λ t. lt→ltb j i (⊎_elim (λ l. l) (λ g. absurd (ne g)) (lt_suc_cases j i (subst (λ z. j < z) (add-one i) (ltb→lt j (i + 1) t)))))
          (λ t. let l = ltb→lt j i t in lt→ltb j (i + 1) (omega arith)))

      removing_step : (degree' queue' : List ℕ) (last' : ℕ) → degree' ≡ set degree (d.pair i).weaker (get_or degree (d.pair i).weaker 0 - 1)
          → Pushed (eqb (get_or degree (d.pair i).weaker 0 - 1) 0) (d.pair i).weaker queue last queue' last' → length queue' ≡ length queue
          → Removing d queue₀ next degree' queue' last' (i + 1)
      removing_step degree' queue' last' f p g =
          record {
            queued =
                subst (λ l. Queued d (told_to d (take next queue₀) (get_or queue₀ next 0) (i + 1)) l (take last' queue')) (sym f)
                (subst (λ l. Queued d (told_to d (take next queue₀) (get_or queue₀ next 0) (i + 1))
                (set degree (d.pair i).weaker (get_or degree (d.pair i).weaker 0 - 1)) l) (sym p.grown)
                (step d o _ degree (take last queue) k.queued i h fresh in_queue _
                (or_right _ _ (and_intro _ _ (eq→eqb _ _ e) (lt→ltb i (i + 1) (omega arith)))) (λ j _. told_other j) below _ refl));
            same = p.kept (next + 1) (omega (arith, k.ahead)) ∙ k.same;
            degrees = ap length f ∙ length-set degree (d.pair i).weaker (get_or degree (d.pair i).weaker 0 - 1) ∙ k.degrees;
            places = g ∙ k.places;
            ahead = omega (arith, k.ahead, p.more);
            most = omega (arith, removing_room, p.most, o.small);
          }
        where
          below : (d.pair i).weaker < length degree
          below = omega (arith, k.degrees, o.weak i h, o.small)

      pub removing_next : (x : ℕ) (degree' queue' : List ℕ) (last' : ℕ) → x ≡ (d.pair i).weaker → degree' ≡ set degree x (get_or degree x 0 - 1)
          → Pushed (eqb (get_or degree x 0 - 1) 0) x queue last queue' last' → length queue' ≡ length queue
          → Removing d queue₀ next degree' queue' last' (i + 1)
      removing_next x degree' queue' last' w f p g =
          removing_step degree' queue' last' (subst (λ z. degree' ≡ set degree z (get_or degree z 0 - 1)) w f)
          (subst (λ z. Pushed (eqb (get_or degree z 0 - 1) 0) z queue last queue' last') w p) g
