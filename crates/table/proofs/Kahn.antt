-- Kahn's algorithm over the pairs of any theory: its steps keep what specs/Release.antt says, and what is left at the end is a
-- cycle. Assumes nothing.
use Prim.Native.Nat.{ℕ, zero, suc, ◌+◌, ◌-◌, ◌≤◌, ◌<◌}
use native.Mathlib.Nat.{not-suc-le-zero}
use native.Mathlib.Omega.{arith}
use mathlib.Core.Path.{◌≡◌, refl, sym, ◌∙◌, ap, subst}
use mathlib.Core.Logic.{◌⊎◌, inl, inr, ⊎_elim}
use mathlib.Core.Bool.{Bool, cond}
use mathlib.Core.List.{List, [], ◌∷◌, ◌++◌}
use lib.Dec.{T, eqb, eqb→eq, eqb_refl, ltb, ltb→lt, lt→ltb}
use lib.ListN.{length, get_or, set, length-append}
use lib.Seq.{get_or-set_same, get_or-set_other}
use Rattle.logic.specs.Tests.{◌and◌, isnt, some, member, distinct, total, weigh, count_below}
use Rattle.logic.specs.Theory.{Theory, superior}
use Rattle.logic.specs.Cycle.{Leads, Cycle, cyclic}
use Rattle.logic.proofs.Tests.{test_cases, test_eq, cond_cases, cond_true, at_most, eq→eqb, and_intro, and_left, and_right, isnt_intro, isnt_elim, lt_suc_cases, some_intro, some_elim}
use Rattle.logic.proofs.Lists.{member_nil, member_left, member_last, member_snoc, distinct_snoc}
use Rattle.logic.proofs.Sums.{total_ext, total_zero, total_const, total_point, weigh_true, weigh_false}
use Rattle.logic.proofs.Pigeon.{distinct_count, pigeon}
use Rattle.logic.proofs.Cycle.{cycle_next, set_has_cycle, cycle_flip, cyclic_sound, cyclic_complete}
use Rattle.table.specs.Pairs.{PairsInOrder}
use Rattle.table.specs.Release.{waits, removed_by, Zeros, inferior, Queued}

-- a count of 0 passes nowhere, and another one somewhere
pub count_none : (n : ℕ) (p : ℕ → Bool) → count_below n p ≡ 0 → (k : ℕ) → k < n → T (p k) → ⊥
unfolding total
count_none zero p e k h t = absurd (not-suc-le-zero h)
count_none (suc n) p e k h t =
    let front : count_below n p ≡ 0 = omega arith in
    let back : weigh (p n) 1 ≡ 0 = omega arith in
    ⊎_elim (λ l. count_none n p front k l t) (λ i. omega (arith, weigh_true (p n) 1 (subst (λ j. T (p j)) i t))) (lt_suc_cases k n h)

pub count_some : (n : ℕ) (p : ℕ → Bool) → (count_below n p ≡ 0 → ⊥) → (k : ℕ) × (k < n) × T (p k)
count_some n p f =
    ⊎_elim (some_elim n p)
    (λ none. absurd (f (total_zero n _ (λ k h. weigh_false (p k) 1 (λ t. none (some_intro n p k h t)))))) (test_cases (some n p))

-- a distinct list of fewer than n numbers lacks one
missing : (n : ℕ) (l : List ℕ) → T (distinct l) → ((x : ℕ) → T (member x l) → x < n) → length l < n → (x : ℕ) × (x < n) × (T (member x l) → ⊥)
missing n l u b h =
    ⊎_elim (λ t. let (x, k, m) = some_elim n _ t in (x, k, isnt_elim _ m))
    (λ all. absurd (omega (
      arith,
      distinct_count n l u b,
      total_ext n (λ k. weigh (member k l) 1) (λ _. 1) (λ k g. weigh_true _ 1 (full all k g)),
      total_const n 1,
    ))) (test_cases (some n (λ x. isnt (member x l))))
  where
    full : (T (some n (λ x. isnt (member x l))) → ⊥) → (k : ℕ) → k < n → T (member k l)
    full all k g = ⊎_elim (λ m. m) (λ out. absurd (all (some_intro n _ k g (isnt_intro _ out)))) (test_cases (member k l))

-- and one that lacks a number below n is of fewer than n
lacking : (n : ℕ) (l : List ℕ) → T (distinct l) → ((x : ℕ) → T (member x l) → x < n) → (x : ℕ) → x < n → (T (member x l) → ⊥) → length l < n
lacking n l u b x h out =
    omega (
      arith,
      pigeon n (l ++ (x ∷ [])) (distinct_snoc l x u out) (λ y m. ⊎_elim (b y) (λ e. subst (λ z. z < n) (sym e) h) (member_snoc l x y m)),
      length-append l (x ∷ []),
    )

-- a list with one more at its end if a test says so
abbrev pub pushed : Bool → List ℕ → ℕ → List ℕ
pushed t q w = cond t (q ++ (w ∷ [])) q

pub pushed_in : (t : Bool) (q : List ℕ) (w x : ℕ) → T (member x q) → T (member x (pushed t q w))
pushed_in t q w x m = cond_cases (λ l. T (member x l)) t _ _ (λ _. member_left x q _ m) (λ _. m)

pub pushed_last : (t : Bool) (q : List ℕ) (w : ℕ) → T t → T (member w (pushed t q w))
pushed_last t q w u = subst (λ l. T (member w l)) (sym (cond_true t _ _ u)) (member_last q w)

pub pushed_of : (t : Bool) (q : List ℕ) (w x : ℕ) → T (member x (pushed t q w)) → T (member x q) ⊎ (T t × (x ≡ w))
pushed_of t q w x = cond_cases (λ l. T (member x l) → T (member x q) ⊎ (T t × (x ≡ w))) t _ _
    (λ u m. ⊎_elim (λ v. inl v) (λ e. inr (u, e)) (member_snoc q w x m)) (λ _ m. inl m)

pub pushed_once : (t : Bool) (q : List ℕ) (w : ℕ) → T (distinct q) → (T (member w q) → ⊥) → T (distinct (pushed t q w))
pushed_once t q w u out = cond_cases (λ l. T (distinct l)) t _ _ (λ _. distinct_snoc q w u out) (λ _. u)

-- the pairs of a rule, in the theory's terms
superior_pair : (d : Theory) (i : ℕ) → i < d.pairs → T (superior d (d.pair i).stronger (d.pair i).weaker)
unfolding superior
superior_pair d i h = some_intro _ _ i h (and_intro _ _ (eqb_refl (d.pair i).stronger) (eqb_refl (d.pair i).weaker))

superior_of : (d : Theory) (t s : ℕ) → T (superior d t s) → (i : ℕ) × (i < d.pairs) × ((d.pair i).stronger ≡ t) × ((d.pair i).weaker ≡ s)
unfolding superior
superior_of d t s u =
    let (i, h, v) = some_elim _ _ u in (i, h, eqb→eq _ _ (and_left _ _ v), eqb→eq _ _ (and_right _ _ v))

-- a rule all of whose stronger rules are on no cycle is on none
clean_next : (d : Theory) (w : ℕ) → ((i : ℕ) → i < d.pairs → (d.pair i).weaker ≡ w → Leads (inferior d) (d.pair i).stronger (d.pair i).stronger → ⊥)
    → Leads (inferior d) w w → ⊥
clean_next d w f l =
    let (t, p, m) = cycle_next (inferior d) w l in
    let (i, h, e, g) = superior_of d t w p in
    f i h g (subst (λ z. Leads (inferior d) z z) (sym e) m)

-- only which of the pairs are removed matters
pub told_ext : (d : Theory) (removed told' : ℕ → Bool) (degree q : List ℕ) → ((i : ℕ) → i < d.pairs → removed i ≡ told' i)
    → Queued d removed degree q → Queued d told' degree q
told_ext d removed told' degree q e k =
    record {
      zeros = k.zeros;
      counts = λ w h. k.counts w h ∙ total_ext _ _ _ (λ i l. ap (λ t. weigh (eqb (d.pair i).weaker w and isnt t) 1) (e i l));
      queued = λ i h t. k.queued i h (subst T (sym (e i h)) t);
      clean = k.clean;
    }

-- the start: nothing is removed, and the queue holds the rules that no pair names as the weaker
pub queued_start : (d : Theory) → PairsInOrder d → (degree q : List ℕ) → Zeros d.rules degree q
    → ((w : ℕ) → w < d.rules → get_or degree w 0 ≡ count_below d.pairs (λ i. eqb (d.pair i).weaker w)) → Queued d (removed_by d []) degree q
queued_start d o degree q z e =
    record {
      zeros = z;
      counts =
          λ w h. e w h
          ∙ total_ext _ _ _ (λ i l. ap (λ t. weigh t 1) (test_eq _ _ (λ t. and_intro _ _ t (isnt_intro _ (member_nil _))) (λ t. and_left _ _ t)));
      queued = λ i h t. absurd (member_nil _ t);
      clean =
          λ w m. clean_next d w (λ i h g _. count_none _ _ (sym (e w (z.below w m)) ∙ z.none w m) i h (eq→eqb _ _ g));
    }

-- One step: a pair is removed whose stronger rule is in the queue, so its weaker rule waits for one less, and is put into the queue
-- if it waits for none.
module _ (d : Theory) (o : PairsInOrder d) (removed : ℕ → Bool) (degree q : List ℕ) (k : Queued d removed degree q) (i : ℕ) (h : i < d.pairs)
    (new : T (removed i) → ⊥) (m : T (member (d.pair i).stronger q)) where
  pub step_waits : 1 ≤ get_or degree (d.pair i).weaker 0
  step_waits =
      ⊎_elim (λ l. l)
      (λ l. let e : get_or degree (d.pair i).weaker 0 ≡ 0 = omega arith in
      absurd (count_none _ _ (sym (k.counts _ (o.weak i h)) ∙ e) i h (and_intro _ _ (eqb_refl (d.pair i).weaker) (isnt_intro _ new))))
      (at_most 1 (get_or degree (d.pair i).weaker 0))

  step_out : T (member (d.pair i).weaker q) → ⊥
  step_out u = omega (arith, k.zeros.none _ u, step_waits)

  pub step_room : length q < d.rules
  step_room = lacking d.rules q k.zeros.once k.zeros.below (d.pair i).weaker (o.weak i h) step_out

  module _ (told' : ℕ → Bool) (now : T (told' i)) (other : (j : ℕ) → j < d.pairs → (j ≡ i → ⊥) → told' j ≡ removed j)
      (fits : (d.pair i).weaker < length degree) (left : ℕ) (e : left ≡ get_or degree (d.pair i).weaker 0 - 1) where
    at_weaker : get_or (set degree (d.pair i).weaker left) (d.pair i).weaker 0 ≡ left
    at_weaker = get_or-set_same degree (d.pair i).weaker left 0 fits

    at_other : (w : ℕ) → (w ≡ (d.pair i).weaker → ⊥) → get_or (set degree (d.pair i).weaker left) w 0 ≡ get_or degree w 0
    at_other w ne = get_or-set_other degree (d.pair i).weaker w left 0 ne

    counts_same : (w : ℕ) → w ≡ (d.pair i).weaker → waits d removed w ≡ waits d told' w + 1
    counts_same w g =
        total_point _ _ _ i 1 h
        (omega (
          arith,
          weigh_true (eqb (d.pair i).weaker w and isnt (removed i)) 1 (and_intro _ _ (eq→eqb _ _ (sym g)) (isnt_intro _ new)),
          weigh_false (eqb (d.pair i).weaker w and isnt (told' i)) 1 (λ t. isnt_elim _ (and_right _ _ t) now),
        ))
        (λ j l ne. ap (λ t. weigh (eqb (d.pair j).weaker w and isnt t) 1) (sym (other j l ne)))

    counts_other : (w : ℕ) → (w ≡ (d.pair i).weaker → ⊥) → waits d removed w ≡ waits d told' w
    counts_other w ne =
        total_ext _ _ _ (λ j l. ⊎_elim
        (λ t. let g = eqb→eq j i t in
        weigh_false _ 1 (λ u. ne (sym (eqb→eq _ _ (and_left _ _ u)) ∙ ap (λ z. (d.pair z).weaker) g))
        ∙ sym (weigh_false _ 1 (λ u. ne (sym (eqb→eq _ _ (and_left _ _ u)) ∙ ap (λ z. (d.pair z).weaker) g))))
        (λ n. ap (λ t. weigh (eqb (d.pair j).weaker w and isnt t) 1) (sym (other j l (λ g. n (eq→eqb j i g))))) (test_cases (eqb j i)))

    counts_next : (w : ℕ) → w < d.rules → get_or (set degree (d.pair i).weaker left) w 0 ≡ waits d told' w
    counts_next w b =
        ⊎_elim
        (λ t. let g : w ≡ (d.pair i).weaker = eqb→eq _ _ t in
        subst (λ z. get_or (set degree (d.pair i).weaker left) z 0 ≡ waits d told' z) (sym g)
        (omega (arith, at_weaker, e, k.counts (d.pair i).weaker (o.weak i h), counts_same (d.pair i).weaker refl)))
        (λ n. let ne : (w ≡ (d.pair i).weaker) → ⊥ = λ g. n (eq→eqb _ _ g) in at_other w ne ∙ k.counts w b ∙ counts_other w ne)
        (test_cases (eqb w (d.pair i).weaker))

    -- every pair that is removed now has its stronger rule in the queue as it was
    told_in : (j : ℕ) → j < d.pairs → T (told' j) → T (member (d.pair j).stronger q)
    told_in j l t =
        ⊎_elim (λ u. subst (λ z. T (member (d.pair z).stronger q)) (sym (eqb→eq j i u)) m)
        (λ n. k.queued j l (subst T (other j l (λ g. n (eq→eqb j i g))) t)) (test_cases (eqb j i))

    none_next : (w : ℕ) → T (member w (pushed (eqb left 0) q (d.pair i).weaker)) → get_or (set degree (d.pair i).weaker left) w 0 ≡ 0
    none_next w u =
        ⊎_elim (λ v. at_other w (λ g. step_out (subst (λ z. T (member z q)) g v)) ∙ k.zeros.none w v)
        (λ v. ap (λ z. get_or (set degree (d.pair i).weaker left) z 0) v.1 ∙ at_weaker ∙ eqb→eq left 0 v.0)
        (pushed_of (eqb left 0) q (d.pair i).weaker w u)

    below_next : (w : ℕ) → T (member w (pushed (eqb left 0) q (d.pair i).weaker)) → w < d.rules
    below_next w u = ⊎_elim (k.zeros.below w) (λ v. subst (λ z. z < d.rules) (sym v.1) (o.weak i h)) (pushed_of (eqb left 0) q (d.pair i).weaker w u)

    whole_next : (w : ℕ) → w < d.rules → get_or (set degree (d.pair i).weaker left) w 0 ≡ 0
        → T (member w (pushed (eqb left 0) q (d.pair i).weaker))
    whole_next w b g =
        ⊎_elim
        (λ t. let f : w ≡ (d.pair i).weaker = eqb→eq _ _ t in
        subst (λ z. T (member z (pushed (eqb left 0) q (d.pair i).weaker))) (sym f) (pushed_last (eqb left 0) q _ (eq→eqb left 0
        (sym at_weaker ∙ subst (λ z. get_or (set degree (d.pair i).weaker left) z 0 ≡ 0) f g))))
        (λ n. pushed_in (eqb left 0) q (d.pair i).weaker w (k.zeros.whole w b (sym (at_other w (λ f. n (eq→eqb _ _ f))) ∙ g)))
        (test_cases (eqb w (d.pair i).weaker))

    -- the pair's weaker rule, where it waits for nothing now
    clean_pushed : T (eqb left 0) → Leads (inferior d) (d.pair i).weaker (d.pair i).weaker → ⊥
    clean_pushed t =
        clean_next d (d.pair i).weaker (λ j l g. ⊎_elim (λ u. k.clean _ (told_in j l u))
        (λ n. absurd (count_none _ _ (sym (counts_next _ (o.weak i h)) ∙ at_weaker ∙ eqb→eq left 0 t) j l
        (and_intro _ _ (eq→eqb _ _ g) (isnt_intro _ n)))) (test_cases (told' j)))

    pub step : Queued d told' (set degree (d.pair i).weaker left) (pushed (eqb left 0) q (d.pair i).weaker)
    step =
        record {
          zeros =
              record {
                once = pushed_once (eqb left 0) q (d.pair i).weaker k.zeros.once step_out;
                below = below_next;
                none = none_next;
                whole = whole_next;
              };
          counts = counts_next;
          queued = λ j l t. pushed_in (eqb left 0) q (d.pair i).weaker _ (told_in j l t);
          clean =
              λ w u. ⊎_elim (k.clean w)
              (λ v. subst (λ z. Leads (inferior d) z z → ⊥) (sym v.1) (clean_pushed v.0)) (pushed_of (eqb left 0) q (d.pair i).weaker w u);
        }

-- The end: the rules of the queue were all taken up. Where they are fewer than the rules, the others have a cycle.
module _ (d : Theory) (o : PairsInOrder d) (degree q : List ℕ) (k : Queued d (removed_by d q) degree q) where
  -- a rule that is not in the queue
  abbrev left_out : ℕ → Bool
  left_out w = ltb w d.rules and isnt (member w q)

  left_next : (w : ℕ) → T (left_out w) → (t : ℕ) × T (inferior d w t) × T (left_out t)
  left_next w u =
      let b = ltb→lt w d.rules (and_left _ _ u) in
      let (i, h, v) = count_some _ _ (λ z. isnt_elim _ (and_right _ _ u) (k.zeros.whole w b (k.counts w b ∙ z))) in (
        (d.pair i).stronger,
        subst (λ z. T (superior d (d.pair i).stronger z)) (eqb→eq _ _ (and_left _ _ v)) (superior_pair d i h),
        and_intro _ _ (lt→ltb _ _ (o.strong i h)) (and_right _ _ v),
      )

  few_cycle : length q < d.rules → Cycle (superior d)
  few_cycle h =
      let (w, b, out) = missing d.rules q k.zeros.once k.zeros.below h in
      cycle_flip (superior d) (set_has_cycle (inferior d) left_out d.rules (λ r u. ltb→lt r d.rules (and_left _ _ u)) left_next w
      (and_intro _ _ (lt→ltb w d.rules b) (isnt_intro _ out)))

  cycle_few : Cycle (superior d) → length q < d.rules
  cycle_few c =
      let (w, l) = cycle_flip (inferior d) c in
      let (t, p, _) = cycle_next (inferior d) w l in
      let (i, h, _, g) = superior_of d t w p in
      lacking d.rules q k.zeros.once k.zeros.below w (subst (λ z. z < d.rules) g (o.weak i h)) (λ m. k.clean w m l)

  pub queued_end : ltb (length q) d.rules ≡ cyclic (superior d) d.rules
  queued_end =
      test_eq _ _
      (λ t. cyclic_complete (superior d) d.rules
      (λ r s u. let (i, h, e, _) = superior_of d r s u in subst (λ z. z < d.rules) e (o.strong i h)) (few_cycle (ltb→lt _ _ t)))
      (λ t. lt→ltb _ _ (cycle_few (cyclic_sound (superior d) d.rules t)))
