-- A visit's memory after each of its steps. Assumes nothing.
use Prim.Native.Nat.{ℕ, ◌+◌, ◌-◌, ◌*◌, ◌≤◌, ◌<◌}
use native.Mathlib.Omega.{arith}
use mathlib.Core.Path.{◌≡◌, refl, sym, ◌∙◌, ap, ap₂, subst, fun_ext}
use mathlib.Core.Logic.{inr, ⊎_elim}
use mathlib.Core.Bool.{Bool, true, false, cond}
use mathlib.Core.List.{List, map}
use lib.Dec.{T, ltb, eqb, eqb→eq, eqb_refl, ltb→lt, lt→ltb}
use lib.ListN.{length, set, length-set}
use Rattle.logic.specs.Tests.{◌and◌, ◌or◌, weigh, upto}
use Rattle.logic.specs.Theory.{Theory, Kind, is_strict, can_support, kind_of, head_of}
use Rattle.logic.proofs.Tests.{and_intro, and_left, and_right, at_most, cond_cases, cond_false, cond_true, eq→eqb, false_of, isnt_elim, isnt_intro, lt_suc_cases, none_above, of_false, of_true, or_elim, or_left, test_cases, test_eq, true_of}
use Rattle.logic.proofs.Sums.{weigh_false, weigh_true}
use Rattle.logic.proofs.Pigeon.{count_le}
use Rattle.memory.specs.Layout.{tag_count, field_count, field_size, uses_size, memory_size}
use Rattle.memory.specs.Fields.{has, size_f, head_f, kind_f, naming_f, rivals_f, first_f, beaten_f, lost_f, uses_f, strict_f, support_f, headed_f, fact_f, proved_f, firing_f, countered_f, rivals_end, counts_end, rivals_base, rivals_by, rules_by, by_rival, by_itself, in_index}
use Rattle.memory.specs.Memory.{view, use_at, users, Indexed, NeverBothAt, Invariant}
use Rattle.memory.specs.Api.{Kept, Lacks, Visited}
use Rattle.memory.specs.Visits.{WellFormed, Grown, Raised, threshold, just_reached, reached, allowed, decided_for, notifies, notified_below, is_free, just_reached_by_rival, CountedBy, Open, Unchanged, Decided, CountedAtHead, Notified}
use Rattle.memory.proofs.Views.{below_index, kept_then, past_rule, rest_set, use_set, view_set, view_set_field, view_set_index}
use Rattle.memory.proofs.visit.Counts.{Turns, counted_of, counts_ext, counts_literal, counts_of, decided_literal, decided_marks, decided_tag, grown_other, reached_same, reached_step, turns_and, turns_no, turns_of, turns_or, turns_yes}
use Rattle.memory.proofs.index.Kinds.{strict_number, support_number}

-- the index depends on its own fields alone
uses_same : (d : Theory) (q : ℕ) (z z' u u' : ℕ → ℕ) → z' ≡ z → u' ≡ u
    → map (λ k. u (cond (eqb q 0) 0 (z (q - 1)) + k)) (upto (z q - cond (eqb q 0) 0 (z (q - 1)))) ≡ users d q
    → map (λ k. u' (cond (eqb q 0) 0 (z' (q - 1)) + k)) (upto (z' q - cond (eqb q 0) 0 (z' (q - 1)))) ≡ users d q
uses_same d q z z' u u' e g x = coe 1 0 (i. map (λ k. g i (cond (eqb q 0) 0 (e i (q - 1)) + k)) (upto (e i q - cond (eqb q 0) 0 (e i (q - 1)))) ≡ users d q) x

index_same : (d : Theory) (w v : ℕ → ℕ → ℕ) (u u' : ℕ → ℕ) → ((f i : ℕ) → T (in_index f) → v f i ≡ w f i) → ((k : ℕ) → u' k ≡ u k) → Indexed d w u → Indexed d v u'
unfolding in_index ◌and◌ ◌or◌
index_same d w v u u' e g x =
    record {
      sizes = λ r h. e size_f r tt ∙ x.sizes r h;
      heads = λ r h. e head_f r tt ∙ x.heads r h;
      kinds = λ r h. e kind_f r tt ∙ x.kinds r h;
      namings = λ r h. e naming_f r tt ∙ x.namings r h;
      rivals = λ r h. e rivals_f r tt ∙ x.rivals r h;
      firsts = λ i h. subst (λ z. (z ≤ i) × ((d.pair z).stronger ≡ (d.pair i).stronger)) (sym (e first_f (d.pair i).stronger tt)) (x.firsts i h);
      uses = λ q h. uses_same d q (w uses_f) (v uses_f) u u' (fun_ext (λ i. e uses_f i tt)) (fun_ext g) (x.uses q h);
      within = λ q h. subst (λ z. (cond (eqb q 0) 0 (z (q - 1)) ≤ z q) × (z q ≤ uses_size)) (sym (fun_ext (λ i. e uses_f i tt))) (x.within q h);
      stricts = λ q h. e strict_f q tt ∙ x.stricts q h;
      supports = λ q h. e support_f q tt ∙ x.supports q h;
      headed = λ q h. e headed_f q tt ∙ x.headed q h;
      facts = λ q h. e fact_f q tt ∙ x.facts q h;
    }

raised_index : (d : Theory) (m n : List ℕ) (f i k : ℕ) → (T (in_index f) → ⊥) → Raised f i k m n → Indexed d (view m) (use_at m) → Indexed d (view n) (use_at n)
raised_index d m n f i k o g x = index_same d (view m) (view n) (use_at m) (use_at n) (λ h j t. g.words.field h j (λ e. o (subst (λ z. T (in_index z)) e t))) g.uses x

raised_room : (m n : List ℕ) (f i k : ℕ) → Raised f i k m n → memory_size ≤ length m → memory_size ≤ length n
raised_room m n f i k g h = omega (arith, g.kept.size)

-- a claim about the two defeasible tags
pub tag_cases : (P : ℕ → Type 0) → P 2 → P 3 → (t : ℕ) → 2 ≤ t → t < tag_count → P t
tag_cases P a b t lo hi = ⊎_elim (λ h. subst P (omega arith) a) (λ e. subst P (sym e) b) (lt_suc_cases t 3 hi)

-- the words of a rule's antecedents are the same
never_same : (w v : ℕ → ℕ → ℕ) (r : ℕ) → v (has 2) r ≡ w (has 2) r → v (has 3) r ≡ w (has 3) r → v size_f r ≡ w size_f r → NeverBothAt w r → NeverBothAt v r
never_same w v r e f g n = omega arith

-- a word that is no part of the index grows
open_grown : (d : Theory) (m n : List ℕ) (p b p' b' : ℕ → ℕ → Bool) (f i k : ℕ) → (T (in_index f) → ⊥) → Raised f i k m n → Open d m p b
    → ((r : ℕ) → r < d.rules → NeverBothAt (view n) r) → CountedBy d (view n) p' b' → Open d n p' b'
open_grown d m n p b p' b' f i k a g o e t =
    record { room = raised_room m n f i k g o.room; index = raised_index d m n f i k a g o.index; counts = t; never = e }

-- one of the counts
pub open_raised : (d : Theory) (m n : List ℕ) (p b p' b' : ℕ → ℕ → Bool) (f i k : ℕ) → beaten_f ≤ f → (T (in_index f) → ⊥) → Raised f i k m n → Open d m p b
    → CountedBy d (view n) p' b' → Open d n p' b'
open_raised d m n p b p' b' f i k l a g o t =
    open_grown d m n p b p' b' f i k a g o
    (λ r h. never_same (view m) (view n) r (g.words.field (has 2) r (λ e. omega arith)) (g.words.field (has 3) r (λ e. omega arith)) (g.words.field size_f r (λ e. omega arith)) (o.never r h)) t

-- one antecedent more has a tag
lacks_never : (w v : ℕ → ℕ → ℕ) (t r : ℕ) → t < tag_count → Lacks w t r → Grown (has t) r 1 w v → (x : ℕ) → NeverBothAt w x → NeverBothAt v x
lacks_never w v t r h l g x n =
    ⊎_elim (λ e. subst (NeverBothAt v) (sym (eqb→eq x r e)) (⊎_elim (λ lo. tag_cases (λ u. Grown (has u) r 1 w v → Lacks w u r → NeverBothAt v r) two three t lo h g l) (definite (subst (NeverBothAt w) (eqb→eq x r e) n)) (at_most 2 t)))
    (λ o. let i : x ≡ r → ⊥ = λ e. o (eq→eqb x r e) in never_same w v x (g.index (has 2) x i) (g.index (has 3) x i) (g.index size_f x i) n) (test_cases (eqb x r))
  where
    two : Grown (has 2) r 1 w v → Lacks w 2 r → NeverBothAt v r
    two g l = let a : w (has 2) r + w (has 3) r < w size_f r = l in omega (arith, g.here, g.field (has 3) r (λ e. omega arith), g.field size_f r (λ e. omega arith))

    three : Grown (has 3) r 1 w v → Lacks w 3 r → NeverBothAt v r
    three g l = let a : w (has 3) r + w (has 2) r < w size_f r = l in omega (arith, g.here, g.field (has 2) r (λ e. omega arith), g.field size_f r (λ e. omega arith))

    definite : NeverBothAt w r → t < 2 → NeverBothAt v r
    definite y k = never_same w v r (g.field (has 2) r (λ e. omega arith)) (g.field (has 3) r (λ e. omega arith)) (g.field size_f r (λ e. omega arith)) y

-- the counts of a word for a tag of a rule lag behind it
pub open_tag : (d : Theory) (m n : List ℕ) (p b : ℕ → ℕ → Bool) (t r : ℕ) → t < tag_count → Lacks (view m) t r → Raised (has t) r 1 m n → Open d m p b → Open d n p b
open_tag d m n p b t r h l g o =
    open_grown d m n p b p b (has t) r 1 (below_index (has t) (omega arith)) g o (λ x k. lacks_never (view m) (view n) t r h l g.words x (o.never x k))
    (counts_ext d (view m) (view n) p p b b (λ f i lo _. g.words.field f i (λ e. omega arith)) (λ _ _ _ _ _. refl) (λ _ _ _ _ _ _. refl) o.counts)

pub open_literal : (d : Theory) (m n : List ℕ) (p b p' : ℕ → ℕ → Bool) (f r k : ℕ) → proved_f ≤ f → f < counts_end → r < d.rules → Raised f (head_of d r) k m n
    → ((g x : ℕ) → proved_f ≤ g → g < counts_end → x < d.rules → (g ≡ f → x ≡ r → ⊥) → p' g x ≡ p g x)
    → weigh (allowed f (kind_of d r) and p' f r) 1 ≡ weigh (allowed f (kind_of d r) and p f r) 1 + k → Open d m p b → Open d n p' b
open_literal d m n p b p' f r k lo hi h g other e o =
    open_raised d m n p b p' b f (head_of d r) k (omega arith) (past_rule f (omega arith) (inr lo)) g o (counts_literal d (view m) (view n) p b o.counts p' f r k lo hi h g.words other e)

pub open_ext : (d : Theory) (m : List ℕ) (p p' b b' : ℕ → ℕ → Bool) → ((f r : ℕ) → proved_f ≤ f → f < counts_end → r < d.rules → p' f r ≡ p f r)
    → ((g i : ℕ) → beaten_f ≤ g → g < rivals_end → i < d.pairs → T (can_support (kind_of d (d.pair i).stronger)) → b' g i ≡ b g i) → Open d m p b → Open d m p' b'
open_ext d m p p' b b' f g o =
    record { room = o.room; index = o.index; counts = counts_ext d (view m) (view m) p p' b b' (λ _ _ _ _. refl) f g o.counts; never = o.never }

-- between two visits
pub open_of : (d : Theory) (m : List ℕ) → Invariant d m → Open d m (decided_for (view m)) (notifies d (view m))
unfolding reached
open_of d m s = record { room = s.room; index = s.index; counts = counts_of d (view m) (notifies d (view m)) s.counts; never = s.never }

pub invariant_of : (d : Theory) (m : List ℕ) → Open d m (decided_for (view m)) (notifies d (view m)) → Invariant d m
unfolding reached
invariant_of d m o = record { room = o.room; index = o.index; counts = counted_of d (view m) (notifies d (view m)) o.counts; never = o.never }

pub raised_unchanged : {f i k : ℕ} {m n : List ℕ} → beaten_f ≤ f → Raised f i k m n → Unchanged m n
raised_unchanged h g = record { low = λ f i l. g.words.field f i (λ e. omega arith); kept = g.kept }

pub unchanged_trans : {m n o : List ℕ} → Unchanged m n → Unchanged n o → Unchanged m o
unchanged_trans x y = record { low = λ f i h. y.low f i h ∙ x.low f i h; kept = kept_then x.kept y.kept }

-- what a visit leaves, of the memory after its first step, from which the fields below the counts stay
pub visited_of : (d : Theory) (m m' n : List ℕ) (t r : ℕ) → t < tag_count → Raised (has t) r 1 m m' → Unchanged m' n → Invariant d n → Visited d t r m n
visited_of d m m' n t r h g y s =
    record {
      invariant = s;
      more = y.low (has t) r (omega arith) ∙ g.words.here;
      others = λ u i l o. y.low (has u) i (omega arith) ∙ grown_other g.words (has u) i (λ e. o (omega arith));
      marks = λ u i l. y.low u i (omega arith) ∙ g.words.field u i (λ e. omega arith);
      sizes = λ i. y.low size_f i (omega arith) ∙ g.words.field size_f i (λ e. omega arith);
      kept = kept_then g.kept y.kept;
    }

-- a memory whose marks alone are others
pub invariant_marks : (d : Theory) (m n : List ℕ) → ((f i : ℕ) → has 0 ≤ f → view n f i ≡ view m f i) → ((k : ℕ) → use_at n k ≡ use_at m k) → Kept m n → Invariant d m → Invariant d n
invariant_marks d m n e u k s =
    invariant_of d n
    (record {
      room = omega (arith, s.room, k.size);
      index = index_same d (view m) (view n) (use_at m) (use_at n) (λ f i t. e f i (⊎_elim (λ h. h) (λ h. absurd (below_index f (omega arith) t)) (at_most (has 0) f))) u s.index;
      counts = counts_ext d (view m) (view n) (decided_for (view m)) (decided_for (view n)) (notifies d (view m)) (notifies d (view n)) (λ f i lo _. e f i (omega arith))
          (λ f x lo hi _. decided_marks (view m) (view n) e f x lo hi)
          (λ g i lo hi _ _. reached_same (view m) (view n) (g - rivals_base) (d.pair i).stronger (e (has (g - rivals_base)) (d.pair i).stronger (omega arith)) (e size_f (d.pair i).stronger (omega arith))) (open_of d m s).counts;
      never = λ r h. never_same (view m) (view n) r (e (has 2) r (omega arith)) (e (has 3) r (omega arith)) (e size_f r (omega arith)) (s.never r h);
    })

-- what the counts of a rule's own tag are about
allowed_strict : (f : ℕ) (k : Kind) → f < firing_f → allowed f k ≡ is_strict k
unfolding allowed
allowed_strict f k h = cond_true (ltb f firing_f) _ _ (lt→ltb f firing_f h)

allowed_support : (f : ℕ) (k : Kind) → firing_f ≤ f → f < countered_f → allowed f k ≡ can_support k
unfolding allowed
allowed_support f k l h = cond_false (ltb f firing_f) _ _ (λ t. let c : f < firing_f = ltb→lt f firing_f t in omega arith) ∙ cond_true (ltb f countered_f) _ _ (lt→ltb f countered_f h)

decided_own : (w : ℕ → ℕ → ℕ) (t r : ℕ) → t < tag_count → decided_for w (rules_by t) r ≡ reached w t r
unfolding decided_for
decided_own w t r h = cond_true (ltb (rules_by t) countered_f) _ _ (lt→ltb (rules_by t) countered_f (omega arith)) ∙ ap (λ z. reached w z r) (let e : rules_by t - proved_f ≡ t = omega arith in e)

-- and how the count of the rules of that kind grows with it
own_turns : (w v : ℕ → ℕ → ℕ) (t r f : ℕ) (k : Kind) (l : Bool) → t < tag_count → f ≡ rules_by t → allowed f k ≡ l → Grown (has t) r 1 w v → w (has t) r < w size_f r
    → Turns (allowed f k and decided_for v f r) (allowed f k and decided_for w f r) (eqb (v (has t) r) (threshold t (w size_f r)) and l)
own_turns w v t r f k l h i a g b =
    ap₂ (λ z x. weigh (z and x) 1) a (at v) ∙ turns_of l _ _ _ (reached_step w v t r h g b)
    ∙ sym (ap₂ (λ z x. weigh (z and x) 1 + weigh (eqb (v (has t) r) (threshold t (w size_f r)) and l) 1) a (at w))
  where
    at : (u : ℕ → ℕ → ℕ) → decided_for u f r ≡ reached u t r
    at u = ap (λ z. decided_for u z r) i ∙ decided_own u t r h

-- of the words below the counts of rivals, only that of r and t differs
reached_elsewhere : (d : Theory) (m m' n : List ℕ) (t r u x : ℕ) → t < tag_count → u < tag_count → Raised (has t) r 1 m m' → Unchanged m' n → (u ≡ t → x ≡ r → ⊥)
    → reached (view n) u x ≡ reached (view m) u x
reached_elsewhere d m m' n t r u x h k g y o =
    reached_same (view m) (view n) u x (y.low (has u) x (omega arith) ∙ grown_other g.words (has u) x (λ e. o (omega arith))) (y.low size_f x (omega arith) ∙ g.words.field size_f x (λ e. omega arith))

-- a visit with a definite tag
pub visit_definite : (d : Theory) (m m' n : List ℕ) (t r : ℕ) → t < 2 → r < d.rules → Invariant d m → Lacks (view m) t r → Raised (has t) r 1 m m'
    → Raised (rules_by t) (head_of d r) (weigh (eqb (view m' (has t) r) (threshold t (view m size_f r)) and is_strict (kind_of d r)) 1) m' n → Visited d t r m n
visit_definite d m m' n t r h k s b g g' =
    visited_of d m m' n t r (omega arith) g (raised_unchanged (omega arith) g')
    (invariant_of d n
    (open_ext d n (decided_for (view m')) (decided_for (view n)) (notifies d (view m)) (notifies d (view n))
    (λ f x lo hi _. decided_literal (view m') (view n) (rules_by t) (head_of d r) _ (omega arith) g'.words f x lo hi)
    (λ f i lo hi _ _. reached_elsewhere d m m' n t r (f - rivals_base) (d.pair i).stronger (omega arith) (omega arith) g (raised_unchanged (omega arith) g') (λ e _. omega arith))
    (open_literal d m' n (decided_for (view m)) (notifies d (view m)) (decided_for (view m')) (rules_by t) r _ (omega arith) (omega arith) k g'
    (λ f x lo hi _ o. decided_tag (view m) (view m') t r (omega arith) g.words f x lo hi (λ i. ⊎_elim (λ e. o e i) (λ e. omega arith)))
    (own_turns (view m) (view m') t r (rules_by t) (kind_of d r) (is_strict (kind_of d r)) (omega arith) refl (allowed_strict (rules_by t) (kind_of d r) (omega arith)) g.words (omega arith))
    (open_tag d m m' (decided_for (view m)) (notifies d (view m)) t r (omega arith) b g (open_of d m s)))))

-- how rule r itself becomes unopposed (t = 2) or countered (t = 3)
FreeTurns : ℕ → Type 0
FreeTurns t = (w v : ℕ → ℕ → ℕ) (r : ℕ) (k : Kind) → Grown (has t) r 1 w v → w (has t) r < w size_f r
    → Turns (allowed (by_itself t) k and decided_for v (by_itself t) r) (allowed (by_itself t) k and decided_for w (by_itself t) r) (eqb (v (has t) r) (threshold t (w size_f r)) and is_free v t r)

free_unopposed : FreeTurns 2
unfolding FreeTurns decided_for allowed is_free ◌and◌
free_unopposed w v r k g b =
    turns_and (eqb (v lost_f r) (v rivals_f r)) (reached v 2 r) (reached w 2 r) _ (reached_step w v 2 r (omega arith) g b)
    ∙ ap₂ (λ x y. weigh (reached w 2 r and eqb x y) 1 + weigh (eqb (v (has 2) r) (threshold 2 (w size_f r)) and eqb (v lost_f r) (v rivals_f r)) 1) (g.field lost_f r (λ e. omega arith)) (g.field rivals_f r (λ e. omega arith))

free_countered : FreeTurns 3
unfolding FreeTurns decided_for allowed is_free ◌and◌
free_countered w v r k g b =
    turns_or (ltb 0 (v beaten_f r)) (reached v 3 r) (reached w 3 r) _ (reached_step w v 3 r (omega arith) g b)
    ∙ ap₂ (λ x y. weigh (reached w 3 r or ltb 0 x) 1 + weigh (eqb (v (has 3) r) (threshold 3 (w size_f r)) and y) 1) (g.field beaten_f r (λ e. omega arith)) (none_above (v beaten_f r))

free_turns : (t : ℕ) → 2 ≤ t → t < tag_count → FreeTurns t
free_turns = tag_cases FreeTurns free_unopposed free_countered

-- A visit with a defeasible tag, up to the walk. First the rule's own word, then its two counts.
module _ (d : Theory) (m m1 m2 m3 : List ℕ) (t r : ℕ) (lo : 2 ≤ t) (hi : t < tag_count) (h : r < d.rules) (s : Invariant d m) (b : Lacks (view m) t r)
    (g : Raised (has t) r 1 m m1)
    (g1 : Raised (by_itself t) (head_of d r) (weigh (eqb (view m1 (has t) r) (threshold t (view m size_f r)) and is_free (view m1) t r) 1) m1 m2)
    (g2 : Raised (rules_by t) (head_of d r) (weigh (eqb (view m1 (has t) r) (threshold t (view m size_f r)) and can_support (kind_of d r)) 1) m2 m3) where
  short : view m (has t) r < view m size_f r
  short = omega arith

  between : ℕ → ℕ → Bool
  between f x = cond (eqb f (by_itself t)) (decided_for (view m1) f x) (decided_for (view m) f x)

  own_first : Open d m2 between (notifies d (view m))
  unfolding between FreeTurns
  own_first =
      open_literal d m1 m2 (decided_for (view m)) (notifies d (view m)) between (by_itself t) r _ (omega arith) (omega arith) h g1
      (λ f x l k _ o. cond_cases (λ z. z ≡ decided_for (view m) f x) (eqb f (by_itself t)) _ _
      (λ e. decided_tag (view m) (view m1) t r hi g.words f x l k (λ i _. o (eqb→eq _ _ e) i)) (λ _. refl))
      (ap (λ z. weigh (allowed (by_itself t) (kind_of d r) and z) 1) (cond_true (eqb (by_itself t) (by_itself t)) _ _ (eqb_refl (by_itself t)))
      ∙ free_turns t lo hi (view m) (view m1) r (kind_of d r) g.words short)
      (open_tag d m m1 (decided_for (view m)) (notifies d (view m)) t r hi b g (open_of d m s))

  own_second : Open d m3 (decided_for (view m1)) (notifies d (view m))
  unfolding between
  own_second =
      open_literal d m2 m3 between (notifies d (view m)) (decided_for (view m1)) (rules_by t) r _ (omega arith) (omega arith) h g2
      (λ f x l k _ o. cond_cases (λ z. decided_for (view m1) f x ≡ z) (eqb f (by_itself t)) _ _ (λ _. refl)
      (λ n. decided_tag (view m) (view m1) t r hi g.words f x l k (λ i. ⊎_elim (λ e. o e i) (λ e. n (eq→eqb f (by_itself t) (omega arith))))))
      (own_turns (view m) (view m1) t r (rules_by t) (kind_of d r) (can_support (kind_of d r)) hi refl (allowed_support (rules_by t) (kind_of d r) (omega arith) (omega arith)) g.words short
      ∙ ap (λ z. weigh (allowed (rules_by t) (kind_of d r) and z) 1 + weigh (eqb (view m1 (has t) r) (threshold t (view m size_f r)) and can_support (kind_of d r)) 1)
      (sym (cond_false (eqb (rules_by t) (by_itself t)) _ _ (λ e. let i : rules_by t ≡ by_itself t = eqb→eq _ _ e in omega arith))))
      own_first

  unchanged : Unchanged m1 m3
  unchanged = unchanged_trans (raised_unchanged (omega arith) g1) (raised_unchanged (omega arith) g2)

  same : (f x : ℕ) → proved_f ≤ f → f < counts_end → decided_for (view m3) f x ≡ decided_for (view m1) f x
  same f x l k =
      decided_literal (view m2) (view m3) (rules_by t) (head_of d r) _ (omega arith) g2.words f x l k
      ∙ decided_literal (view m1) (view m2) (by_itself t) (head_of d r) _ (omega arith) g1.words f x l k

  elsewhere : (f i : ℕ) → beaten_f ≤ f → f < rivals_end → (T (eqb f (rivals_by t) and eqb (d.pair i).stronger r) → ⊥) → notifies d (view m3) f i ≡ notifies d (view m) f i
  elsewhere f i l k o =
      reached_elsewhere d m m1 m3 t r (f - rivals_base) (d.pair i).stronger hi (omega arith) g unchanged
      (λ e j. o (and_intro _ _ (eq→eqb f (rivals_by t) (omega arith)) (eq→eqb _ _ j)))

  turns : Turns (reached (view m1) t r) (reached (view m) t r) (eqb (view m1 (has t) r) (threshold t (view m size_f r)))
  turns = reached_step (view m) (view m1) t r hi g.words short

  last : reached (view m3) t r ≡ reached (view m1) t r
  last = reached_same (view m1) (view m3) t r (unchanged.low (has t) r (omega arith)) (unchanged.low size_f r (omega arith))

  -- the tests at r's own pairs
  own_pair : (w : ℕ → ℕ → ℕ) (f i : ℕ) → T (eqb f (rivals_by t) and eqb (d.pair i).stronger r) → notifies d w f i ≡ reached w t r
  own_pair w f i e =
      let j : f ≡ rivals_by t = eqb→eq _ _ (and_left _ _ e) in
      let c : f - rivals_base ≡ t = omega arith in ap₂ (λ x y. reached w x y) c (eqb→eq _ _ (and_right _ _ e))

  -- nothing to notify
  pub own_done : (T (eqb (view m1 (has t) r) (threshold t (view m size_f r)) and can_support (kind_of d r)) → ⊥) → Unchanged m1 m3 × Invariant d m3
  own_done n = (
    unchanged,
    invariant_of d m3
        (open_ext d m3 (decided_for (view m1)) (decided_for (view m3)) (notifies d (view m)) (notifies d (view m3)) (λ f x l k _. same f x l k)
        (λ f i l k _ c. ⊎_elim
        (λ e. own_pair (view m3) f i e ∙ last
        ∙ turns_no _ _ _ turns (λ y. n (and_intro _ _ y (subst (λ z. T (can_support (kind_of d z))) (eqb→eq _ _ (and_right _ _ e)) c))) ∙ sym (own_pair (view m) f i e))
        (elsewhere f i l k) (test_cases (eqb f (rivals_by t) and eqb (d.pair i).stronger r))) own_second),
  )

  -- r's pairs are to be notified
  module _ (y : T (eqb (view m1 (has t) r) (threshold t (view m size_f r)) and can_support (kind_of d r))) where
    pub own_reached : T (reached (view m3) t r)
    own_reached = subst T (sym last) (turns_yes _ _ _ turns (and_left _ _ y)).1

    pub own_open : Open d m3 (decided_for (view m3)) (notified_below d (view m3) t r 0)
    unfolding notified_below
    own_open =
        open_ext d m3 (decided_for (view m1)) (decided_for (view m3)) (notifies d (view m)) (notified_below d (view m3) t r 0) (λ f x l k _. same f x l k)
        (λ f i l k _ c. ⊎_elim
        (λ e. test_eq _ _
        (λ u. ⊎_elim (λ v. absurd (isnt_elim _ v e)) (λ v. let z : i < 0 = ltb→lt i 0 v in absurd (omega arith)) (or_elim _ _ (and_right _ _ u)))
        (λ u. absurd ((turns_yes _ _ _ turns (and_left _ _ y)).0 (subst T (own_pair (view m) f i e) u))))
        (λ n. test_eq _ _ (λ u. subst T (elsewhere f i l k n) (and_left _ _ u)) (λ u. and_intro _ _ (subst T (sym (elsewhere f i l k n)) u) (or_left _ _ (isnt_intro _ n))))
        (test_cases (eqb f (rivals_by t) and eqb (d.pair i).stronger r))) own_second

    -- and once they are, the visit is done
    pub own_notified : (n : List ℕ) → Unchanged m3 n → Open d n (decided_for (view n)) (notifies d (view n)) → Unchanged m1 n × Invariant d n
    own_notified n e o = (unchanged_trans unchanged e, invariant_of d n o)

-- a word that was stored one greater, and none
module _ (m : List ℕ) (f i : ℕ) where
  pub raised_set : (n : List ℕ) → f < field_count → i < field_size → memory_size ≤ length m → n ≡ set m (field_size * f + i) (view m f i + 1) → Raised f i 1 m n
  raised_set n h k l e =
      subst (Raised f i 1 m) (sym e)
      (record {
        words = record { here = view_set m f i (view m f i + 1) h k l; index = view_set_index m f i (view m f i + 1) h k; field = view_set_field m f i (view m f i + 1) h k };
        uses = use_set m f i (view m f i + 1) h k;
        kept = record { size = simp length-set; rest = rest_set m f i (view m f i + 1) h k };
      })

  pub raised_none : Raised f i 0 m m
  raised_none =
      record {
        words = record { here = omega arith; index = λ _ _ _. refl; field = λ _ _ _. refl };
        uses = λ _. refl;
        kept = record { size = refl; rest = refl };
      }

  pub raised_yes : (n : List ℕ) (a : Bool) → a ≡ true → f < field_count → i < field_size → memory_size ≤ length m → n ≡ set m (field_size * f + i) (view m f i + 1) → Raised f i (weigh a 1) m n
  raised_yes n a y h k l e = subst (λ z. Raised f i z m n) (sym (weigh_true a 1 (of_true a y))) (raised_set n h k l e)

  pub raised_no : (a : Bool) → a ≡ false → Raised f i (weigh a 1) m m
  raised_no a y = subst (λ z. Raised f i z m m) (sym (weigh_false a 1 (of_false a y))) raised_none

-- whether a rule is just countered by a rival that fires
module _ (w : ℕ → ℕ → ℕ) (r : ℕ) where
  pub countered_now : w beaten_f r ≡ 1 → eqb (w (has 3) r) 0 ≡ just_reached_by_rival w 2 r
  unfolding just_reached_by_rival ◌and◌
  countered_now e = ap (λ b. b and eqb (w (has 3) r) 0) (sym (true_of _ (eq→eqb (w beaten_f r) 1 e)))

  pub countered_not : (w beaten_f r ≡ 1 → ⊥) → false ≡ just_reached_by_rival w 2 r
  unfolding just_reached_by_rival
  countered_not n = sym (false_of _ (λ u. n (eqb→eq (w beaten_f r) 1 (and_left _ _ u))))

  -- and unopposed by one that is out
  pub unopposed_now : w lost_f r ≡ w rivals_f r → eqb (w (has 2) r) (w size_f r) ≡ just_reached_by_rival w 3 r
  unfolding just_reached_by_rival ◌and◌
  unopposed_now e = ap (λ b. b and eqb (w (has 2) r) (w size_f r)) (sym (true_of _ (eq→eqb (w lost_f r) (w rivals_f r) e)))

  pub unopposed_not : (w lost_f r ≡ w rivals_f r → ⊥) → false ≡ just_reached_by_rival w 3 r
  unfolding just_reached_by_rival
  unopposed_not n = sym (false_of _ (λ u. n (eqb→eq (w lost_f r) (w rivals_f r) (and_left _ _ u))))

-- Rule x is notified, whose head is h.
module _ (q x t h : ℕ) (m : List ℕ) (e : h ≡ view m head_f x) where
  -- of a rule that is no rival
  pub unnotified : (h ≡ q → ⊥) → Notified q x t m m
  unnotified n =
      record {
        middle = m;
        first = raised_no m (rivals_by t) x _ no;
        second = raised_no m (by_rival t) (view m head_f x) _ (false_of _ (λ u. of_false _ no (and_left _ _ u)));
      }
    where
      no : eqb (view m head_f x) q ≡ false
      no = false_of _ (λ u. n (e ∙ eqb→eq _ _ u))

  -- of a rival
  module _ (l : t < tag_count) (i : x < field_size) (room : memory_size ≤ length m) (m' : List ℕ) (g : m' ≡ set m (field_size * rivals_by t + x) (view m (rivals_by t) x + 1)) where
    pub rival_raised : Raised (rivals_by t) x 1 m m'
    rival_raised = raised_set m (rivals_by t) x m' (omega arith) i room g

    pub rival_asks : 2 ≤ t → NeverBothAt (view m) x → (x < field_size) × (2 ≤ t) × (t < tag_count) × (memory_size ≤ length m') × NeverBothAt (view m') x
    rival_asks lo n = (
      i,
      lo,
      l,
      omega (arith, rival_raised.kept.size),
      never_same (view m) (view m') x (rival_raised.words.field (has 2) x (λ f. omega arith)) (rival_raised.words.field (has 3) x (λ f. omega arith))
          (rival_raised.words.field size_f x (λ f. omega arith)) n,
    )

    pub notified : h ≡ q → (n : List ℕ) (b : Bool) → b ≡ just_reached_by_rival (view m') t x → Raised (by_rival t) h (weigh b 1) m' n → Notified q x t m n
    unfolding ◌and◌
    notified f n b k u =
        record {
          middle = m';
          first = subst (λ z. Raised (rivals_by t) x z m m') (sym (weigh_true _ 1 (of_true _ yes))) rival_raised;
          second = subst (λ z. Raised (by_rival t) z (weigh (eqb z q and just_reached_by_rival (view m') t x) 1) m' n) e
              (subst (λ z. Raised (by_rival t) h (weigh z 1) m' n) (k ∙ ap (◌and just_reached_by_rival (view m') t x) (sym (true_of (eqb h q) (eq→eqb h q f)))) u);
        }
      where
        yes : eqb (view m head_f x) q ≡ true
        yes = true_of _ (eq→eqb _ _ (sym e ∙ f))

pub next_small : (x t h k : ℕ) (m m' : List ℕ) → t < tag_count → memory_size ≤ length m → h ≡ view m head_f x → Raised (rivals_by t) x k m m'
    → (view m (rivals_by t) x < 65535) × (view m head_f x < field_size) × (view m (by_rival t) (view m head_f x) < 65535)
    → (by_rival t < field_count) × (h < field_size) × (memory_size ≤ length m') × (view m' (by_rival t) h < 65535)
next_small x t h k m m' a l e r u =
    let y : view m' (by_rival t) h ≡ view m (by_rival t) (view m head_f x) = r.words.field (by_rival t) h (λ i. omega arith) ∙ ap (view m (by_rival t)) e in
    (omega arith, omega (arith, u.1), omega (arith, r.kept.size), omega (arith, u.2))

-- one antecedent more, as it is read
pub just_reached_read : (m : List ℕ) (r t : ℕ) (n : List ℕ) {size word goal : ℕ} → r < field_size → t < tag_count → memory_size ≤ length m → n ≡ set m (field_size * (has t) + r) (view m (has t) r + 1)
    → size ≡ view m size_f r → word ≡ view n (has t) r → goal ≡ threshold t size → Raised (has t) r 1 m n × (eqb word goal ≡ just_reached (view n) t r)
just_reached_read m r t n a h l e f g j =
    let u = raised_set m (has t) r n (omega arith) a l e in
    (u, ap₂ eqb g (j ∙ ap (threshold t) (f ∙ sym (u.words.field size_f r (λ i. omega arith)))))

-- the count of a literal fits a word
pub count_small : (d : Theory) → WellFormed d → (m m' : List ℕ) (f r h : ℕ) → Invariant d m → r < d.rules → h ≡ view m head_f r → proved_f ≤ f → f < counts_end
    → length m' ≡ length m → view m' f h ≡ view m f h → (f < field_count) × (h < field_size) × (memory_size ≤ length m') × (view m' f h < 65535)
count_small d s m m' f r h st k e lo hi l v =
    let a : view m head_f r ≡ head_of d r = st.index.heads r k in
    let b : head_of d r < 2 * d.atoms = s.heads r k in
    let c : h < 2 * d.atoms = omega arith in (
      omega arith,
      omega (arith, s.few),
      omega (arith, st.room),
      omega (
        arith,
        (open_of d m st).counts.literals f h lo hi c,
        count_le d.rules (λ x. allowed f (kind_of d x) and eqb (head_of d x) h and decided_for (view m) f x),
        s.order.small,
      ),
    )

-- the visits, of the values that the code has at hand: one antecedent more has its tag
module _ (d : Theory) (m m1 : List ℕ) (t r : ℕ) (h : t < tag_count) (k : r < d.rules) (s : Invariant d m) (g : Lacks (view m) t r) (i : Raised (has t) r 1 m m1) where
  just_reached_is : just_reached (view m1) t r ≡ eqb (view m1 (has t) r) (threshold t (view m size_f r))
  just_reached_is = ap (λ z. eqb (view m1 (has t) r) (threshold t z)) (i.words.field size_f r (λ e. omega arith))

  -- it does not decide the rule
  module _ {x : Bool} (a : x ≡ just_reached (view m1) t r) (n : x ≡ false) where
    never : (b : Bool) → eqb (view m1 (has t) r) (threshold t (view m size_f r)) and b ≡ false
    unfolding ◌and◌
    never b = ap (◌and b) (sym just_reached_is ∙ sym a ∙ n)

    pub undecided : Visited d t r m m1
    undecided =
        ⊎_elim
        (λ lo. let v = own_done d m m1 m1 m1 t r lo h k s g i (raised_no m1 (by_itself t) (head_of d r) _ (never _)) (raised_no m1 (rules_by t) (head_of d r) _ (never _)) (of_false _ (never _)) in
        visited_of d m m1 m1 t r h i v.0 v.1)
        (λ l. visit_definite d m m1 m1 t r l k s g i (raised_no m1 (rules_by t) (head_of d r) _ (never _))) (at_most 2 t)

  -- it decides the rule, for a definite tag
  module _ {x strict : Bool} {head : ℕ} (a : x ≡ just_reached (view m1) t r) (y : x ≡ true) (e : head ≡ view m1 head_f r) (e' : strict ≡ eqb (view m1 kind_f r) 0) where
    pub definite_small : WellFormed d → t < 2 → (rules_by t < field_count) × (head < field_size) × (memory_size ≤ length m1) × (view m1 (rules_by t) head < 65535)
    definite_small o l =
        count_small d o m m1 (rules_by t) r head s k (e ∙ i.words.field head_f r (λ f. omega arith)) (omega arith) (omega arith) i.kept.size (i.words.field (rules_by t) head (λ f. omega arith))

    pub definite_end : (n : List ℕ) → t < 2 → Raised (rules_by t) head (weigh strict 1) m1 n → Visited d t r m n
    unfolding ◌and◌
    definite_end n l u =
        visit_definite d m m1 n t r l k s g i
        (subst (λ z. Raised (rules_by t) z (weigh (eqb (view m1 (has t) r) (threshold t (view m size_f r)) and is_strict (kind_of d r)) 1) m1 n) (e ∙ i.words.field head_f r (λ f. omega arith) ∙ s.index.heads r k)
        (subst (λ z. Raised (rules_by t) head (weigh z 1) m1 n)
        (e' ∙ ap (λ z. eqb z 0) (i.words.field kind_f r (λ f. omega arith) ∙ s.index.kinds r k) ∙ strict_number (kind_of d r)
        ∙ ap (◌and is_strict (kind_of d r)) (sym y ∙ a ∙ just_reached_is)) u))

-- a rule that is decided for a defeasible tag
module _ (d : Theory) (m1 : List ℕ) (t r : ℕ)
    (p : (WellFormed d × Decided d t r m1 × (r < d.rules) × (2 ≤ t) × (t < tag_count)) × ((r < field_size) × (memory_size ≤ length m1))) where
  abbrev c : Decided d t r m1
  c = p.0.1

  abbrev k : r < d.rules
  k = p.0.2

  abbrev lo : 2 ≤ t
  lo = p.0.3

  abbrev hi : t < tag_count
  hi = p.0.4

  head_before : view m1 head_f r ≡ view c.before head_f r
  head_before = c.raised.words.field head_f r (λ f. omega arith)

  -- its counts fit a word
  fits : (f : ℕ) → proved_f ≤ f → f < counts_end → (f < field_count) × (view m1 head_f r < field_size) × (memory_size ≤ length m1) × (view m1 f (view m1 head_f r) < 65535)
  fits f l u =
      count_small d p.0.0 c.before m1 f r (view m1 head_f r) c.invariant k head_before l u c.raised.kept.size (c.raised.words.field f (view m1 head_f r) (λ j. omega arith))

  pub count_asks : ((r < field_size) × (2 ≤ t) × (t < tag_count) × (memory_size ≤ length m1) × (view m1 head_f r < field_size))
      × ((view m1 (by_itself t) (view m1 head_f r) < 65535) × (view m1 (rules_by t) (view m1 head_f r) < 65535))
  count_asks =
      let x = fits (by_itself t) (omega (arith, hi)) (omega (arith, lo)) in
      ((p.1.0, lo, hi, x.2, x.1), (x.3, (fits (rules_by t) (omega (arith, hi)) (omega (arith, hi))).3))

  module _ (m3 : List ℕ) {x : Bool} (e : CountedAtHead t r m1 m3 × (x ≡ ltb (view m1 kind_f r) 2)) where
    abbrev g : CountedAtHead t r m1 m3
    g = e.0

    abbrev m : List ℕ
    m = c.before

    head_is : view m1 head_f r ≡ head_of d r
    head_is = head_before ∙ c.invariant.index.heads r k

    both_is : (b : Bool) → b ≡ eqb (view m1 (has t) r) (threshold t (view m size_f r)) and b
    unfolding ◌and◌
    both_is b = ap (◌and b) (sym (true_of _ c.just) ∙ just_reached_is d m m1 t r hi k c.invariant c.lacks c.raised)

    supports_is : ltb (view m1 kind_f r) 2 ≡ can_support (kind_of d r)
    supports_is = ap (λ q. ltb q 2) (c.raised.words.field kind_f r (λ f. omega arith) ∙ c.invariant.index.kinds r k) ∙ support_number (kind_of d r)

    free_raised : Raised (by_itself t) (head_of d r) (weigh (eqb (view m1 (has t) r) (threshold t (view m size_f r)) and is_free (view m1) t r) 1) m1 g.middle
    free_raised =
        subst (λ q. Raised (by_itself t) q (weigh (eqb (view m1 (has t) r) (threshold t (view m size_f r)) and is_free (view m1) t r) 1) m1 g.middle) head_is
        (subst (λ q. Raised (by_itself t) (view m1 head_f r) (weigh q 1) m1 g.middle) (both_is (is_free (view m1) t r)) g.free)

    own_raised : Raised (rules_by t) (head_of d r) (weigh (eqb (view m1 (has t) r) (threshold t (view m size_f r)) and can_support (kind_of d r)) 1) g.middle m3
    own_raised =
        subst (λ q. Raised (rules_by t) q (weigh (eqb (view m1 (has t) r) (threshold t (view m size_f r)) and can_support (kind_of d r)) 1) g.middle m3) head_is
        (subst (λ q. Raised (rules_by t) (view m1 head_f r) (weigh q 1) g.middle m3) (supports_is ∙ both_is (can_support (kind_of d r))) g.own)

    counts_is : x ≡ eqb (view m1 (has t) r) (threshold t (view m size_f r)) and can_support (kind_of d r)
    counts_is = e.1 ∙ supports_is ∙ both_is _

    yes : x ≡ true → T (eqb (view m1 (has t) r) (threshold t (view m size_f r)) and can_support (kind_of d r))
    yes j = subst T counts_is (of_true _ j)

    -- before the walk, after it, and without one
    pub propagate_walk : (u : ℕ) → t ≡ u → x ≡ true → (WellFormed d × (r < d.rules) × (2 ≤ u) × (u < tag_count) × T (can_support (kind_of d r)))
        × ((T (reached (view m3) u r) × Open d m3 (decided_for (view m3)) (notified_below d (view m3) u r 0)) × ((r < field_size) × (memory_size ≤ length m3)))
    propagate_walk u f j =
        let o = own_open d m m1 g.middle m3 t r lo hi k c.invariant c.lacks c.raised free_raised own_raised (yes j) in (
          (p.0.0, k, omega (arith, lo, f), omega (arith, hi, f), and_right _ _ (yes j)),
          (
            (
              subst (λ z. T (reached (view m3) z r)) f (own_reached d m m1 g.middle m3 t r lo hi k c.invariant c.lacks c.raised free_raised own_raised (yes j)),
              subst (λ z. Open d m3 (decided_for (view m3)) (notified_below d (view m3) z r 0)) f o,
            ),
            (p.1.0, o.room),
          ),
        )

    pub propagate_notified : (n : List ℕ) → x ≡ true → Unchanged m3 n × Open d n (decided_for (view n)) (notifies d (view n)) → Unchanged m1 n × Invariant d n
    propagate_notified n j o = own_notified d m m1 g.middle m3 t r lo hi k c.invariant c.lacks c.raised free_raised own_raised (yes j) n o.0 o.1

    pub propagate_end : x ≡ false → Unchanged m1 m3 × Invariant d m3
    propagate_end j =
        own_done d m m1 g.middle m3 t r lo hi k c.invariant c.lacks c.raised free_raised own_raised
        (λ v. of_false _ j (subst T (sym counts_is) v))
