-- How a rule stands by the words of the memory, and what one antecedent more makes of it. Assumes nothing.
use Prim.Native.Nat.{ℕ, ◌+◌, ◌≤◌, ◌<◌}
use native.Mathlib.Omega.{arith}
use mathlib.Core.Path.{◌≡◌, refl, sym, ◌∙◌, ap, ap₂}
use mathlib.Core.Logic.{◌⊎◌, inl, inr, ⊎_elim}
use mathlib.Core.Bool.{Bool, true, false, cond, not}
use lib.Dec.{T, eqb, eqb→eq, eqb_refl, ltb, ltb→lt, lt→ltb}
use denote.Enum.Bare.{sameb}
use Rattle.logic.specs.Tests.{◌and◌, ◌or◌, isnt}
use Rattle.logic.specs.Standing.{Standing, firing, out, waiting}
use Rattle.logic.proofs.Tests.{and_intro, and_left, and_right, at_most, cond_false, cond_true, eq→eqb, false_of, isnt_elim, isnt_intro, or_elim, or_left, or_right, test_cases, test_eq, true_of}
use Rattle.logic.proofs.Standing.{fit_firing, fit_waiting, out_holds, out_not_firing, waiting_not_firing, waiting_not_out}
use Rattle.standing.specs.declared.answer.Standing as answer
use Rattle.standing.specs.declared.answer.Standing.TheVariants.{Firing, Out, Waiting}
use Rattle.standing.specs.contracts.answer.Standing.{the_type}
use Rattle.standing.specs.Answers.{meant}
use Rattle.memory.specs.Layout.{tag_count}
use Rattle.memory.specs.Fields.{has, size_f}
use Rattle.memory.specs.Api.{Lacks}
use Rattle.memory.specs.Deciding.{standing_with, decided_by, decided_to}
use Rattle.memory.specs.Memory.{NeverBothAt}
use Rattle.memory.specs.Visits.{Grown, threshold, just_reached}
use Rattle.memory.proofs.visit.Steps.{tag_cases}

none_or_some : (n : ℕ) → (n ≡ 0) ⊎ (0 < n)
none_or_some n = ⊎_elim (λ h. inl (omega arith)) (λ h. inr h) (at_most n 0)

-- the two tests behind what an antecedent makes of a rule
made_firing : (a b : Bool) → cond a (cond b firing out) waiting ≡ firing → T a × T b
made_firing true true e = (tt, tt)
made_firing true false e = absurd (out_not_firing e)
made_firing false b e = absurd (waiting_not_firing e)

made_out : (a b : Bool) → cond a (cond b firing out) waiting ≡ out → T a × (T b → ⊥)
made_out true true e = absurd (out_not_firing (sym e))
made_out true false e = (tt, λ t. t)
made_out false b e = absurd (waiting_not_out e)

made_waiting : (a b : Bool) → cond a (cond b firing out) waiting ≡ waiting → a ≡ false
made_waiting true true e = absurd (waiting_not_firing (sym e))
made_waiting true false e = absurd (waiting_not_out (sym e))
made_waiting false b e = refl

module _ (w : ℕ → ℕ → ℕ) (t r : ℕ) where
  pub to_firing : decided_to w t r ≡ firing → T (decided_by w t r) × (t ≡ 2)
  to_firing e = let (a, b) = made_firing (decided_by w t r) (eqb t 2) e in (a, eqb→eq t 2 b)

  pub to_out : decided_to w t r ≡ out → T (decided_by w t r) × (t ≡ 2 → ⊥)
  to_out e = let (a, b) = made_out (decided_by w t r) (eqb t 2) e in (a, λ f. b (eq→eqb t 2 f))

  pub to_waiting : decided_to w t r ≡ waiting → decided_by w t r ≡ false
  to_waiting = made_waiting (decided_by w t r) (eqb t 2)

-- and what the tests of that say
pub waits : (x : answer.Standing) {y : Standing} → meant x ≡ y → not (sameb the_type x Waiting) ≡ false → y ≡ waiting
unfolding meant
waits Firing e n = cc
waits Out e n = cc
waits Waiting e n = sym e

module _ (w : ℕ → ℕ → ℕ) (t r : ℕ) where
  pub undecided_yet : (x : answer.Standing) → meant x ≡ decided_to w t r → sameb the_type x Waiting ≡ true → decided_by w t r ≡ false
  unfolding meant
  undecided_yet Firing e n = cc
  undecided_yet Out e n = cc
  undecided_yet Waiting e n = to_waiting w t r (sym e)

  pub decided_now : (x : answer.Standing) → meant x ≡ decided_to w t r → sameb the_type x Waiting ≡ false → T (decided_by w t r)
  unfolding meant
  decided_now Firing e n = (to_firing w t r (sym e)).0
  decided_now Out e n = (to_out w t r (sym e)).0
  decided_now Waiting e n = cc

-- An antecedent that a rule lacks decides it exactly if the rule's word is just there.
JustTurns : ℕ → Type 0
JustTurns t = (w v : ℕ → ℕ → ℕ) (r : ℕ) → Lacks w t r → Grown (has t) r 1 w v → just_reached v t r ≡ decided_by w t r

just_firing : JustTurns 2
unfolding JustTurns threshold
just_firing w v r l g =
    let k : w (has 2) r + w (has 3) r < w size_f r = l in
    ap₂ eqb g.here (g.field size_f r (λ e. omega arith))
    ∙ test_eq _ _
    (λ u. let e : w (has 2) r + 1 ≡ w size_f r = eqb→eq _ _ u in
    and_intro _ _ (and_intro _ _ (isnt_intro _ (λ x. let f : w (has 2) r ≡ w size_f r = eqb→eq _ _ x in omega arith)) (eq→eqb (w (has 3) r) 0 (omega arith))) (or_right _ _ u))
    (λ u. ⊎_elim (λ x. absurd x) (λ x. x) (or_elim (eqb 2 3) _ (and_right _ _ u)))

just_out : JustTurns 3
unfolding JustTurns threshold
just_out w v r l g =
    let k : w (has 3) r + w (has 2) r < w size_f r = l in
    ap (λ x. eqb x 1) g.here
    ∙ test_eq _ _
    (λ u. let e : w (has 3) r + 1 ≡ 1 = eqb→eq _ _ u in
    and_intro _ _ (and_intro _ _ (isnt_intro _ (λ x. let f : w (has 2) r ≡ w size_f r = eqb→eq _ _ x in omega arith)) (eq→eqb (w (has 3) r) 0 (omega arith))) (or_left _ _ (eqb_refl 3)))
    (λ u. let e : w (has 3) r ≡ 0 = eqb→eq _ _ (and_right _ _ (and_left _ _ u)) in eq→eqb (w (has 3) r + 1) 1 (omega arith))

pub just_two : (v : ℕ → ℕ → ℕ) (r : ℕ) → just_reached v 2 r ≡ eqb (v (has 2) r) (v size_f r)
unfolding threshold
just_two v r = refl

pub just_decided : (w v : ℕ → ℕ → ℕ) (t r : ℕ) → 2 ≤ t → t < tag_count → Lacks w t r → Grown (has t) r 1 w v → just_reached v t r ≡ decided_by w t r
unfolding JustTurns
just_decided w v t r lo hi = tag_cases JustTurns just_firing just_out t lo hi w v r

-- how a rule stands, by its words
module _ (w : ℕ → ℕ → ℕ) (r : ℕ) where
  pub firing_words : standing_with w 0 0 r ≡ firing → w (has 2) r ≡ w size_f r
  firing_words e = omega (arith, eqb→eq (w (has 2) r + 0) (w size_f r) ((fit_firing (eqb (w (has 2) r + 0) (w size_f r)) (ltb 0 (w (has 3) r + 0))).1 e))

  pub out_words : standing_with w 0 0 r ≡ out → 0 < w (has 3) r
  out_words e = omega (arith, ltb→lt 0 (w (has 3) r + 0) (out_holds (eqb (w (has 2) r + 0) (w size_f r)) (ltb 0 (w (has 3) r + 0)) e))

  pub not_firing_words : standing_with w 0 0 r ≡ out → w (has 2) r ≡ w size_f r → ⊥
  not_firing_words e f =
      out_not_firing (sym e ∙ (fit_firing (eqb (w (has 2) r + 0) (w size_f r)) (ltb 0 (w (has 3) r + 0))).0 (eq→eqb (w (has 2) r + 0) (w size_f r) (omega arith)))

  pub waiting_words : standing_with w 0 0 r ≡ waiting → (w (has 2) r ≡ w size_f r → ⊥) × (w (has 3) r ≡ 0)
  waiting_words e =
      let n : T (eqb (w (has 2) r + 0) (w size_f r) or ltb 0 (w (has 3) r + 0)) → ⊥ = (fit_waiting _ _).1 e in (
        λ f. n (or_left _ _ (eq→eqb (w (has 2) r + 0) (w size_f r) (omega arith))),
        ⊎_elim (λ z. z) (λ f. absurd (n (or_right (eqb (w (has 2) r + 0) (w size_f r)) _ (lt→ltb 0 (w (has 3) r + 0) (omega arith))))) (none_or_some (w (has 3) r)),
      )

  -- what the tests of a standing say that was read of them
  pub is_firing : (x : answer.Standing) → meant x ≡ standing_with w 0 0 r → sameb the_type x Firing ≡ eqb (w (has 2) r) (w size_f r)
  unfolding meant
  is_firing Firing e = sym (true_of _ (eq→eqb _ _ (firing_words (sym e))))
  is_firing Out e = sym (false_of _ (λ u. not_firing_words (sym e) (eqb→eq _ _ u)))
  is_firing Waiting e = sym (false_of _ (λ u. (waiting_words (sym e)).0 (eqb→eq _ _ u)))

  pub not_out : (x : answer.Standing) → meant x ≡ standing_with w 0 0 r → NeverBothAt w r → not (sameb the_type x Out) ≡ eqb (w (has 3) r) 0
  unfolding meant
  not_out Firing e n = sym (true_of _ (eq→eqb _ 0 (omega (arith, n, firing_words (sym e)))))
  not_out Out e n = sym (false_of _ (λ u. let z : w (has 3) r ≡ 0 = eqb→eq _ _ u in omega (arith, out_words (sym e))))
  not_out Waiting e n = sym (true_of _ (eq→eqb _ 0 (waiting_words (sym e)).1))

  -- one antecedent more, of a rule that is decided already
  module _ (t : ℕ) where
    fires_already : standing_with w 0 0 r ≡ firing → waiting ≡ decided_to w t r
    fires_already e = sym (cond_false (decided_by w t r) _ _ (λ u. isnt_elim _ (and_left _ _ (and_left _ _ u)) (eq→eqb _ _ (firing_words e))))

    out_already : standing_with w 0 0 r ≡ out → waiting ≡ decided_to w t r
    out_already e =
        sym (cond_false (decided_by w t r) _ _ (λ u. let z : w (has 3) r ≡ 0 = eqb→eq _ _ (and_right _ _ (and_left _ _ u)) in absurd (omega (arith, out_words e))))

    pub decided_already : (x : answer.Standing) → meant x ≡ standing_with w 0 0 r → not (sameb the_type x Waiting) ≡ true → meant Waiting ≡ decided_to w t r
    unfolding meant
    decided_already Firing e n = fires_already (sym e)
    decided_already Out e n = out_already (sym e)
    decided_already Waiting e n = cc

    -- and of one that waits
    module _ (e : standing_with w 0 0 r ≡ waiting) where
      open_yet : T (isnt (eqb (w (has 2) r) (w size_f r)) and eqb (w (has 3) r) 0)
      open_yet = let (n, z) = waiting_words e in and_intro _ _ (isnt_intro _ (λ u. n (eqb→eq _ _ u))) (eq→eqb _ _ z)

      pub fires_by_it : t ≡ 2 → standing_with w 1 0 r ≡ decided_to w t r
      fires_by_it f =
          ⊎_elim
          (λ y. cond_true (eqb (w (has 2) r + 1) (w size_f r)) _ _ y ∙ sym (cond_true (decided_by w t r) _ _ (and_intro _ _ open_yet (or_right _ _ y)) ∙ cond_true (eqb t 2) _ _ (eq→eqb t 2 f)))
          (λ n. cond_false (eqb (w (has 2) r + 1) (w size_f r)) _ _ n
          ∙ cond_false (ltb 0 (w (has 3) r + 0)) _ _ (λ u. let l : 0 < w (has 3) r + 0 = ltb→lt _ _ u in absurd (omega (arith, (waiting_words e).1)))
          ∙ sym (cond_false (decided_by w t r) _ _ (λ u. ⊎_elim (λ x. let g : t ≡ 3 = eqb→eq t 3 x in absurd (omega arith)) n (or_elim _ _ (and_right _ _ u)))))
          (test_cases (eqb (w (has 2) r + 1) (w size_f r)))

      pub out_by_it : t ≡ 3 → standing_with w 0 1 r ≡ decided_to w t r
      out_by_it f =
          cond_false (eqb (w (has 2) r + 0) (w size_f r)) _ _ (λ u. (waiting_words e).0 (let g : w (has 2) r + 0 ≡ w size_f r = eqb→eq _ _ u in omega arith))
          ∙ cond_true (ltb 0 (w (has 3) r + 1)) _ _ (lt→ltb 0 (w (has 3) r + 1) (omega arith))
          ∙ sym (cond_true (decided_by w t r) _ _ (and_intro _ _ open_yet (or_left _ _ (eq→eqb t 3 f))) ∙ cond_false (eqb t 2) _ _ (λ u. let g : t ≡ 2 = eqb→eq t 2 u in absurd (omega arith)))
