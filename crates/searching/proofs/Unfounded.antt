-- What a search asks of a literal (logic's Unfounded) by what it asks apart from the set (memory's Founding). Assumes nothing.
use Prim.Native.Nat.{ℕ, zero, suc, ◌<◌}
use mathlib.Core.Path.{◌≡◌}
use mathlib.Core.Logic.{⊎_elim}
use mathlib.Core.Bool.{Bool}
use lib.Dec.{T, eqb→eq}
use Rattle.logic.specs.Tests.{◌or◌, some_of}
use Rattle.logic.specs.Theory.{Theory, head_of, body_of, strict_for, supporter}
use Rattle.logic.specs.Inference.{one_has}
use Rattle.logic.specs.Unfounded.{has_or_in, unfounded}
use Rattle.logic.proofs.Tests.{test_cases, eq→eqb, and_intro, and_left, and_right, or_left, or_right, or_elim, isnt_intro, isnt_elim, implies_intro, implies_elim, every_intro, every_elim, some_of_intro, some_of_elim}
use Rattle.memory.specs.Founding.{barred, secure, needy}

module _ (d : Theory) (holds : ℕ → ℕ → Bool) (set : ℕ → Bool) where
  -- an antecedent with the tag or in the set
  in_set : (t r : ℕ) → (T (one_has d holds t r) → ⊥) → T (has_or_in d holds set t r) → T (some_of (body_of d r) set)
  unfolding one_has
  in_set t r n u =
      let (a, m, v) = some_of_elim (body_of d r) (λ b. holds b t or set b) u in
      ⊎_elim (λ x. absurd (n (some_of_intro (body_of d r) (λ b. holds b t) a m x))) (λ x. some_of_intro (body_of d r) set a m x) (or_elim (holds a t) (set a) v)

  has_or_in_lem : (t r : ℕ) → ((T (one_has d holds t r) → ⊥) → T (some_of (body_of d r) set)) → T (has_or_in d holds set t r)
  unfolding one_has
  has_or_in_lem t r f =
      ⊎_elim
      (λ u. let (a, m, v) = some_of_elim (body_of d r) (λ b. holds b t) u in some_of_intro (body_of d r) (λ b. holds b t or set b) a m (or_left (holds a t) (set a) v))
      (λ n. let (a, m, v) = some_of_elim (body_of d r) set (f n) in some_of_intro (body_of d r) (λ b. holds b t or set b) a m (or_right (holds a t) (set a) v))
      (test_cases (one_has d holds t r))

  -- what is unfounded is not barred
  pub unfounded_free : (i q : ℕ) → T (unfounded d holds set i q) → T (barred d holds i q) → ⊥
  unfolding unfounded barred
  unfounded_free zero q u b = isnt_elim _ (and_left _ _ u) b
  unfounded_free (suc i) q u b = isnt_elim _ b (and_left _ _ u)

  -- and secure, or the set has an antecedent of each needy rule for it
  pub unfounded_has : (i q : ℕ) → T (unfounded d holds set i q) → (T (secure d holds i q) → ⊥) → (r : ℕ) → r < d.rules → T (needy d holds i r) → head_of d r ≡ q
      → T (some_of (body_of d r) set)
  unfolding unfounded secure needy strict_for supporter
  unfounded_has zero q u n r h k e =
      in_set 1 r (isnt_elim _ (and_right _ _ k)) (implies_elim _ _ (every_elim _ _ (and_right _ _ u) r h) (and_intro _ _ (and_left _ _ k) (eq→eqb _ _ e)))
  unfounded_has (suc i) q u n r h k e =
      ⊎_elim
      (λ v. ⊎_elim
      (λ w. in_set 3 r (isnt_elim _ (and_right _ _ k)) (implies_elim _ _ (every_elim _ _ w r h) (and_intro _ _ (and_left _ _ k) (eq→eqb _ _ e))))
      (λ w. absurd (n (or_left _ _ w))) (or_elim _ _ v))
      (λ v. absurd (n (or_right _ _ v))) (or_elim _ _ (and_right _ _ u))

  -- and the other way round
  pub unfounded_of : (i q : ℕ) → (T (barred d holds i q) → ⊥)
      → ((T (secure d holds i q) → ⊥) → (r : ℕ) → r < d.rules → T (needy d holds i r) → head_of d r ≡ q → T (some_of (body_of d r) set)) → T (unfounded d holds set i q)
  unfolding unfounded barred secure needy strict_for supporter
  unfounded_of zero q b f =
      and_intro _ _ (isnt_intro _ b) (every_intro _ _ (λ r h. implies_intro _ _ (λ u. has_or_in_lem 1 r
      (λ n. f (λ t. t) r h (and_intro _ _ (and_left _ _ u) (isnt_intro _ n)) (eqb→eq _ _ (and_right _ _ u))))))
  unfounded_of (suc i) q b f =
      and_intro _ _ (⊎_elim (λ x. x) (λ n. absurd (b (isnt_intro _ n))) (test_cases (holds q 1)))
      (⊎_elim (λ s. ⊎_elim (λ x. or_left _ _ (or_right _ _ x)) (λ x. or_right _ _ x) (or_elim _ _ s))
      (λ s. or_left _ _ (or_left _ _ (every_intro _ _ (λ r h. implies_intro _ _ (λ u. has_or_in_lem 3 r
      (λ n. f s r h (and_intro _ _ (and_left _ _ u) (isnt_intro _ n)) (eqb→eq _ _ (and_right _ _ u)))))))) (test_cases (secure d holds (suc i) q)))
