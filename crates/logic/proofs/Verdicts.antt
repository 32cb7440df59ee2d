-- Document 02, S-6: what idle changes of the verdicts, and that the standing of a rule gives it. Assumes nothing.
use Prim.Native.Nat.{ℕ, ◌+◌, ◌*◌}
use native.Mathlib.Omega.{arith}
use mathlib.Core.Path.{◌≡◌, refl, sym, ap, subst}
use mathlib.Core.Logic.{◌↔◌, ◌⊎◌, inl, inr, ⊎_elim}
use mathlib.Core.Bool.{Bool, true, false}
use lib.Dec.{T}
use Rattle.logic.specs.Tests.{◌and◌, isnt, some}
use Rattle.logic.specs.Theory.{Theory, supporter}
use Rattle.logic.specs.Inference.{+∂, −∂, one_has, unsupported}
use Rattle.logic.specs.Standing.{Standing, firing, out, waiting, standing, is_out, NeverBoth}
use Rattle.logic.specs.Verdict.{Verdict, idle, split, first_fit, of_both, former_verdict, verdict}
use Rattle.logic.specs.Cases.{place_of}
use Rattle.logic.proofs.Tests.{and_intro, and_left, and_right, every_elim, every_intro, implies_elim, implies_intro, isnt_elim, isnt_intro, some_elim, some_intro, test_cases, test_eq}
use Rattle.logic.proofs.Standing.{out_one}

-- by the tests: of clash, go, hold, −∂ of both literals, and that every supporter of either has an antecedent with −∂
by_tests : (c g h s u : Bool)
    → (first_fit c g h (s and u) s ≡ first_fit c g h false s) ⊎ ((first_fit c g h false s ≡ split) × (first_fit c g h (s and u) s ≡ idle))
unfolding ◌and◌
by_tests true g h s u = inl refl
by_tests false true h s u = inl refl
by_tests false false true s u = inl refl
by_tests false false false true true = inr (refl, refl)
by_tests false false false true false = inl refl
by_tests false false false false u = inl refl

-- "So some atoms go from split to idle, and no other answer changes.": for every theory, and whatever is held
pub split_to_idle : (d : Theory) (holds : ℕ → ℕ → Bool) (a : ℕ)
    → (verdict d holds a ≡ former_verdict holds a) ⊎ ((former_verdict holds a ≡ split) × (verdict d holds a ≡ idle))
split_to_idle d holds a =
    by_tests (of_both holds +∂ a) (holds (2 * a) +∂) (holds (2 * a + 1) +∂) (of_both holds −∂ a)
    (unsupported d holds (2 * a) and unsupported d holds (2 * a + 1))

-- and exactly those: where the verdict was split, and every supporter of either literal has an antecedent with −∂
other : {x y : Verdict} → (place_of x ≡ place_of y → ⊥) → x ≡ y → ⊥
other n e = n (ap place_of e)

idle_by_tests : (c g h s u : Bool) → (first_fit c g h (s and u) s ≡ idle) ↔ ((first_fit c g h false s ≡ split) × T u)
unfolding ◌and◌ place_of
idle_by_tests true g h s u = (λ e. absurd (other (λ n. omega arith) e), λ p. absurd (other (λ n. omega arith) p.0))
idle_by_tests false true h s u = (λ e. absurd (other (λ n. omega arith) e), λ p. absurd (other (λ n. omega arith) p.0))
idle_by_tests false false true s u = (λ e. absurd (other (λ n. omega arith) e), λ p. absurd (other (λ n. omega arith) p.0))
idle_by_tests false false false true true = (λ _. (refl, tt), λ _. refl)
idle_by_tests false false false true false = (λ e. absurd (other (λ n. omega arith) e), λ p. absurd p.1)
idle_by_tests false false false false u = (λ e. absurd (other (λ n. omega arith) e), λ p. absurd (other (λ n. omega arith) p.0))

pub idle_exactly : (d : Theory) (holds : ℕ → ℕ → Bool) (a : ℕ)
    → (verdict d holds a ≡ idle) ↔ ((former_verdict holds a ≡ split) × T (unsupported d holds (2 * a) and unsupported d holds (2 * a + 1)))
idle_exactly d holds a = idle_by_tests (of_both holds +∂ a) (holds (2 * a) +∂) (holds (2 * a + 1) +∂) (of_both holds −∂ a) _

-- Where no rule fires and is out, a rule has an antecedent with −∂ exactly if it is out: so a literal is unsupported exactly if no
-- supporter of it stands otherwise.
out_is : (x : Standing) → T (is_out x) → x ≡ out
unfolding is_out
out_is firing t = absurd t
out_is out t = refl
out_is waiting t = absurd t

is_out_lem : T (is_out out)
unfolding is_out
is_out_lem = tt

pub unsupported_out : (d : Theory) (holds : ℕ → ℕ → Bool) (q : ℕ) → NeverBoth d 1 holds
    → unsupported d holds q ≡ isnt (some d.rules (λ r. supporter d r q and isnt (is_out (standing d 1 holds r))))
unsupported_out d holds q n =
    test_eq _ _
    (λ t. isnt_intro _ (λ u. let (r, h, v) = some_elim d.rules _ u in
    isnt_elim _ (and_right _ _ v) (stands_out r (implies_elim _ _ (every_elim d.rules _ t r h) (and_left _ _ v)))))
    (λ t. every_intro d.rules _ (λ r h. implies_intro _ _ (λ w. ⊎_elim (λ u. (out_one d 1 holds r n).1 (out_is _ u))
    (λ m. absurd (isnt_elim _ t (some_intro d.rules _ r h (and_intro _ _ w (isnt_intro _ m))))) (test_cases (is_out (standing d 1 holds r))))))
  where
    stands_out : (r : ℕ) → T (one_has d holds −∂ r) → T (is_out (standing d 1 holds r))
    stands_out r t = subst (λ x. T (is_out x)) (sym ((out_one d 1 holds r n).0 t)) is_out_lem
