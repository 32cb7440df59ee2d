-- Laws of the tests of a rule's antecedents, over the tag. Assumes nothing.
use Prim.Native.Nat.{ℕ}
use mathlib.Core.Path.{◌≡◌, refl, sym, subst}
use mathlib.Core.Bool.{Bool}
use lib.Dec.{T}
use Rattle.logic.specs.Tests.{isnt, member, empty}
use Rattle.logic.specs.Theory.{Theory, body_of}
use Rattle.logic.specs.Inference.{all_have, one_has}
use Rattle.logic.proofs.Tests.{every_of_intro, every_of_elim, some_of_intro, some_of_elim, test_eq}
use Rattle.logic.proofs.Lists.{filled_elim}

-- what the antecedents of one rule have for one test, those of another have for another: the rules have the same antecedents, and what the one
-- test has of them the other has
module _ (d k : Theory) (h g : ℕ → ℕ → Bool) (t r s : ℕ) (e : (a : ℕ) → member a (body_of d r) ≡ member a (body_of k s))
    (f : (a : ℕ) → T (member a (body_of d r)) → T (h a t) → T (g a t)) where
  pub all_across : T (all_have d h t r) → T (all_have k g t s)
  unfolding all_have
  all_across u =
      every_of_intro (body_of k s) (λ a. g a t) (λ a m. let l = subst T (sym (e a)) m in f a l (every_of_elim (body_of d r) (λ b. h b t) u a l))

  pub one_across : T (one_has d h t r) → T (one_has k g t s)
  unfolding one_has
  one_across u = let (a, m, v) = some_of_elim (body_of d r) (λ b. h b t) u in some_of_intro (body_of k s) (λ b. g b t) a (subst T (e a) m) (f a m v)

-- of one rule
module _ (d : Theory) (h k : ℕ → ℕ → Bool) (t r : ℕ) where
  pub all_moves : ((a : ℕ) → T (member a (body_of d r)) → T (h a t) → T (k a t)) → T (all_have d h t r) → T (all_have d k t r)
  all_moves = all_across d d h k t r r (λ _. refl)

  pub one_moves : ((a : ℕ) → T (member a (body_of d r)) → T (h a t) → T (k a t)) → T (one_has d h t r) → T (one_has d k t r)
  one_moves = one_across d d h k t r r (λ _. refl)

-- two tests that agree on a rule's antecedents
module _ (d : Theory) (h k : ℕ → ℕ → Bool) (t r : ℕ) (e : (a : ℕ) → T (member a (body_of d r)) → h a t ≡ k a t) where
  pub all_same : all_have d h t r ≡ all_have d k t r
  all_same = test_eq _ _ (all_moves d h k t r (λ a m. subst T (e a m))) (all_moves d k h t r (λ a m. subst T (sym (e a m))))

  pub one_same : one_has d h t r ≡ one_has d k t r
  one_same = test_eq _ _ (one_moves d h k t r (λ a m. subst T (e a m))) (one_moves d k h t r (λ a m. subst T (sym (e a m))))

-- not all antecedents have a tag for one test where one has a tag for another that excludes it
pub all_one : (d : Theory) (h k : ℕ → ℕ → Bool) (t u r : ℕ) → ((a : ℕ) → T (h a t) → T (k a u) → ⊥) → T (all_have d h t r) → T (one_has d k u r) → ⊥
unfolding all_have one_has
all_one d h k t u r f v w = let (a, m, z) = some_of_elim (body_of d r) (λ b. k b u) w in f a (every_of_elim (body_of d r) (λ b. h b t) v a m) z

-- of nothing, a rule with antecedents has all of no tag, and no rule has one
pub all_nothing : (d : Theory) (h : ℕ → ℕ → Bool) (t r : ℕ) → ((a : ℕ) → T (h a t) → ⊥) → T (isnt (empty (body_of d r))) → T (all_have d h t r) → ⊥
unfolding all_have
all_nothing d h t r n e u = let (a, m) = filled_elim (body_of d r) e in n a (every_of_elim (body_of d r) (λ b. h b t) u a m)

pub one_nothing : (d : Theory) (h : ℕ → ℕ → Bool) (t r : ℕ) → ((a : ℕ) → T (h a t) → ⊥) → T (one_has d h t r) → ⊥
unfolding one_has
one_nothing d h t r n u = let (a, m, v) = some_of_elim (body_of d r) (λ b. h b t) u in n a v
