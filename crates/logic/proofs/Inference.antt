-- Document 01's inference rules, and what the searches of document 02, S-9, ask: they come across, and the rules are opposed. Assumes nothing.
use Prim.Native.Nat.{ℕ, zero, suc, ◌+◌, ◌*◌, ◌<◌}
use native.Mathlib.Omega.{arith}
use mathlib.Core.Path.{◌≡◌, sym, ◌∙◌, ap, subst}
use mathlib.Core.Logic.{inl, inr, ⊎_elim}
use mathlib.Core.Bool.{Bool}
use lib.Dec.{T, eqb, eqb→eq, eqb_refl}
use Rattle.logic.specs.Tests.{◌and◌, ◌or◌, isnt, member}
use Rattle.logic.specs.Theory.{Theory, Kind, complement, is_strict, can_support, kind_of, head_of, body_of, strict_for, supporter, attacker, superior}
use Rattle.logic.specs.Inference.{+Δ, −Δ, +∂, −∂, all_have, one_has, definitely, not_definitely_by, not_definitely, countered, defeasibly, uncountered, not_defeasibly_by, not_defeasibly, follows}
use Rattle.logic.specs.Unfounded.{has_or_in, unfounded}
use Rattle.logic.specs.Reading.{visits, candidates, family_of}
use Rattle.logic.specs.Correspondence.{Corresponds}
use Rattle.logic.proofs.Tests.{and_intro, and_left, and_right, or_left, or_right, or_elim, isnt_elim, implies_elim, every_elim, some_elim}
use Rattle.logic.proofs.Candidates.{candidate_self, candidate_complement, candidate_head}
use Rattle.logic.proofs.Bodies.{all_across, one_across, one_moves, all_one}
use Rattle.logic.proofs.Correspondence.{itself, itself_number, corresponds_self, Asked, some_across, both_across, every_across}

-- what is asked of a strict rule for q, of a supporter and of an attacker
strictly : (q : ℕ) → Asked q 0 (λ n p. is_strict n and eqb p q)
strictly q = record { heads = λ n p t. inl (eqb→eq _ _ (and_right _ _ t)); visited = λ n p t. or_right _ _ (and_left _ _ t) }

supports : (q : ℕ) → Asked q 1 (λ n p. can_support n and eqb p q)
unfolding isnt
supports q = record { heads = λ n p t. inl (eqb→eq _ _ (and_right _ _ t)); visited = λ n p t. or_left _ _ tt }

attacks : (q : ℕ) → Asked q 1 (λ n p. eqb p (complement q))
unfolding isnt
attacks q = record { heads = λ n p t. inr (eqb→eq _ _ t); visited = λ n p t. or_left _ _ tt }

pub attacker_head : (d : Theory) (r q : ℕ) → T (attacker d r q) → head_of d r ≡ complement q
unfolding attacker
attacker_head d r q t = eqb→eq _ _ t

-- from one theory to another that corresponds to it within a set that has q, where what is held moves for each conclusion that has q among its candidates
module _ {d k : Theory} {within : ℕ → Bool} {like : ℕ → ℕ → Bool} (c : Corresponds d k within like) (h g : ℕ → ℕ → Bool) (q : ℕ) (i : T (within q))
    (f : (a u : ℕ) → u < 4 → T (member q (candidates d (family_of u) a)) → T (h a u) → T (g a u)) where
  -- what is held of q, and of its complement
  self : (u : ℕ) → u < 4 → T (h q u) → T (g q u)
  self u b = f q u b (candidate_self d (family_of u) q)

  other : (u : ℕ) → u < 4 → T (h (complement q) u) → T (g (complement q) u)
  other u b = f (complement q) u b (candidate_complement d (family_of u) q)

  -- an antecedent of a rule that is asked, then all of them and one of them, which the like rule has too
  antecedent : (u : ℕ) → u < 4 → {x : Kind → ℕ → Bool} → Asked q (family_of u) x → (r : ℕ) → r < d.rules → T (x (kind_of d r) (head_of d r))
      → (a : ℕ) → T (member a (body_of d r)) → T (h a u) → T (g a u)
  unfolding visits
  antecedent u b v r e y a m = f a u b (candidate_head d (family_of u) q a r e (and_intro _ _ m (v.visited _ _ y)) (v.heads _ _ y))

  all_like : (u : ℕ) → u < 4 → {x : Kind → ℕ → Bool} → Asked q (family_of u) x → (r s : ℕ) → T (like r s) → T (x (kind_of d r) (head_of d r))
      → T (all_have d h u r) → T (all_have k g u s)
  all_like u b v r s l y = all_across d k h g u r s (λ a. c.bodies r s a l) (antecedent u b v r (c.below r s l).0 y)

  one_like : (u : ℕ) → u < 4 → {x : Kind → ℕ → Bool} → Asked q (family_of u) x → (r s : ℕ) → T (like r s) → T (x (kind_of d r) (head_of d r))
      → T (one_has d h u r) → T (one_has k g u s)
  one_like u b v r s l y = one_across d k h g u r s (λ a. c.bodies r s a l) (antecedent u b v r (c.below r s l).0 y)

  -- like rules have the same superiority, where a supporter stands against an attacker
  over_like : (t s u v : ℕ) → T (like t u) → T (like s v) → T (supporter d t q) → T (attacker d s q) → superior d t s ≡ superior k u v
  unfolding supporter
  over_like t s u v l m y z = c.pairs t s u v l m (attacker_head d s q z ∙ ap complement (sym (eqb→eq _ _ (and_right _ _ y))))

  -- each inference rule
  across_definitely : T (definitely d h q) → T (definitely k g q)
  unfolding strict_for
  across_definitely t =
      ⊎_elim (λ u. or_left _ _ (subst T (c.facts q i) u))
      (λ u. or_right _ _ (both_across c i (strictly q) _ _ (all_like +Δ (omega arith) (strictly q)) u)) (or_elim _ _ t)

  -- where the test of rules that have an antecedent refuted moves to like rules
  abbrev Moves : (Kind → ℕ → Bool) → (ℕ → Bool) → (ℕ → Bool) → Type 0
  Moves x out out' = (r s : ℕ) → T (like r s) → T (x (kind_of d r) (head_of d r)) → T (out r) → T (out' s)

  pub across_not_definitely_by : (out out' : ℕ → Bool) → Moves (λ n p. is_strict n and eqb p q) out out' → T (not_definitely_by d out q) → T (not_definitely_by k out' q)
  unfolding strict_for
  across_not_definitely_by out out' o t =
      and_intro _ _ (subst (λ b. T (isnt b)) (c.facts q i) (and_left _ _ t)) (every_across c i (strictly q) out out' o (and_right _ _ t))

  across_countered : (s v : ℕ) → T (like s v) → T (attacker d s q) → T (countered d h q s) → T (countered k g q v)
  unfolding supporter attacker
  across_countered s v m z t =
      ⊎_elim (λ e. or_left _ _ (one_like −∂ (omega arith) (attacks q) s v m z e))
      (λ e. or_right _ _ (some_across c i (supports q) _ _ (λ r w. and_left _ _ (and_left _ _ w))
      (λ r u l y w. let x = and_left _ _ (and_left _ _ w) in
      and_intro _ _ (and_intro _ _ y (all_like +∂ (omega arith) (supports q) r u l x (and_right _ _ (and_left _ _ w))))
      (subst T (over_like r s u v l m x z) (and_right _ _ w))) e))
      (or_elim _ _ t)

  across_defeasibly : T (defeasibly d h q) → T (defeasibly k g q)
  unfolding supporter attacker
  across_defeasibly t =
      ⊎_elim (λ u. or_left _ _ (self +Δ (omega arith) u))
      (λ u. or_right _ _ (and_intro _ _
      (and_intro _ _ (both_across c i (supports q) _ _ (all_like +∂ (omega arith) (supports q)) (and_left _ _ (and_left _ _ u)))
      (other −Δ (omega arith) (and_right _ _ (and_left _ _ u))))
      (every_across c i (attacks q) _ _ across_countered (and_right _ _ u)))) (or_elim _ _ t)

  across_uncountered : (s v : ℕ) → T (like s v) → T (attacker d s q) → T (uncountered d h q s) → T (uncountered k g q v)
  unfolding supporter attacker
  across_uncountered s v m z t =
      and_intro _ _ (all_like +∂ (omega arith) (attacks q) s v m z (and_left _ _ t))
      (every_across c i (supports q) _ _ (λ r u l y w. ⊎_elim (λ e. or_left _ _ (one_like −∂ (omega arith) (supports q) r u l y e))
      (λ e. or_right _ _ (subst (λ b. T (isnt b)) (over_like r s u v l m y z) e)) (or_elim _ _ w)) (and_right _ _ t))

  pub across_not_defeasibly_by : (out out' : ℕ → Bool) → Moves (λ n p. can_support n and eqb p q) out out' → T (not_defeasibly_by d h out q) → T (not_defeasibly_by k g out' q)
  unfolding supporter attacker
  across_not_defeasibly_by out out' o t =
      and_intro _ _ (self −Δ (omega arith) (and_left _ _ t))
      (⊎_elim
      (λ u. or_left _ _ (⊎_elim (λ v. or_left _ _ (every_across c i (supports q) out out' o v))
      (λ v. or_right _ _ (other +Δ (omega arith) v)) (or_elim _ _ u)))
      (λ u. or_right _ _ (both_across c i (attacks q) _ _ across_uncountered u)) (or_elim _ _ (and_right _ _ t)))

  pub across_follows : (t : ℕ) → T (follows d h q t) → T (follows k g q t)
  unfolding follows
  across_follows zero = across_definitely
  across_follows (suc zero) = across_not_definitely_by _ _ (one_like −Δ (omega arith) (strictly q))
  across_follows (suc (suc zero)) = across_defeasibly
  across_follows (suc (suc (suc t))) = across_not_defeasibly_by _ _ (one_like −∂ (omega arith) (supports q))

-- what a search asks of a literal comes across too, with its set
module _ {d k : Theory} {within : ℕ → Bool} {like : ℕ → ℕ → Bool} (c : Corresponds d k within like) (h g : ℕ → ℕ → Bool) (x y : ℕ → Bool) (q : ℕ) (i : T (within q))
    (f : (a u : ℕ) → u < 4 → T (member q (candidates d (family_of u) a)) → T (h a u) → T (g a u))
    (e : (a u : ℕ) → u < 4 → T (member q (candidates d (family_of u) a)) → T (x a) → T (y a)) where
  either_moves : (a u : ℕ) → u < 4 → T (member q (candidates d (family_of u) a)) → T (h a u or x a) → T (g a u or y a)
  either_moves a u b m t = ⊎_elim (λ v. or_left _ _ (f a u b m v)) (λ v. or_right _ _ (e a u b m v)) (or_elim _ _ t)

  pub across_unfounded : (j : ℕ) → T (unfounded d h x j q) → T (unfounded k g y j q)
  unfolding unfounded
  across_unfounded zero = across_not_definitely_by c h g q i f _ _ (one_like c (λ a u. h a u or x a) (λ a u. g a u or y a) q i either_moves −Δ (omega arith) (strictly q))
  across_unfounded (suc j) = across_not_defeasibly_by c h g q i f _ _ (one_like c (λ a u. h a u or x a) (λ a u. g a u or y a) q i either_moves −∂ (omega arith) (supports q))

-- each member of a set follows, refuted, from what is held with the set
module _ (d : Theory) (h : ℕ → ℕ → Bool) (x : ℕ → Bool) (t q : ℕ) where
  -- what is held, and the tag of the set's members
  abbrev also : ℕ → ℕ → Bool
  also a u = h a u or (eqb u t and x a)

  one_also : (r s : ℕ) → T (itself d r s) → T (has_or_in d h x t r) → T (one_has d also t s)
  one_also r s l v =
      subst (λ j. T (one_has d also t j)) (itself_number d r s l)
      (one_moves d (λ a u. h a u or x a) also t r (λ a _ w. ⊎_elim (λ n. or_left _ _ n) (λ n. or_right _ _ (and_intro _ _ (eqb_refl t) n)) (or_elim _ _ w)) v)

  pub unfoundedΔ_follows : T (not_definitely_by d (has_or_in d h x t) q) → T (not_definitely_by d (one_has d also t) q)
  unfoundedΔ_follows = across_not_definitely_by (corresponds_self d) h also q tt (λ a u _ _ v. or_left _ _ v) _ _ (λ r s l _. one_also r s l)

  pub unfounded∂_follows : T (not_defeasibly_by d h (has_or_in d h x t) q) → T (not_defeasibly_by d also (one_has d also t) q)
  unfounded∂_follows = across_not_defeasibly_by (corresponds_self d) h also q tt (λ a u _ _ v. or_left _ _ v) _ _ (λ r s l _. one_also r s l)

pub unfounded_follows : (d : Theory) (h : ℕ → ℕ → Bool) (x : ℕ → Bool) (i q : ℕ) → i < 2 → T (unfounded d h x i q)
    → T (follows d (λ a u. h a u or (eqb u (2 * i + 1) and x a)) q (2 * i + 1))
unfolding unfounded follows
unfounded_follows d h x zero q b = unfoundedΔ_follows d h x −Δ q
unfounded_follows d h x (suc zero) q b = unfounded∂_follows d h x −∂ q
unfounded_follows d h x (suc (suc i)) q b = absurd (omega arith)

-- from two tests of which neither holds the opposite of what the other holds
module _ (d : Theory) (h k : ℕ → ℕ → Bool) (c : (q f : ℕ) → f < 2 → T (h q (2 * f)) → T (k q (2 * f + 1)) → ⊥)
    (e : (q f : ℕ) → f < 2 → T (k q (2 * f)) → T (h q (2 * f + 1)) → ⊥) where
  never_Δ : (q : ℕ) → T (h q +Δ) → T (k q −Δ) → ⊥
  never_Δ q = c q 0 (omega arith)

  never_Δ_back : (q : ℕ) → T (k q +Δ) → T (h q −Δ) → ⊥
  never_Δ_back q = e q 0 (omega arith)

  never_∂ : (q : ℕ) → T (h q +∂) → T (k q −∂) → ⊥
  never_∂ q = c q 1 (omega arith)

  never_∂_back : (q : ℕ) → T (k q +∂) → T (h q −∂) → ⊥
  never_∂_back q = e q 1 (omega arith)

  opposed_Δ : (q : ℕ) → T (definitely d h q) → T (not_definitely d k q) → ⊥
  opposed_Δ q t u =
      ⊎_elim (isnt_elim _ (and_left _ _ u))
      (λ v. let (r, b, w) = some_elim _ _ v in
      all_one d h k +Δ −Δ r never_Δ (and_right _ _ w) (implies_elim _ _ (every_elim _ _ (and_right _ _ u) r b) (and_left _ _ w)))
      (or_elim _ _ t)

  -- an attacker is not both countered and uncountered
  opposed_attack : (q s : ℕ) → T (countered d h q s) → T (uncountered d k q s) → ⊥
  opposed_attack q s t u =
      ⊎_elim (all_one d k h +∂ −∂ s never_∂_back (and_left _ _ u))
      (λ v. let (r, b, w) = some_elim _ _ v in
      ⊎_elim (all_one d h k +∂ −∂ r never_∂ (and_right _ _ (and_left _ _ w))) (λ n. isnt_elim _ n (and_right _ _ w))
      (or_elim _ _ (implies_elim _ _ (every_elim _ _ (and_right _ _ u) r b) (and_left _ _ (and_left _ _ w)))))
      (or_elim _ _ t)

  opposed_∂ : (q : ℕ) → T (defeasibly d h q) → T (not_defeasibly d k q) → ⊥
  opposed_∂ q t u =
      ⊎_elim (λ v. never_Δ q v (and_left _ _ u))
      (λ v. let (r, b, w) = some_elim _ _ (and_left _ _ (and_left _ _ v)) in
      ⊎_elim
      (⊎_elim (λ n. all_one d h k +∂ −∂ r never_∂ (and_right _ _ w) (implies_elim _ _ (every_elim _ _ n r b) (and_left _ _ w)))
      (λ n. never_Δ_back (complement q) n (and_right _ _ (and_left _ _ v))))
      (λ n. let (s, l, y) = some_elim _ _ n in
      opposed_attack q s (implies_elim _ _ (every_elim _ _ (and_right _ _ v) s l) (and_left _ _ y)) (and_right _ _ y))
      (⊎_elim (λ n. inl (or_elim _ _ n)) (λ n. inr n) (or_elim _ _ (and_right _ _ u))))
      (or_elim _ _ t)

  pub opposed_follows : (q f : ℕ) → f < 2 → T (follows d h q (2 * f)) → T (follows d k q (2 * f + 1)) → ⊥
  unfolding follows
  opposed_follows q zero b = opposed_Δ q
  opposed_follows q (suc zero) b = opposed_∂ q
  opposed_follows q (suc (suc f)) b = absurd (omega arith)
