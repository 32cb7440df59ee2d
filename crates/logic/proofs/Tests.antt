-- Laws of the tests, quantifiers and sums of specs/Tests.antt. Assumes nothing.
use Prim.Native.Nat.{ℕ, zero, suc, ◌+◌, ◌≤◌, ◌<◌}
use native.Mathlib.Nat.{le_refl, le_step, not-suc-le-zero, zero-lt-suc, le_of_suc-le-suc, lt_of_not-le}
use native.Mathlib.Numerals.{add-one}
use mathlib.Core.Path.{◌≡◌, refl, sym, ◌∙◌, ap, ap₂, subst}
use mathlib.Core.Logic.{◌⊎◌, inl, inr, ⊎_elim}
use mathlib.Core.Bool.{Bool, true, false, cond, not}
use mathlib.Core.List.{List, [], ◌∷◌}
use lib.Arith.{lt_of_le-ne}
use lib.Dec.{T, leb, leb→le, le→leb, ltb, lt→ltb, eqb, eqb→eq, eqb_refl, eqb-suc-zero}
use Rattle.logic.specs.Tests.{◌and◌, ◌or◌, isnt, ◌implies◌, every, some, every_of, some_of, member, empty}

-- a test passes or does not
pub test_cases : (b : Bool) → T b ⊎ (T b → ⊥)
test_cases true = inl tt
test_cases false = inr (λ t. t)

pub true_of : (b : Bool) → T b → b ≡ true
true_of true t = refl
true_of false t = absurd t

pub false_of : (b : Bool) → (T b → ⊥) → b ≡ false
false_of true n = absurd (n tt)
false_of false n = refl

pub of_true : (b : Bool) → b ≡ true → T b
of_true b e = subst T (sym e) tt

pub of_false : (b : Bool) → b ≡ false → T b → ⊥
of_false b e t = subst T e t

-- two tests that pass together are equal
pub test_eq : (a b : Bool) → (T a → T b) → (T b → T a) → a ≡ b
test_eq true true f g = refl
test_eq true false f g = absurd (f tt)
test_eq false true f g = absurd (g tt)
test_eq false false f g = refl

-- a choice by a test, by cases
pub cond_cases {ℓ} : {A : Type 0} (P : A → Type ℓ) (b : Bool) (x y : A) → (T b → P x) → ((T b → ⊥) → P y) → P (cond b x y)
cond_cases P true x y f g = f tt
cond_cases P false x y f g = g (λ t. t)

pub cond_true : {A : Type 0} (b : Bool) (x y : A) → T b → cond b x y ≡ x
cond_true b x y t = ap (λ c. cond c x y) (true_of b t)

pub cond_false : {A : Type 0} (b : Bool) (x y : A) → (T b → ⊥) → cond b x y ≡ y
cond_false b x y n = ap (λ c. cond c x y) (false_of b n)

-- a number is at most another, or above it
pub at_most : (a b : ℕ) → (a ≤ b) ⊎ (b < a)
at_most a b = ⊎_elim (λ t. inl (leb→le a b t)) (λ n. inr (lt_of_not-le (λ h. n (le→leb a b h)))) (test_cases (leb a b))

pub empty_nil : (l : List ℕ) → T (empty l) → l ≡ []
unfolding empty
empty_nil [] t = refl
empty_nil (x ∷ l) t = absurd t

pub nil_empty : (l : List ℕ) → l ≡ [] → T (empty l)
unfolding empty
nil_empty l e = subst (λ k. T (empty k)) (sym e) tt

pub eq→eqb : (m n : ℕ) → m ≡ n → T (eqb m n)
eq→eqb m n e = subst (λ k. T (eqb m k)) e (eqb_refl m)

pub and_intro : (a b : Bool) → T a → T b → T (a and b)
unfolding ◌and◌
and_intro true b s t = t
and_intro false b s t = absurd s

pub and_left : (a b : Bool) → T (a and b) → T a
unfolding ◌and◌
and_left true b t = tt
and_left false b t = absurd t

pub and_right : (a b : Bool) → T (a and b) → T b
unfolding ◌and◌
and_right true b t = t
and_right false b t = absurd t

pub or_left : (a b : Bool) → T a → T (a or b)
unfolding ◌or◌
or_left true b t = tt
or_left false b t = absurd t

pub or_right : (a b : Bool) → T b → T (a or b)
unfolding ◌or◌
or_right true b t = tt
or_right false b t = t

pub or_elim : (a b : Bool) → T (a or b) → T a ⊎ T b
unfolding ◌or◌
or_elim true b t = inl tt
or_elim false b t = inr t

pub isnt_intro : (a : Bool) → (T a → ⊥) → T (isnt a)
unfolding isnt
isnt_intro true n = absurd (n tt)
isnt_intro false n = tt

pub isnt_elim : (a : Bool) → T (isnt a) → T a → ⊥
unfolding isnt
isnt_elim true t u = t
isnt_elim false t u = u

pub implies_intro : (a b : Bool) → (T a → T b) → T (a implies b)
implies_intro a b f = ⊎_elim (λ t. or_right (isnt a) b (f t)) (λ n. or_left (isnt a) b (isnt_intro a n)) (test_cases a)

pub implies_elim : (a b : Bool) → T (a implies b) → T a → T b
implies_elim a b t u = ⊎_elim (λ n. absurd (isnt_elim a n u)) (λ v. v) (or_elim (isnt a) b t)

-- a number below suc n is below n, or is n
pub lt_suc_cases : (k n : ℕ) → k < suc n → (k < n) ⊎ (k ≡ n)
lt_suc_cases k n h =
    ⊎_elim (λ t. inr (eqb→eq k n t)) (λ no_eq. inl (lt_of_le-ne (le_of_suc-le-suc h) (λ e. no_eq (eq→eqb k n e)))) (test_cases (eqb k n))

pub every_intro : (n : ℕ) (p : ℕ → Bool) → ((k : ℕ) → k < n → T (p k)) → T (every n p)
unfolding every
every_intro zero p f = tt
every_intro (suc n) p f = and_intro _ _ (every_intro n p (λ k h. f k (le_step h))) (f n (le_refl (suc n)))

pub every_elim : (n : ℕ) (p : ℕ → Bool) → T (every n p) → (k : ℕ) → k < n → T (p k)
unfolding every
every_elim zero p t k h = absurd (not-suc-le-zero h)
every_elim (suc n) p t k h =
    ⊎_elim (every_elim n p (and_left _ _ t) k) (λ e. subst (λ i. T (p i)) (sym e) (and_right _ _ t)) (lt_suc_cases k n h)

pub some_intro : (n : ℕ) (p : ℕ → Bool) (k : ℕ) → k < n → T (p k) → T (some n p)
unfolding some
some_intro zero p k h t = absurd (not-suc-le-zero h)
some_intro (suc n) p k h t =
    ⊎_elim (λ l. or_left _ _ (some_intro n p k l t)) (λ e. or_right _ _ (subst (λ i. T (p i)) e t)) (lt_suc_cases k n h)

pub some_elim : (n : ℕ) (p : ℕ → Bool) → T (some n p) → (k : ℕ) × (k < n) × T (p k)
unfolding some
some_elim zero p t = absurd t
some_elim (suc n) p t =
    ⊎_elim (λ u. let (k, h, v) = some_elim n p u in (k, le_step h, v)) (λ u. (n, le_refl (suc n), u)) (or_elim _ _ t)

-- what a search gives: found at k, or nowhere
pub some_found : (n : ℕ) (p : ℕ → Bool) (k : ℕ) → k < n → T (p k) → true ≡ some n p
some_found n p k h t = sym (true_of _ (some_intro n p k h t))

pub some_none : (n : ℕ) (p : ℕ → Bool) → ((k : ℕ) → k < n → T (p k) → ⊥) → false ≡ some n p
some_none n p f = sym (false_of _ (λ t. let (k, h, u) = some_elim n p t in f k h u))

-- one number more
pub some_next : (p : ℕ → Bool) (i : ℕ) {a x y : Bool} → a ≡ some i p → x ≡ p i → y ≡ a or x → y ≡ some (i + 1) p
unfolding some
some_next p i e f g = g ∙ ap₂ ◌or◌ e f ∙ sym (ap (λ k. some k p) (add-one i))

-- two tests that agree below n
pub some_same : (n : ℕ) (p q : ℕ → Bool) → ((k : ℕ) → k < n → p k ≡ q k) → some n p ≡ some n q
unfolding some
some_same zero p q e = refl
some_same (suc n) p q e = ap₂ ◌or◌ (some_same n p q (λ k h. e k (le_step h))) (e n (le_refl (suc n)))

pub every_of_intro : (l : List ℕ) (p : ℕ → Bool) → ((x : ℕ) → T (member x l) → T (p x)) → T (every_of l p)
unfolding every_of some_of
every_of_intro [] p f = tt
every_of_intro (x ∷ l) p f =
    and_intro _ _ (f x (or_left _ _ (eqb_refl x))) (every_of_intro l p (λ y m. f y (or_right (eqb y x) _ m)))

pub some_of_intro : (l : List ℕ) (p : ℕ → Bool) (x : ℕ) → T (member x l) → T (p x) → T (some_of l p)
unfolding some_of
some_of_intro [] p x m t = absurd m
some_of_intro (y ∷ l) p x m t =
    ⊎_elim (λ e. or_left _ _ (subst (λ i. T (p i)) (eqb→eq x y e) t)) (λ u. or_right _ _ (some_of_intro l p x u t)) (or_elim (eqb x y) _ m)

pub some_of_elim : (l : List ℕ) (p : ℕ → Bool) → T (some_of l p) → (x : ℕ) × T (member x l) × T (p x)
unfolding some_of
some_of_elim [] p t = absurd t
some_of_elim (y ∷ l) p t =
    ⊎_elim (λ u. (y, or_left (eqb y y) _ (eqb_refl y), u)) (λ u. let (x, m, v) = some_of_elim l p u in (x, or_right (eqb x y) _ m, v))
    (or_elim _ _ t)

pub every_of_elim : (l : List ℕ) (p : ℕ → Bool) → T (every_of l p) → (x : ℕ) → T (member x l) → T (p x)
unfolding every_of some_of
every_of_elim [] p t x m = absurd m
every_of_elim (y ∷ l) p t x m =
    ⊎_elim (λ e. subst (λ i. T (p i)) (sym (eqb→eq x y e)) (and_left _ _ t)) (λ u. every_of_elim l p (and_right _ _ t) x u) (or_elim (eqb x y) _ m)

-- tests that are equal
pub and_true : (a b : Bool) → T b → (a and b) ≡ a
and_true a b t = test_eq _ _ (and_left a b) (λ s. and_intro a b s t)

pub and_swap : (a b : Bool) → a and b ≡ b and a
and_swap a b = test_eq _ _ (λ t. and_intro b a (and_right a b t) (and_left a b t)) (λ t. and_intro a b (and_right b a t) (and_left b a t))

-- what is tested under a guard may be shown under it
pub and_under : (a b c : Bool) → (T a → b ≡ c) → (a and b) ≡ (a and c)
unfolding ◌and◌
and_under true b c f = f tt
and_under false b c f = refl

pub or_false : (a c : Bool) → (T c → ⊥) → (a or c) ≡ a
or_false a c n = test_eq _ _ (λ t. ⊎_elim (λ u. u) (λ u. absurd (n u)) (or_elim a c t)) (or_left a c)

pub false_or : (a b : Bool) → (T a → ⊥) → b ≡ (a or b)
false_or a b n = test_eq _ _ (or_right a b) (λ t. ⊎_elim (λ u. absurd (n u)) (λ u. u) (or_elim a b t))

pub true_or : (a b : Bool) → T a → true ≡ (a or b)
true_or a b t = sym (true_of _ (or_left a b t))

-- a count is 0 or above 0
pub none_above : (n : ℕ) → isnt (ltb 0 n) ≡ eqb n 0
unfolding isnt
none_above zero = refl
none_above (suc n) = ap isnt (true_of (ltb 0 (suc n)) (lt→ltb 0 (suc n) (zero-lt-suc n))) ∙ sym (eqb-suc-zero n)

-- the library's negation
pub not_isnt : (b : Bool) → not b ≡ isnt b
unfolding isnt
not_isnt true = refl
not_isnt false = refl
