-- Counts as tests: a count is above 0 where some number passes, and two counts are equal where every number passes. Assumes nothing.
use Prim.Native.Nat.{ℕ, zero, suc, ◌+◌, ◌≤◌, ◌<◌}
use native.Mathlib.Nat.{add-zero}
use native.Mathlib.Omega.{arith}
use mathlib.Core.Path.{◌≡◌, refl, sym, ◌∙◌, ap, subst}
use mathlib.Core.Logic.{⊎_elim}
use mathlib.Core.Bool.{Bool, true, false, cond}
use mathlib.Core.List.{List, [], ◌∷◌}
use lib.Dec.{T, ltb, lt→ltb, eqb, eqb→eq, eqb-suc-suc}
use lib.ListN.{length}
use borrow.Author.Tests.{ne_eqb, lt-ltb}
use Rattle.logic.specs.Tests.{◌and◌, ◌or◌, ◌implies◌, every, some, every_of, some_of, total, weigh, count_below, pick}
use Rattle.logic.proofs.Tests.{and_intro, and_left, and_right, eq→eqb, implies_elim, implies_intro, or_elim, or_left, or_right, test_cases, test_eq}
use Rattle.logic.proofs.Sums.{total_ext, total_le, weigh_false, weigh_imply, weigh_true}
use Rattle.logic.proofs.Lists.{pick_le}

pub count_ext : (n : ℕ) (p q : ℕ → Bool) → ((k : ℕ) → k < n → p k ≡ q k) → count_below n p ≡ count_below n q
count_ext n p q e = total_ext n _ _ (λ k h. ap (λ b. weigh b 1) (e k h))

-- one number more
some_step : (c : ℕ) (s b : Bool) → ltb 0 c ≡ s → ltb 0 (c + weigh b 1) ≡ (s or b)
some_step c s true e =
    test_eq (ltb 0 (c + weigh true 1)) (s or true) (λ _. or_right s true tt) (λ _. lt→ltb 0 (c + weigh true 1) (let z : weigh true 1 ≡ 1 = weigh_true true 1 tt in omega arith))
some_step c s false e =
    ap (ltb 0) (ap (c +◌) (weigh_false false 1 (λ t. t)) ∙ add-zero c) ∙ e ∙ test_eq s (s or false) (or_left s false) (λ t. ⊎_elim (λ u. u) (λ u. absurd u) (or_elim s false t))

pub count_some : (n : ℕ) (p : ℕ → Bool) → ltb 0 (count_below n p) ≡ some n p
unfolding total some
count_some zero p = refl
count_some (suc n) p = some_step (count_below n p) (some n p) (p n) (count_some n p)

every_step : (x y : ℕ) (s a c : Bool) → x ≤ y → eqb x y ≡ s → eqb (x + weigh (a and c) 1) (y + weigh a 1) ≡ (s and (a implies c))
every_step x y s a c l e = test_eq (eqb (x + weigh (a and c) 1) (y + weigh a 1)) (s and (a implies c)) there back
  where
    less : weigh (a and c) 1 ≤ weigh a 1
    less = weigh_imply (a and c) a 1 (and_left a c)

    there : T (eqb (x + weigh (a and c) 1) (y + weigh a 1)) → T (s and (a implies c))
    there t =
        let g : x + weigh (a and c) 1 ≡ y + weigh a 1 = eqb→eq _ _ t in
        let i : x ≡ y = omega (arith, less) in
        and_intro s (a implies c) (subst T e (eq→eqb x y i))
        (implies_intro a c (λ u. ⊎_elim (λ v. v) (λ n. absurd (omega (arith, weigh_true a 1 u, weigh_false (a and c) 1 (λ v. n (and_right a c v))))) (test_cases c)))

    back : T (s and (a implies c)) → T (eqb (x + weigh (a and c) 1) (y + weigh a 1))
    back t =
        let g : x ≡ y = eqb→eq x y (subst T (sym e) (and_left s (a implies c) t)) in
        let more : weigh a 1 ≤ weigh (a and c) 1 = weigh_imply a (a and c) 1 (λ u. and_intro a c u (implies_elim a c (and_right s (a implies c) t) u)) in
        eq→eqb (x + weigh (a and c) 1) (y + weigh a 1) (omega (arith, less))

pub count_every : (n : ℕ) (a c : ℕ → Bool) → eqb (count_below n (λ k. a k and c k)) (count_below n a) ≡ every n (λ k. a k implies c k)
unfolding total every
count_every zero a c = refl
count_every (suc n) a c =
    every_step (count_below n (λ k. a k and c k)) (count_below n a) (every n (λ k. a k implies c k)) (a n) (c n)
    (total_le n _ _ (λ k _. weigh_imply (a k and c k) (a k) 1 (and_left (a k) (c k)))) (count_every n a c)

all_step : (x : ℕ) (l m : List ℕ) (b s : Bool) → eqb (length m) (length l) ≡ s → length m ≤ length l
    → eqb (length (cond b (x ∷ m) m)) (suc (length l)) ≡ (b and s)
unfolding ◌and◌
all_step x l m true s e h = eqb-suc-suc (length m) (length l) ∙ e
all_step x l m false s e h = ne_eqb (length m) (suc (length l)) (λ i. omega arith)

pub pick_all : (l : List ℕ) (p : ℕ → Bool) → eqb (length (pick l p)) (length l) ≡ every_of l p
unfolding pick every_of
pick_all [] p = refl
pick_all (x ∷ l) p = all_step x l (pick l p) (p x) (every_of l p) (pick_all l p) (pick_le l p)

one_step : (x : ℕ) (m : List ℕ) (b s : Bool) → ltb 0 (length m) ≡ s → ltb 0 (length (cond b (x ∷ m) m)) ≡ (b or s)
unfolding ◌or◌
one_step x m true s e = lt-ltb 0 (suc (length m)) (omega arith)
one_step x m false s e = e

pub pick_one : (l : List ℕ) (p : ℕ → Bool) → ltb 0 (length (pick l p)) ≡ some_of l p
unfolding pick some_of
pick_one [] p = refl
pick_one (x ∷ l) p = one_step x (pick l p) (p x) (some_of l p) (pick_one l p)
