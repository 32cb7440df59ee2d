-- A distinct list of numbers below n has at most n elements. Assumes nothing.
use Prim.Native.Nat.{ℕ, suc, ◌+◌, ◌≤◌, ◌<◌}
use native.Mathlib.Omega.{arith}
use native.Mathlib.Nat.{le_antisymm, le_of_eq, lt_irrefl, lt_of_lt_of_le, le_of_suc-le-suc}
use mathlib.Core.Path.{◌≡◌, refl, sym, ◌∙◌, ap, subst}
use mathlib.Core.Logic.{⊎_elim}
use mathlib.Core.Bool.{Bool}
use mathlib.Core.List.{List, [], ◌∷◌}
use lib.Dec.{T, eqb, eqb→eq, eqb_refl}
use lib.ListN.{length}
use Rattle.logic.specs.Tests.{member, distinct, weigh, count_below}
use Rattle.logic.proofs.Tests.{at_most, test_eq, and_left, and_right, isnt_elim}
use Rattle.logic.proofs.Lists.{member_here, member_there, member_cons_elim, member_nil}
use Rattle.logic.proofs.Sums.{total_le, total_const, total_zero, total_point, total_next, weigh_true, weigh_false, weigh_le}

-- at most n numbers below n pass a test
pub count_le : (n : ℕ) (p : ℕ → Bool) → count_below n p ≤ n
count_le n p = omega (arith, total_le n (λ k. weigh (p k) 1) (λ _. 1) (λ k _. weigh_le (p k) 1), total_const n 1)

-- one more element counts once
count_cons : (n x : ℕ) (l : List ℕ) → x < n → (T (member x l) → ⊥)
    → count_below n (λ k. member k (x ∷ l)) ≡ count_below n (λ k. member k l) + 1
count_cons n x l h new = total_point n (λ k. weigh (member k l) 1) (λ k. weigh (member k (x ∷ l)) 1) x 1 h here other
  where
    here : weigh (member x (x ∷ l)) 1 ≡ weigh (member x l) 1 + 1
    here = omega (arith, weigh_true (member x (x ∷ l)) 1 (member_here x l), weigh_false (member x l) 1 new)

    other : (k : ℕ) → k < n → (k ≡ x → ⊥) → weigh (member k (x ∷ l)) 1 ≡ weigh (member k l) 1
    other k _ no_eq = ap (λ b. weigh b 1)
        (test_eq _ _ (λ m. ⊎_elim (λ e. absurd (no_eq e)) (λ u. u) (member_cons_elim k x l m)) (member_there k x l))

-- a distinct list of numbers below n is as long as its numbers below n are many
pub distinct_count : (n : ℕ) (l : List ℕ) → T (distinct l) → ((x : ℕ) → T (member x l) → x < n) → length l ≡ count_below n (λ k. member k l)
unfolding distinct
distinct_count n [] t b = sym (total_zero n _ (λ k _. weigh_false _ 1 (member_nil k)))
distinct_count n (x ∷ l) t b =
    omega (
      arith,
      distinct_count n l (and_right _ _ t) (λ y m. b y (member_there y x l m)),
      count_cons n x l (b x (member_here x l)) (isnt_elim _ (and_left _ _ t)),
    )

pub pigeon : (n : ℕ) (l : List ℕ) → T (distinct l) → ((x : ℕ) → T (member x l) → x < n) → length l ≤ n
pigeon n l t b = omega (arith, distinct_count n l t b, count_le n (λ k. member k l))

-- a count as a loop keeps it: it is at most the place, goes on by one, and is whole at the end
pub counted_le : (i : ℕ) (p : ℕ → Bool) {n : ℕ} → n ≡ count_below i p → n ≤ i
counted_le i p e = omega (arith, count_le i p)

pub counted_next : (i : ℕ) (p : ℕ → Bool) {n x : ℕ} {t : Bool} → n ≡ count_below i p → x ≡ n + weigh t 1 → t ≡ p i → x ≡ count_below (i + 1) p
counted_next i p e f g = omega (arith, total_next i (λ k. weigh (p k) 1), ap (λ b. weigh b 1) g)

pub counted_all : (i m : ℕ) (p : ℕ → Bool) {n : ℕ} → n ≡ count_below i p → i ≤ m → m ≤ i → n ≡ count_below m p
counted_all i m p e f g = e ∙ ap (λ k. count_below k p) (le_antisymm f g)

-- a number below n is counted once, and another not at all
pub count_is_one : (n x : ℕ) → x < n → count_below n (λ k. eqb x k) ≡ 1
count_is_one n x h =
    omega (
      arith,
      total_zero n (λ _. 0) (λ k _. refl),
      total_point n (λ _. 0) (λ k. weigh (eqb x k) 1) x 1 h (weigh_true (eqb x x) 1 (eqb_refl x))
          (λ k _ o. weigh_false (eqb x k) 1 (λ t. o (sym (eqb→eq x k t)))),
    )

pub count_one : (n x : ℕ) → count_below n (λ k. eqb x k) ≤ 1
count_one n x =
    ⊎_elim (λ h. le_of_eq (count_is_one n x h))
    (λ h. let e : count_below n (λ k. eqb x k) ≡ 0 =
    total_zero n _ (λ k b. weigh_false (eqb x k) 1 (λ t. lt_irrefl x (subst (λ z. z < x) (sym (eqb→eq x k t)) (lt_of_lt_of_le b (le_of_suc-le-suc h))))) in omega arith)
    (at_most (suc x) n)
