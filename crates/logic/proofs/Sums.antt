-- Laws of sums and counts. Assumes nothing.
use Prim.Native.Nat.{ℕ, zero, suc, ◌+◌, ◌*◌, ◌≤◌, ◌<◌}
use native.Mathlib.Nat.{le_refl, le_step, lt_irrefl, add-zero, add-suc, mul-zero, mul-suc, not-suc-le-zero, zero-mul}
use native.Mathlib.Numerals.{add-one}
use native.Mathlib.Omega.{arith}
use mathlib.Core.Path.{◌≡◌, refl, sym, ◌∙◌, ap, ap₂, subst}
use mathlib.Core.Logic.{⊎_elim}
use mathlib.Core.Bool.{Bool, true, false, cond}
use mathlib.Core.List.{List, [], ◌∷◌}
use lib.Dec.{T}
use lib.ListN.{length, length-append}
use Rattle.logic.specs.Tests.{◌and◌, member, distinct, total, weigh, count_below, upto, pick}
use Rattle.logic.proofs.Tests.{test_cases, true_of, false_of, lt_suc_cases}
use Rattle.logic.proofs.Lists.{pick_append, pick_same, pick_more}

pub total_ext : (n : ℕ) (f g : ℕ → ℕ) → ((k : ℕ) → k < n → f k ≡ g k) → total n f ≡ total n g
unfolding total
total_ext zero f g e = refl
total_ext (suc n) f g e = ap₂ ◌+◌ (total_ext n f g (λ k h. e k (le_step h))) (e n (le_refl (suc n)))

pub total_le : (n : ℕ) (f g : ℕ → ℕ) → ((k : ℕ) → k < n → f k ≤ g k) → total n f ≤ total n g
unfolding total
total_le zero f g e = le_refl 0
total_le (suc n) f g e =
    let l : total n f ≤ total n g = total_le n f g (λ k h. e k (le_step h)) in
    let m : f n ≤ g n = e n (le_refl (suc n)) in
    omega arith

pub total_add : (n : ℕ) (f g : ℕ → ℕ) → total n (λ k. f k + g k) ≡ total n f + total n g
unfolding total
total_add zero f g = refl
total_add (suc n) f g = let e : total n (λ k. f k + g k) ≡ total n f + total n g = total_add n f g in omega arith

pub total_const : (n c : ℕ) → total n (λ _. c) ≡ n * c
unfolding total
total_const zero c = sym (zero-mul c)
total_const (suc n) c = let e : total n (λ _. c) ≡ n * c = total_const n c in omega arith

pub total_zero : (n : ℕ) (f : ℕ → ℕ) → ((k : ℕ) → k < n → f k ≡ 0) → total n f ≡ 0
unfolding total
total_zero zero f e = refl
total_zero (suc n) f e = ap₂ ◌+◌ (total_zero n f (λ k h. e k (le_step h))) (e n (le_refl (suc n)))

-- two sums, one inside the other, change places
pub total_swap : (n m : ℕ) (f : ℕ → ℕ → ℕ) → total n (λ i. total m (λ j. f i j)) ≡ total m (λ j. total n (λ i. f i j))
unfolding total
total_swap zero m f = sym (total_zero m (λ j. 0) (λ k h. refl))
total_swap (suc n) m f = ap (◌+ total m (f n)) (total_swap n m f) ∙ sym (total_add m (λ j. total n (λ i. f i j)) (f n))

pub total_split : (a n : ℕ) (f : ℕ → ℕ) → total (a + n) f ≡ total a f + total n (λ t. f (a + t))
unfolding total
total_split a zero f = ap (λ k. total k f) (add-zero a) ∙ sym (add-zero (total a f))
total_split a (suc n) f =
    let e : total (a + n) f ≡ total a f + total n (λ t. f (a + t)) = total_split a n f in
    ap (λ k. total k f) (add-suc a n) ∙ omega arith

-- a sum over numbers n * q + t, by q and then by t
pub total_grid : (n m : ℕ) (f : ℕ → ℕ) → total (n * m) f ≡ total m (λ q. total n (λ t. f (n * q + t)))
unfolding total
total_grid n zero f = ap (λ k. total k f) (mul-zero n)
total_grid n (suc m) f = ap (λ k. total k f) (mul-suc n m) ∙ total_split (n * m) n f ∙ ap (◌+ total n (λ t. f (n * m + t))) (total_grid n m f)

-- where one summand below n grows by w, the sum does
pub total_point : (n : ℕ) (f g : ℕ → ℕ) (x w : ℕ) → x < n → g x ≡ f x + w → ((k : ℕ) → k < n → (k ≡ x → ⊥) → g k ≡ f k)
    → total n g ≡ total n f + w
unfolding total
total_point zero f g x w h e o = absurd (not-suc-le-zero h)
total_point (suc n) f g x w h e o = ⊎_elim (λ l. below l (total_point n f g x w l e (λ k b. o k (le_step b)))) here (lt_suc_cases x n h)
  where
    below : x < n → total n g ≡ total n f + w → total n g + g n ≡ total n f + f n + w
    below l s =
        let last : g n ≡ f n = o n (le_refl (suc n)) (λ i. lt_irrefl n (subst (λ j. j < n) (sym i) l)) in
        omega arith

    here : x ≡ n → total n g + g n ≡ total n f + f n + w
    here i =
        let s : total n g ≡ total n f = total_ext n g f (λ k b. o k (le_step b) (λ j. lt_irrefl k (subst (λ z. k < z) (sym (j ∙ i)) b))) in
        let last : g n ≡ f n + w = subst (λ z. g z ≡ f z + w) i e in
        omega arith

-- the same where the others do not fall
pub total_more : (n : ℕ) (f g : ℕ → ℕ) (x w : ℕ) → x < n → ((k : ℕ) → k < n → f k ≤ g k) → f x + w ≤ g x → total n f + w ≤ total n g
unfolding total
total_more zero f g x w h o e = absurd (not-suc-le-zero h)
total_more (suc n) f g x w h o e =
    ⊎_elim
    (λ l. let m : total n f + w ≤ total n g = total_more n f g x w l (λ k b. o k (le_step b)) e in let i : f n ≤ g n = o n (le_refl (suc n)) in omega arith)
    (λ i. let m : total n f ≤ total n g = total_le n f g (λ k b. o k (le_step b)) in let j : f n + w ≤ g n = subst (λ k. f k + w ≤ g k) i e in omega arith)
    (lt_suc_cases x n h)

pub weigh_true : (b : Bool) (n : ℕ) → T b → weigh b n ≡ n
unfolding weigh
weigh_true b n t = ap (λ c. cond c n 0) (true_of b t)

pub weigh_false : (b : Bool) (n : ℕ) → (T b → ⊥) → weigh b n ≡ 0
unfolding weigh
weigh_false b n t = ap (λ c. cond c n 0) (false_of b t)

pub weigh_le : (b : Bool) (n : ℕ) → weigh b n ≤ n
unfolding weigh
weigh_le true n = le_refl n
weigh_le false n = omega arith

pub weigh_imply : (a b : Bool) (n : ℕ) → (T a → T b) → weigh a n ≤ weigh b n
unfolding weigh
weigh_imply true true n f = le_refl n
weigh_imply true false n f = absurd (f tt)
weigh_imply false b n f = omega arith

pub count_upto : (n : ℕ) (p : ℕ → Bool) → length (pick (upto n) p) ≡ count_below n p
unfolding total upto pick
count_upto zero p = refl
count_upto (suc n) p = ap length (pick_append (upto n) (n ∷ []) p) ∙ length-append (pick (upto n) p) _ ∙ ap₂ ◌+◌ (count_upto n p) (one (p n))
  where
    one : (b : Bool) → length (cond b (n ∷ []) []) ≡ weigh b 1
    one true = sym (weigh_true true 1 tt)
    one false = sym (weigh_false false 1 (λ t. t))

-- one number more, as a loop counts
pub total_next : (i : ℕ) (f : ℕ → ℕ) → total (i + 1) f ≡ total i f + f i
unfolding total
total_next i f = ap (λ k. total k f) (add-one i)

-- one more of a distinct list passes
pub pick_one_more : (l : List ℕ) (h k : ℕ → Bool) (p : ℕ) → T (distinct l) → (T (h p) → ⊥) → T (k p) → ((a : ℕ) → (a ≡ p → ⊥) → k a ≡ h a)
    → length (pick l k) ≡ length (pick l h) + weigh (member p l) 1
pick_one_more l h k p t n y o =
    ⊎_elim (λ m. omega (arith, pick_more l h k p t m n y o, weigh_true (member p l) 1 m))
    (λ m. omega (arith, ap length (pick_same l h k (λ a u. o a (λ e. m (subst (λ z. T (member z l)) e u)))), weigh_false (member p l) 1 m)) (test_cases (member p l))

-- a weight under two tests
pub weigh_both : (a b : Bool) (n : ℕ) → weigh a (weigh b n) ≡ weigh (a and b) n
unfolding weigh ◌and◌
weigh_both true b n = refl
weigh_both false b n = refl
