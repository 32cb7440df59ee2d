-- Strictly rising lists: one is determined by its members. Assumes nothing.
use Prim.Native.Nat.{ℕ, zero, suc, ◌≤◌, ◌<◌}
use native.Mathlib.Nat.{le_refl, le_trans, le_step, lt_irrefl, not-suc-le-zero, le_of_suc-le}
use native.Mathlib.Omega.{arith}
use mathlib.Core.Path.{◌≡◌, refl, sym, ◌∙◌, ap, subst}
use mathlib.Core.Logic.{⊎_elim}
use mathlib.Core.Bool.{Bool, true}
use mathlib.Core.List.{List, [], ◌∷◌, ◌++◌, map, map-append}
use lib.ListN.{length, get_or, length-map}
use lib.Dec.{T, leb, leb→le, le→leb}
use Rattle.logic.specs.Tests.{◌and◌, member, count_below, total, weigh, upto, pick}
use Rattle.logic.proofs.Tests.{test_cases, cond_cases, and_intro, and_left, and_right, lt_suc_cases}
use Rattle.logic.proofs.Lists.{member_nil, member_here, member_there, member_cons_elim, member_map, member_map_intro, member_upto, member_upto_intro, length_upto, get_d_map_upto}
use Rattle.logic.proofs.Sums.{weigh_true, weigh_false}
use Rattle.logic.proofs.Pigeon.{count_le}

-- strictly rising, with no element below m
unfoldable pub rising_from : ℕ → List ℕ → Bool
rising_from m [] = true
rising_from m (x ∷ xs) = leb m x and rising_from (suc x) xs

pub rising_cons : (m x : ℕ) (l : List ℕ) → m ≤ x → T (rising_from (suc x) l) → T (rising_from m (x ∷ l))
unfolding rising_from
rising_cons m x l h t = and_intro _ _ (le→leb m x h) t

rising_head : (m x : ℕ) (l : List ℕ) → T (rising_from m (x ∷ l)) → m ≤ x
unfolding rising_from
rising_head m x l t = leb→le m x (and_left _ _ t)

rising_tail : (m x : ℕ) (l : List ℕ) → T (rising_from m (x ∷ l)) → T (rising_from (suc x) l)
unfolding rising_from
rising_tail m x l t = and_right _ _ t

pub rising_member : (m : ℕ) (l : List ℕ) → T (rising_from m l) → (z : ℕ) → T (member z l) → m ≤ z
rising_member m [] t z u = absurd (member_nil z u)
rising_member m (x ∷ l) t z u =
    ⊎_elim (λ e. subst (λ k. m ≤ k) (sym e) (rising_head m x l t))
    (λ v. le_trans (rising_head m x l t) (le_of_suc-le (rising_member (suc x) l (rising_tail m x l t) z v))) (member_cons_elim z x l u)

rising_lower : (m n : ℕ) (l : List ℕ) → m ≤ n → T (rising_from n l) → T (rising_from m l)
unfolding rising_from
rising_lower m n [] h t = tt
rising_lower m n (x ∷ l) h t = rising_cons m x l (le_trans h (rising_head n x l t)) (rising_tail n x l t)

pub rising_pick : (m : ℕ) (l : List ℕ) (p : ℕ → Bool) → T (rising_from m l) → T (rising_from m (pick l p))
unfolding rising_from pick
rising_pick m [] p t = tt
rising_pick m (x ∷ l) p t =
    let rest = rising_pick (suc x) l p (rising_tail m x l t) in
    cond_cases (λ k. T (rising_from m k)) (p x) (x ∷ pick l p) (pick l p) (λ _. rising_cons m x (pick l p) (rising_head m x l t) rest)
    (λ _. rising_lower m (suc x) (pick l p) (le_step (rising_head m x l t)) rest)

-- one more at the end, past all the others
pub rising_snoc : (m : ℕ) (l : List ℕ) (x : ℕ) → m ≤ x → T (rising_from m l) → ((z : ℕ) → T (member z l) → z < x) → T (rising_from m (l ++ (x ∷ [])))
unfolding rising_from
rising_snoc m [] x h t f = rising_cons m x [] h tt
rising_snoc m (y ∷ l) x h t f =
    rising_cons m y (l ++ (x ∷ [])) (rising_head m y l t)
    (rising_snoc (suc y) l x (f y (member_here y l)) (rising_tail m y l t) (λ z u. f z (member_there z y l u)))

pub rising_upto : (n : ℕ) → T (rising_from 0 (upto n))
unfolding rising_from upto
rising_upto zero = tt
rising_upto (suc n) = rising_snoc 0 (upto n) n (omega arith) (rising_upto n) (member_upto n)

-- the values of a function that rises below n
pub rising_map : (f : ℕ → ℕ) (n : ℕ) → ((i j : ℕ) → i < j → j < n → f i < f j) → T (rising_from 0 (map f (upto n)))
unfolding rising_from upto
rising_map f zero r = tt
rising_map f (suc n) r =
    subst (λ k. T (rising_from 0 k)) (sym (map-append f (upto n) (n ∷ [])))
    (rising_snoc 0 (map f (upto n)) (f n) (omega arith) (rising_map f n (λ i j h l. r i j h (omega arith)))
    (λ z m. let (j, u, e) = member_map f (upto n) z m in subst (λ x. x < f n) (sym e) (r j n (member_upto n j u) (omega arith))))

-- two strictly rising lists with the same members are one
pub rising_same : (m : ℕ) (l k : List ℕ) → T (rising_from m l) → T (rising_from m k) → ((z : ℕ) → T (member z l) → T (member z k))
    → ((z : ℕ) → T (member z k) → T (member z l)) → l ≡ k
rising_same m [] [] t u f g = refl
rising_same m [] (y ∷ k) t u f g = absurd (member_nil y (g y (member_here y k)))
rising_same m (x ∷ l) [] t u f g = absurd (member_nil x (f x (member_here x l)))
rising_same m (x ∷ l) (y ∷ k) t u f g = ap (λ z. z ∷ l) heads ∙ ap (y ∷◌) (rising_same (suc x) l k (rising_tail m x l t) tail_k (λ z v. down z v (f z (member_there z x l v))) (λ z v. up z v (g z (member_there z y k v))))
  where
    below_l : (z : ℕ) → T (member z l) → x < z
    below_l z v = rising_member (suc x) l (rising_tail m x l t) z v

    below_k : (z : ℕ) → T (member z k) → y < z
    below_k z v = rising_member (suc y) k (rising_tail m y k u) z v

    heads : x ≡ y
    heads =
        ⊎_elim (λ e. e)
        (λ v. ⊎_elim (λ e. sym e) (λ w. absurd (lt_irrefl x (omega (arith, below_k x v, below_l y w)))) (member_cons_elim y x l (g y (member_here y k))))
        (member_cons_elim x y k (f x (member_here x l)))

    tail_k : T (rising_from (suc x) k)
    tail_k = subst (λ z. T (rising_from (suc z) k)) (sym heads) (rising_tail m y k u)

    down : (z : ℕ) → T (member z l) → T (member z (y ∷ k)) → T (member z k)
    down z v w = ⊎_elim (λ e. absurd (lt_irrefl x (omega (arith, below_l z v, e, heads)))) (λ a. a) (member_cons_elim z y k w)

    up : (z : ℕ) → T (member z k) → T (member z (x ∷ l)) → T (member z l)
    up z v w = ⊎_elim (λ e. absurd (lt_irrefl x (omega (arith, below_k z v, e, heads)))) (λ a. a) (member_cons_elim z x l w)

-- two functions that rise, one below n and the other below m, and have the same values there: they are one
pub rising_values : (f g : ℕ → ℕ) (n m : ℕ) → ((i j : ℕ) → i < j → j < n → f i < f j) → ((i j : ℕ) → i < j → j < m → g i < g j)
    → ((i : ℕ) → i < n → (j : ℕ) × (j < m) × (g j ≡ f i)) → ((j : ℕ) → j < m → (i : ℕ) × (i < n) × (f i ≡ g j)) → (n ≡ m) × ((i : ℕ) → i < n → f i ≡ g i)
rising_values f g n m r s u v = (
  count,
  λ i h. sym (get_d_map_upto f n i h) ∙ ap (λ l. get_or l i 0) same ∙ get_d_map_upto g m i (subst (λ k. i < k) count h),
)
  where
    values_in : (p q : ℕ → ℕ) (a b : ℕ) → ((i : ℕ) → i < a → (j : ℕ) × (j < b) × (q j ≡ p i)) → (z : ℕ) → T (member z (map p (upto a))) → T (member z (map q (upto b)))
    values_in p q a b w z t =
        let (i, k, e) = member_map p (upto a) z t in
        let (j, l, d) = w i (member_upto a i k) in
        subst (λ x. T (member x (map q (upto b)))) (d ∙ sym e) (member_map_intro q (upto b) j (member_upto_intro b j l))

    same : map f (upto n) ≡ map g (upto m)
    same = rising_same 0 _ _ (rising_map f n r) (rising_map g m s) (values_in f g n m u) (values_in g f m n v)

    count : n ≡ m
    count = sym (length-map (upto n) f ∙ length_upto n) ∙ ap length same ∙ (length-map (upto m) g ∙ length_upto m)

-- a test that passes below each number at which it passes: it passes just below its count
module _ (p : ℕ → Bool) where
  pub count_all : (n : ℕ) → ((i : ℕ) → i < n → T (p i)) → count_below n p ≡ n
  unfolding total
  count_all zero f = refl
  count_all (suc n) f = omega (arith, count_all n (λ i h. f i (le_step h)), weigh_true (p n) 1 (f n (le_refl (suc n))))

  pub count_down : (n : ℕ) → ((i j : ℕ) → i < j → j < n → T (p j) → T (p i)) → (i : ℕ) → i < n → T (p i) → i < count_below n p
  unfolding total
  count_down zero f i h t = absurd (not-suc-le-zero h)
  count_down (suc n) f i h t =
      ⊎_elim
      (λ u. let e : weigh (p n) 1 ≡ 1 = weigh_true (p n) 1 u in
      let a : count_below n p ≡ n = count_all n (λ j k. f j n k (le_refl (suc n)) u) in omega arith)
      (λ u. ⊎_elim (λ k. let a : i < count_below n p = count_down n (λ a c l k. f a c l (le_step k)) i k t in omega arith) (λ e. absurd (u (subst (λ z. T (p z)) e t))) (lt_suc_cases i n h))
      (test_cases (p n))

  pub count_up : (n : ℕ) → ((i j : ℕ) → i < j → j < n → T (p j) → T (p i)) → (i : ℕ) → i < count_below n p → T (p i)
  unfolding total
  count_up zero f i h = absurd (not-suc-le-zero h)
  count_up (suc n) f i h =
      ⊎_elim
      (λ u. let e : weigh (p n) 1 ≡ 1 = weigh_true (p n) 1 u in
      let b : count_below n p ≤ n = count_le n p in
      ⊎_elim (λ k. f i n k (le_refl (suc n)) u) (λ k. subst (λ z. T (p z)) (sym k) u) (lt_suc_cases i n (omega arith)))
      (λ u. let e : weigh (p n) 1 ≡ 0 = weigh_false (p n) 1 u in count_up n (λ a c l k. f a c l (le_step k)) i (omega arith)) (test_cases (p n))
