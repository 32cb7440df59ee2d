-- Laws of membership, distinct lists, `pick` and `upto`. Assumes nothing.
use Prim.Native.Nat.{ℕ, zero, suc, ◌+◌, ◌≤◌, ◌<◌}
use native.Mathlib.Nat.{le_refl, le_step, lt_irrefl, not-suc-le-zero}
use native.Mathlib.Omega.{arith}
use mathlib.Core.Path.{◌≡◌, refl, sym, ◌∙◌, ap, ap₂, subst}
use mathlib.Core.Logic.{◌⊎◌, inl, inr, ⊎_elim}
use mathlib.Core.Bool.{Bool, true, false, cond}
use mathlib.Core.List.{List, [], ◌∷◌, ◌++◌, map, map-append, append_assoc}
use lib.Dec.{T, eqb, eqb→eq, eqb_refl}
use lib.ListN.{length, get_or, take, drop, length-append, length-map, take-append-drop, get_or-append}
use lib.Seq.{get_or_at, drop-cons}
use Rattle.logic.specs.Tests.{every_of, ◌or◌, isnt, some_of, member, empty, distinct, upto, pick}
use Rattle.logic.proofs.Tests.{cond_true, cond_false, cond_cases, and_intro, and_left, and_right, or_left, or_right, or_elim, isnt_intro, isnt_elim, lt_suc_cases, test_eq}

pub member_cons_elim : (x y : ℕ) (l : List ℕ) → T (member x (y ∷ l)) → (x ≡ y) ⊎ T (member x l)
unfolding some_of
member_cons_elim x y l m = ⊎_elim (λ e. inl (eqb→eq x y e)) (λ u. inr u) (or_elim (eqb x y) _ m)

pub member_here : (x : ℕ) (l : List ℕ) → T (member x (x ∷ l))
unfolding some_of
member_here x l = or_left (eqb x x) _ (eqb_refl x)

pub member_there : (x y : ℕ) (l : List ℕ) → T (member x l) → T (member x (y ∷ l))
unfolding some_of
member_there x y l m = or_right (eqb x y) _ m

pub member_nil : (x : ℕ) → T (member x []) → ⊥
unfolding some_of
member_nil x m = m

pub member_left : (x : ℕ) (l m : List ℕ) → T (member x l) → T (member x (l ++ m))
member_left x [] m t = absurd (member_nil x t)
member_left x (y ∷ l) m t =
    ⊎_elim (λ e. subst (λ z. T (member x (z ∷ (l ++ m)))) e (member_here x (l ++ m)))
    (λ u. member_there x y (l ++ m) (member_left x l m u)) (member_cons_elim x y l t)

pub member_right : (x : ℕ) (l m : List ℕ) → T (member x m) → T (member x (l ++ m))
member_right x [] m t = t
member_right x (y ∷ l) m t = member_there x y (l ++ m) (member_right x l m t)

pub member_append : (x : ℕ) (l m : List ℕ) → T (member x (l ++ m)) → T (member x l) ⊎ T (member x m)
member_append x [] m t = inr t
member_append x (y ∷ l) m t =
    ⊎_elim (λ e. inl (subst (λ z. T (member x (z ∷ l))) e (member_here x l)))
    (λ u. ⊎_elim (λ v. inl (member_there x y l v)) (λ v. inr v) (member_append x l m u)) (member_cons_elim x y (l ++ m) t)

pub member_one : (x y : ℕ) → T (member x (y ∷ [])) → x ≡ y
member_one x y t = ⊎_elim (λ e. e) (λ u. absurd (member_nil x u)) (member_cons_elim x y [] t)

-- a list with one more at its end
pub member_last : (l : List ℕ) (x : ℕ) → T (member x (l ++ (x ∷ [])))
member_last l x = member_right x l (x ∷ []) (member_here x [])

pub member_snoc : (l : List ℕ) (x y : ℕ) → T (member y (l ++ (x ∷ []))) → T (member y l) ⊎ (y ≡ x)
member_snoc l x y t = ⊎_elim (λ u. inl u) (λ u. inr (member_one y x u)) (member_append y l (x ∷ []) t)

pub member_more : (l : List ℕ) (x y : ℕ) → member y l or eqb y x ≡ member y (l ++ (x ∷ []))
member_more l x y =
    test_eq _ _
    (λ t. ⊎_elim (λ u. member_left y l (x ∷ []) u) (λ u. subst (λ z. T (member y (l ++ (z ∷ [])))) (eqb→eq y x u) (member_last l y)) (or_elim _ _ t))
    (λ t. ⊎_elim (λ u. or_left _ _ u) (λ e. or_right _ _ (subst (λ z. T (eqb y z)) e (eqb_refl y))) (member_snoc l x y t))

pub snoc_append : (l : List ℕ) (x : ℕ) (m : List ℕ) → (l ++ (x ∷ [])) ++ m ≡ l ++ (x ∷ m)
snoc_append l x m = append_assoc l (x ∷ []) m

pub distinct_append : (l m : List ℕ) → T (distinct l) → T (distinct m) → ((x : ℕ) → T (member x l) → T (member x m) → ⊥) → T (distinct (l ++ m))
unfolding distinct
distinct_append [] m t u n = u
distinct_append (y ∷ l) m t u n =
    and_intro _ _ (isnt_intro _ (λ v. ⊎_elim (isnt_elim _ (and_left _ _ t)) (n y (member_here y l)) (member_append y l m v)))
    (distinct_append l m (and_right _ _ t) u (λ x v. n x (member_there x y l v)))

pub distinct_snoc : (l : List ℕ) (x : ℕ) → T (distinct l) → (T (member x l) → ⊥) → T (distinct (l ++ (x ∷ [])))
unfolding distinct
distinct_snoc l x t n =
    distinct_append l (x ∷ []) t (and_intro _ _ (isnt_intro _ (member_nil x)) tt) (λ y m u. n (subst (λ z. T (member z l)) (member_one y x u) m))

pub distinct_left : (l m : List ℕ) → T (distinct (l ++ m)) → T (distinct l)
unfolding distinct
distinct_left [] m t = tt
distinct_left (y ∷ l) m t =
    and_intro _ _ (isnt_intro _ (λ u. isnt_elim _ (and_left _ _ t) (member_left y l m u))) (distinct_left l m (and_right _ _ t))

-- in a distinct list, what stands later did not stand before
pub distinct_apart : (l : List ℕ) (x : ℕ) (m : List ℕ) → T (distinct (l ++ (x ∷ m))) → T (member x l) → ⊥
unfolding distinct
distinct_apart [] x m t u = member_nil x u
distinct_apart (y ∷ l) x m t u =
    ⊎_elim (λ e. isnt_elim _ (and_left _ _ t) (subst (λ z. T (member z (l ++ (x ∷ m)))) e (member_right x l (x ∷ m) (member_here x m))))
    (distinct_apart l x m (and_right _ _ t)) (member_cons_elim x y l u)

pub member_pick_intro : (l : List ℕ) (p : ℕ → Bool) (x : ℕ) → T (member x l) → T (p x) → T (member x (pick l p))
unfolding pick
member_pick_intro [] p x m t = m
member_pick_intro (y ∷ l) p x m t =
    ⊎_elim
    (λ e. cond_cases (λ k. T (member x k)) (p y) _ _ (λ _. subst (λ z. T (member x (z ∷ pick l p))) e (member_here x (pick l p)))
    (λ n. absurd (n (subst (λ z. T (p z)) e t))))
    (λ u. let v = member_pick_intro l p x u t in cond_cases (λ k. T (member x k)) (p y) _ _ (λ _. member_there x y (pick l p) v) (λ _. v))
    (member_cons_elim x y l m)

pub member_pick : (l : List ℕ) (p : ℕ → Bool) (x : ℕ) → T (member x (pick l p)) → T (member x l) × T (p x)
unfolding pick
member_pick [] p x m = absurd (member_nil x m)
member_pick (y ∷ l) p x m = cond_cases (λ k. T (member x k) → T (member x (y ∷ l)) × T (p x)) (p y) _ _
    (λ t u. ⊎_elim (first t) (λ v. later (member_pick l p x v)) (member_cons_elim x y (pick l p) u))
    (λ _ v. later (member_pick l p x v)) m
  where
    later : T (member x l) × T (p x) → T (member x (y ∷ l)) × T (p x)
    later v = (member_there x y l v.0, v.1)

    first : T (p y) → x ≡ y → T (member x (y ∷ l)) × T (p x)
    first t e = (subst (λ z. T (member x (z ∷ l))) e (member_here x l), subst (λ z. T (p z)) (sym e) t)

pub distinct_pick : (l : List ℕ) (p : ℕ → Bool) → T (distinct l) → T (distinct (pick l p))
unfolding distinct pick
distinct_pick [] p t = tt
distinct_pick (y ∷ l) p t =
    let rest = distinct_pick l p (and_right _ _ t) in
    cond_cases (λ k. T (distinct k)) (p y) _ _
    (λ _. and_intro _ _ (isnt_intro _ (λ m. isnt_elim _ (and_left _ _ t) (member_pick l p y m).0)) rest) (λ _. rest)

pub member_upto : (n x : ℕ) → T (member x (upto n)) → x < n
unfolding upto
member_upto zero x m = absurd (member_nil x m)
member_upto (suc n) x m = ⊎_elim (λ u. le_step (member_upto n x u)) (λ e. subst (λ k. suc k ≤ suc n) (sym e) (le_refl (suc n))) (member_snoc (upto n) n x m)

pub member_upto_intro : (n x : ℕ) → x < n → T (member x (upto n))
unfolding upto
member_upto_intro zero x h = absurd (lt_irrefl zero (omega arith))
member_upto_intro (suc n) x h =
    ⊎_elim (λ l. member_left x (upto n) _ (member_upto_intro n x l)) (λ e. subst (λ k. T (member k (upto n ++ (n ∷ [])))) (sym e) (member_last (upto n) n)) (lt_suc_cases x n h)

pub distinct_upto : (n : ℕ) → T (distinct (upto n))
unfolding upto distinct
distinct_upto zero = tt
distinct_upto (suc n) = distinct_snoc (upto n) n (distinct_upto n) (λ m. lt_irrefl n (member_upto n n m))

pub pick_append : (l m : List ℕ) (p : ℕ → Bool) → pick (l ++ m) p ≡ pick l p ++ pick m p
unfolding pick
pick_append [] m p = refl
pick_append (x ∷ l) m p = go (p x) (pick_append l m p)
  where
    go : (b : Bool) → pick (l ++ m) p ≡ pick l p ++ pick m p → cond b (x ∷ pick (l ++ m) p) (pick (l ++ m) p) ≡ cond b (x ∷ pick l p) (pick l p) ++ pick m p
    go true e = ap (x ∷◌) e
    go false e = e

-- a list that is not empty has an element
pub filled_elim : (l : List ℕ) → T (isnt (empty l)) → (x : ℕ) × T (member x l)
unfolding isnt empty
filled_elim [] t = absurd t
filled_elim (x ∷ l) t = (x, member_here x l)

pub filled_intro : (l : List ℕ) (x : ℕ) → T (member x l) → T (isnt (empty l))
unfolding isnt empty
filled_intro [] x m = absurd (member_nil x m)
filled_intro (y ∷ l) x m = tt

pub member_map_intro : (f : ℕ → ℕ) (l : List ℕ) (x : ℕ) → T (member x l) → T (member (f x) (map f l))
member_map_intro f [] x m = absurd (member_nil x m)
member_map_intro f (y ∷ l) x m =
    ⊎_elim (λ e. subst (λ z. T (member (f x) (f z ∷ map f l))) e (member_here (f x) (map f l)))
    (λ u. member_there (f x) (f y) (map f l) (member_map_intro f l x u)) (member_cons_elim x y l m)

pub member_map : (f : ℕ → ℕ) (l : List ℕ) (x : ℕ) → T (member x (map f l)) → (y : ℕ) × T (member y l) × (x ≡ f y)
member_map f [] x m = absurd (member_nil x m)
member_map f (y ∷ l) x m =
    ⊎_elim (λ e. (y, member_here y l, e)) (λ u. let (z, v, e) = member_map f l x u in (z, member_there z y l v, e)) (member_cons_elim x (f y) (map f l) m)

-- `pick` takes nothing in
pub pick_le : (l : List ℕ) (p : ℕ → Bool) → length (pick l p) ≤ length l
unfolding pick
pick_le [] p = omega arith
pick_le (x ∷ l) p =
    let rest : length (pick l p) ≤ length l = pick_le l p in
    cond_cases (λ k. length k ≤ suc (length l)) (p x) (x ∷ pick l p) (pick l p) (λ _. omega arith) (λ _. omega arith)

-- and takes nothing out where all pass
pub pick_all : (l : List ℕ) (p : ℕ → Bool) → T (every_of l p) → pick l p ≡ l
unfolding pick every_of
pick_all [] p t = refl
pick_all (x ∷ l) p t = cond_true (p x) _ _ (and_left _ _ t) ∙ ap (x ∷◌) (pick_all l p (and_right _ _ t))

-- two tests of which no number passes both
apart_step : (x : ℕ) (a b : Bool) (l k m : List ℕ) → (T a → T b → ⊥) → length l + length k ≤ length m → length (cond a (x ∷ l) l) + length (cond b (x ∷ k) k) ≤ suc (length m)
apart_step x true true l k m n h = absurd (n tt tt)
apart_step x true false l k m n h = omega arith
apart_step x false true l k m n h = omega arith
apart_step x false false l k m n h = omega arith

pub pick_apart : (l : List ℕ) (p q : ℕ → Bool) → ((x : ℕ) → T (p x) → T (q x) → ⊥) → length (pick l p) + length (pick l q) ≤ length l
unfolding pick
pick_apart [] p q n = omega arith
pick_apart (x ∷ l) p q n = apart_step x (p x) (q x) (pick l p) (pick l q) l (n x) (pick_apart l p q n)

-- a list has the same that pass by two tests that agree on it
pub pick_same : (l : List ℕ) (p q : ℕ → Bool) → ((y : ℕ) → T (member y l) → q y ≡ p y) → pick l q ≡ pick l p
unfolding pick
pick_same [] p q e = refl
pick_same (x ∷ l) p q e =
    ap₂ (λ b k. cond b (x ∷ k) k) (e x (member_here x l)) (pick_same l p q (λ y m. e y (member_there y x l m)))

both_longer : (z : ℕ) (k l : List ℕ) (b : Bool) → length l ≡ length k + 1 → length (cond b (z ∷ l) l) ≡ length (cond b (z ∷ k) k) + 1
both_longer z k l true s = omega arith
both_longer z k l false s = s

-- a distinct list has one more that passes where one of it passes more
pub pick_more : (l : List ℕ) (p q : ℕ → Bool) (x : ℕ) → T (distinct l) → T (member x l) → (T (p x) → ⊥) → T (q x)
    → ((y : ℕ) → (y ≡ x → ⊥) → q y ≡ p y) → length (pick l q) ≡ length (pick l p) + 1
unfolding pick distinct
pick_more [] p q x t m n u e = absurd (member_nil x m)
pick_more (z ∷ l) p q x t m n u e =
    ⊎_elim here (λ v. there v (pick_more l p q x (and_right _ _ t) v n u e)) (member_cons_elim x z l m)
  where
    here : x ≡ z → length (cond (q z) (z ∷ pick l q) (pick l q)) ≡ length (cond (p z) (z ∷ pick l p) (pick l p)) + 1
    here i =
        let f : length (pick l q) ≡ length (pick l p) =
        ap length (pick_same l p q (λ y v. e y (λ j. isnt_elim _ (and_left _ _ t) (subst (λ k. T (member k l)) (j ∙ i) v)))) in
        let a : length (cond (q z) (z ∷ pick l q) (pick l q)) ≡ suc (length (pick l q)) = ap length (cond_true (q z) _ _ (subst (λ k. T (q k)) i u)) in
        let c : length (cond (p z) (z ∷ pick l p) (pick l p)) ≡ length (pick l p) =
        ap length (cond_false (p z) _ _ (λ v. n (subst (λ k. T (p k)) (sym i) v))) in
        omega arith

    there : T (member x l) → length (pick l q) ≡ length (pick l p) + 1
        → length (cond (q z) (z ∷ pick l q) (pick l q)) ≡ length (cond (p z) (z ∷ pick l p) (pick l p)) + 1
    there v s =
        ap (λ b. length (cond b (z ∷ pick l q) (pick l q))) (e z (λ i. isnt_elim _ (and_left _ _ t) (subst (λ k. T (member k l)) (sym i) v)))
        ∙ both_longer z (pick l p) (pick l q) (p z) s

-- a map that tells the elements of a distinct list apart keeps it distinct
pub distinct_map : (f : ℕ → ℕ) (l : List ℕ) → T (distinct l) → ((x y : ℕ) → T (member x l) → T (member y l) → f x ≡ f y → x ≡ y) → T (distinct (map f l))
unfolding distinct
distinct_map f [] t o = tt
distinct_map f (x ∷ l) t o =
    and_intro _ _
    (isnt_intro _ (λ m. let (y, v, e) = member_map f l (f x) m in
    isnt_elim _ (and_left _ _ t) (subst (λ z. T (member z l)) (sym (o x y (member_here x l) (member_there y x l v) e)) v)))
    (distinct_map f l (and_right _ _ t) (λ y z u v. o y z (member_there y x l u) (member_there z x l v)))

pub length_upto : (n : ℕ) → length (upto n) ≡ n
unfolding upto
length_upto zero = refl
length_upto (suc n) = omega (arith, length-append (upto n) (n ∷ []), length_upto n)

-- the i-th of the values at the numbers below n
pub get_d_map_upto : (f : ℕ → ℕ) (n i : ℕ) → i < n → get_or (map f (upto n)) i 0 ≡ f i
unfolding upto
get_d_map_upto f zero i h = absurd (lt_irrefl 0 (omega arith))
get_d_map_upto f (suc n) i h =
    ap (λ l. get_or l i 0) (map-append f (upto n) (n ∷ []))
    ∙ ⊎_elim (λ k. get_or-append (map f (upto n)) (f n ∷ []) 0 i (omega (arith, size)) ∙ get_d_map_upto f n i k)
    (λ e. get_or_at (map f (upto n)) (f n) [] 0 i (omega (arith, size)) ∙ ap f (sym e)) (lt_suc_cases i n h)
  where
    size : length (map f (upto n)) ≡ n
    size = length-map (upto n) f ∙ length_upto n

pub member_get_d : (l : List ℕ) (j : ℕ) → j < length l → T (member (get_or l j 0) l)
member_get_d [] j h = absurd (not-suc-le-zero h)
member_get_d (x ∷ l) zero h = member_here x l
member_get_d (x ∷ l) (suc j) h = member_there _ x l (member_get_d l j (omega arith))

-- in a distinct list, an element is not among those before it
pub distinct_before : (l : List ℕ) (j : ℕ) → T (distinct l) → j < length l → T (member (get_or l j 0) (take j l)) → ⊥
distinct_before l j t h = distinct_apart (take j l) (get_or l j 0) (drop (suc j) l) (subst (λ k. T (distinct k)) (sym (take-append-drop j l) ∙ ap (take j l ++◌) (drop-cons l j 0 h)) t)
