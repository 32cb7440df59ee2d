-- Laws of lists: what stands at their places, and the numbers below a sum. Assumes nothing.
use Prim.Native.Nat.{ℕ, zero, suc, ◌+◌, ◌-◌, ◌<◌}
use native.Mathlib.Nat.{le_refl, le_step, add-zero, add-suc}
use native.Mathlib.Omega.{arith}
use mathlib.Core.Path.{◌≡◌, refl, sym, ◌∙◌, ap, ap₂, subst}
use mathlib.Core.Logic.{◌⊎◌, inl, inr, ⊎_elim}
use mathlib.Core.Bool.{Bool, true, false, cond}
use mathlib.Core.List.{List, [], ◌∷◌, ◌++◌, map, map-append, append-nil, append_assoc}
use lib.Dec.{T}
use lib.ListN.{length, get_or, length-append, length-map, get_or-append}
use lib.Seq.{get_or-append-add}
use Rattle.logic.specs.Tests.{upto, pick, member}
use Rattle.logic.proofs.Tests.{cond_false, at_most}
use Rattle.logic.proofs.Lists.{member_here, member_there, member_upto, pick_append}
use Rattle.std.proofs.lemmas.List.{get_or-map}

-- two maps that agree on the numbers below n
pub map_below : {A : Type 0} (f g : ℕ → A) (n : ℕ) → ((i : ℕ) → i < n → f i ≡ g i) → map f (upto n) ≡ map g (upto n)
unfolding upto
map_below f g zero e = refl
map_below f g (suc n) e =
    map-append f (upto n) (n ∷ []) ∙ ap₂ (λ k x. k ++ (x ∷ [])) (map_below f g n (λ i h. e i (le_step h))) (e n (le_refl (suc n))) ∙ sym (map-append g (upto n) (n ∷ []))

-- the numbers below a sum, and those of them that pass
pub upto_split : (m n : ℕ) → upto (m + n) ≡ upto m ++ map (λ j. m + j) (upto n)
unfolding upto
upto_split m zero = ap upto (add-zero m) ∙ sym (append-nil (upto m))
upto_split m (suc n) =
    ap upto (add-suc m n) ∙ ap (λ l. l ++ ((m + n) ∷ [])) (upto_split m n) ∙ append_assoc (upto m) (map (λ j. m + j) (upto n)) ((m + n) ∷ [])
    ∙ ap (upto m ++◌) (sym (map-append (λ j. m + j) (upto n) (n ∷ [])))

pub pick_map : (f : ℕ → ℕ) (l : List ℕ) (p : ℕ → Bool) → pick (map f l) p ≡ map f (pick l (λ x. p (f x)))
unfolding pick
pick_map f [] p = refl
pick_map f (x ∷ l) p = go (p (f x)) (pick_map f l p)
  where
    go : (b : Bool) → pick (map f l) p ≡ map f (pick l (λ x. p (f x))) → cond b (f x ∷ pick (map f l) p) (pick (map f l) p) ≡ map f (cond b (x ∷ pick l (λ x. p (f x))) (pick l (λ x. p (f x))))
    go true e = ap (f x ∷◌) e
    go false e = e

pub pick_split : (m n : ℕ) (p : ℕ → Bool) → pick (upto (m + n)) p ≡ pick (upto m) p ++ map (λ j. m + j) (pick (upto n) (λ j. p (m + j)))
pick_split m n p = ap (λ l. pick l p) (upto_split m n) ∙ pick_append (upto m) _ p ∙ ap (pick (upto m) p ++◌) (pick_map (λ j. m + j) (upto n) p)

-- a test that nothing passes
none_pass : (l : List ℕ) (p : ℕ → Bool) → ((y : ℕ) → T (member y l) → T (p y) → ⊥) → pick l p ≡ []
unfolding pick
none_pass [] p n = refl
none_pass (x ∷ l) p n = cond_false (p x) _ _ (n x (member_here x l)) ∙ none_pass l p (λ y m. n y (member_there y x l m))

pub pick_none : (n : ℕ) (p : ℕ → Bool) → ((y : ℕ) → y < n → T (p y) → ⊥) → pick (upto n) p ≡ []
pick_none n p f = none_pass (upto n) p (λ y m. f y (member_upto n y m))

-- a place of two lists is one of the first, or one of the second
pub places : {A : Type 0} (l m : List A) (d : A) (i : ℕ) → i < length (l ++ m)
    → ((i < length l) × (get_or (l ++ m) i d ≡ get_or l i d)) ⊎ ((j : ℕ) × (j < length m) × (i ≡ length l + j) × (get_or (l ++ m) i d ≡ get_or m j d))
places l m d i h =
    ⊎_elim
    (λ k. let e : i ≡ length l + (i - length l) = omega arith in
    inr (i - length l, omega (arith, length-append l m), e, ap (λ z. get_or (l ++ m) z d) e ∙ get_or-append-add l m (i - length l) d))
    (λ k. inl (k, get_or-append l m d i k)) (at_most (length l) i)

-- what each element of two lists has, each element of both has; what each has after a map, each element of the map has
pub each_append : {A : Type 0} (P : A → Type 0) (l m : List A) (d : A) → ((i : ℕ) → i < length l → P (get_or l i d)) → ((i : ℕ) → i < length m → P (get_or m i d))
    → (i : ℕ) → i < length (l ++ m) → P (get_or (l ++ m) i d)
each_append P l m d f g i h =
    ⊎_elim (λ k. subst P (sym k.1) (f i k.0)) (λ k. let (j, u, _, e) = k in subst P (sym e) (g j u)) (places l m d i h)

pub each_map : {A B : Type 0} (P : B → Type 0) (f : A → B) (l : List A) (d : A) (e : B) → ((i : ℕ) → i < length l → P (f (get_or l i d)))
    → (i : ℕ) → i < length (map f l) → P (get_or (map f l) i e)
each_map P f l d e g i h = let k : i < length l = omega (arith, h, length-map l f) in subst P (sym (get_or-map f l i d e k)) (g i k)
