-- Derivations of any closure system with searches. Assumes nothing.
use Prim.Native.Nat.{ℕ, ◌≤◌, ◌<◌}
use mathlib.Core.Path.{◌≡◌, sym, subst}
use mathlib.Core.Logic.{⊎_elim}
use mathlib.Core.Bool.{Bool}
use mathlib.Core.List.{List, [], ◌∷◌, ◌++◌}
use lib.Dec.{T, ltb→lt, lt→ltb}
use Rattle.logic.specs.Tests.{some, member}
use Rattle.logic.specs.System.{System, Searches, held, yields, derives_from, derivation, Closed}
use Rattle.logic.proofs.Tests.{and_intro, and_left, and_right, or_left, or_right, or_elim, some_intro, some_elim}
use Rattle.logic.proofs.Lists.{member_left, member_cons_elim, member_nil, member_snoc, snoc_append}

-- What is asked of a system: what follows is monotone in, and depends on no more than, the conclusions that have it among what
-- is tried after them; what is tried after a conclusion is a conclusion; a cost is at least 1. And of its searches: what they find is monotone.
pub record Lawful (s : System) (z : Searches) : Type 0 where
  pub local : (h k : ℕ → Bool) (x : ℕ) → ((y : ℕ) → T (member x (s.tried y)) → T (h y) → T (k y)) → T (s.infers h x) → T (s.infers k x)
  pub inside : (x y : ℕ) → x < s.conclusions → T (member y (s.tried x)) → y < s.conclusions
  pub positive : (h k : ℕ → Bool) (x : ℕ) → 1 ≤ s.cost h k x
  pub widens : (i : ℕ) (h k : ℕ → Bool) (x : ℕ) → ((y : ℕ) → T (h y) → T (k y)) → T (z.finds i h x) → T (z.finds i k x)

module _ (s : System) (z : Searches) (w : Lawful s z) where
  -- what follows from a test follows from a larger one, and so what it yields
  pub monotone : (h k : ℕ → Bool) (x : ℕ) → ((y : ℕ) → T (h y) → T (k y)) → T (s.infers h x) → T (s.infers k x)
  monotone h k x f t = w.local h k x (λ y m. f y) t

  pub yields_more : (h k : ℕ → Bool) (x : ℕ) → ((y : ℕ) → T (h y) → T (k y)) → T (yields s z h x) → T (yields s z k x)
  yields_more h k x f t =
      ⊎_elim (λ u. or_left _ _ (monotone h k x f u))
      (λ u. let (i, b, v) = some_elim _ _ u in or_right _ _ (some_intro _ _ i b (w.widens i h k x f v))) (or_elim _ _ t)

module _ (s : System) (z : Searches) where
  pub derives_next : (e : List ℕ) (x : ℕ) (l : List ℕ) → x < s.conclusions → T (yields s z (held e) x) → T (derives_from s z (e ++ (x ∷ [])) l)
      → T (derives_from s z e (x ∷ l))
  unfolding derives_from
  derives_next e x l b t u = and_intro _ _ (and_intro _ _ (lt→ltb x s.conclusions b) t) u

  pub derives_below : (e : List ℕ) (x : ℕ) (l : List ℕ) → T (derives_from s z e (x ∷ l)) → x < s.conclusions
  unfolding derives_from
  derives_below e x l t = ltb→lt x s.conclusions (and_left _ _ (and_left _ _ t))

  pub derives_yields : (e : List ℕ) (x : ℕ) (l : List ℕ) → T (derives_from s z e (x ∷ l)) → T (yields s z (held e) x)
  unfolding derives_from
  derives_yields e x l t = and_right _ _ (and_left _ _ t)

  pub derives_later : (e : List ℕ) (x : ℕ) (l : List ℕ) → T (derives_from s z e (x ∷ l)) → T (derives_from s z (e ++ (x ∷ [])) l)
  unfolding derives_from
  derives_later e x l t = and_right _ _ t

  -- a derivation is one up to any place, and from there on
  pub derives_append : (e l m : List ℕ) → T (derives_from s z e l) → T (derives_from s z (e ++ l) m) → T (derives_from s z e (l ++ m))
  derives_append e [] m t u = subst (λ k. T (derives_from s z k m)) (mathlib.Core.List.append-nil e) u
  derives_append e (x ∷ l) m t u =
      derives_next e x (l ++ m) (derives_below e x l t) (derives_yields e x l t)
      (derives_append (e ++ (x ∷ [])) l m (derives_later e x l t) (subst (λ k. T (derives_from s z k m)) (sym (snoc_append e x l)) u))

  pub derives_front : (e l m : List ℕ) → T (derives_from s z e (l ++ m)) → T (derives_from s z e l)
  unfolding derives_from
  derives_front e [] m t = tt
  derives_front e (x ∷ l) m t =
      derives_next e x l (derives_below e x (l ++ m) t) (derives_yields e x (l ++ m) t)
      (derives_front (e ++ (x ∷ [])) l m (derives_later e x (l ++ m) t))

  pub derives_back : (e l m : List ℕ) → T (derives_from s z e (l ++ m)) → T (derives_from s z (e ++ l) m)
  derives_back e [] m t = subst (λ k. T (derives_from s z k m)) (sym (mathlib.Core.List.append-nil e)) t
  derives_back e (x ∷ l) m t =
      subst (λ k. T (derives_from s z k m)) (snoc_append e x l) (derives_back (e ++ (x ∷ [])) l m (derives_later e x (l ++ m) t))

  pub derivation_snoc : (l : List ℕ) (x : ℕ) → T (derivation s z l) → x < s.conclusions → T (yields s z (held l) x) → T (derivation s z (l ++ (x ∷ [])))
  unfolding derives_from
  derivation_snoc l x t b u = derives_append [] l (x ∷ []) t (derives_next l x [] b u tt)

  -- each conclusion of a derivation is below the number of conclusions
  pub derives_all_below : (e l : List ℕ) → T (derives_from s z e l) → (x : ℕ) → T (member x l) → x < s.conclusions
  derives_all_below e [] t x m = absurd (member_nil x m)
  derives_all_below e (y ∷ l) t x m =
      ⊎_elim (λ i. subst (λ z. z < s.conclusions) (sym i) (derives_below e y l t))
      (derives_all_below (e ++ (y ∷ [])) l (derives_later e y l t) x) (member_cons_elim x y l m)

  -- a closed collection holds each conclusion of a derivation
  pub closed_holds : (w : Lawful s z) (h : ℕ → Bool) → Closed s z h → (e l : List ℕ)
      → ((x : ℕ) → T (member x e) → T (h x)) → T (derives_from s z e l) → (x : ℕ) → T (member x l) → T (h x)
  closed_holds w h c e [] f t x m = absurd (member_nil x m)
  closed_holds w h c e (y ∷ l) f t x m =
      let first : T (h y) = c y (derives_below e y l t) (yields_more s z w (held e) h y f (derives_yields e y l t)) in
      ⊎_elim (λ i. subst (λ z. T (h z)) (sym i) first)
      (closed_holds w h c (e ++ (y ∷ [])) l (λ z n. ⊎_elim (f z) (λ i. subst (λ j. T (h j)) (sym i) first) (member_snoc e y z n))
      (derives_later e y l t) x) (member_cons_elim x y l m)

  pub closed_least : (w : Lawful s z) (h : ℕ → Bool) → Closed s z h → (l : List ℕ) → T (derivation s z l) → (x : ℕ) → T (member x l) → T (h x)
  closed_least w h c l = closed_holds w h c [] l (λ x m. absurd (member_nil x m))

  -- in a derivation each conclusion is yielded by the whole of it
  pub derives_yields_all : (w : Lawful s z) (e l : List ℕ) → T (derives_from s z e l) → (x : ℕ) → T (member x l) → T (yields s z (held (e ++ l)) x)
  derives_yields_all w e [] t x m = absurd (member_nil x m)
  derives_yields_all w e (y ∷ l) t x m =
      ⊎_elim
      (λ i. yields_more s z w (held e) (held (e ++ (y ∷ l))) x (λ z. member_left z e (y ∷ l))
      (subst (λ n. T (yields s z (held e) n)) (sym i) (derives_yields e y l t)))
      (λ u. subst (λ k. T (yields s z (held k) x)) (snoc_append e y l) (derives_yields_all w (e ++ (y ∷ [])) l (derives_later e y l t) x u))
      (member_cons_elim x y l m)

-- what is derivable without searches is derivable with them
pub derives_without : (s : System) (z y : Searches) → y.count ≡ 0 → (e l : List ℕ) → T (derives_from s y e l) → T (derives_from s z e l)
unfolding derives_from some
derives_without s z y n e [] t = tt
derives_without s z y n e (x ∷ l) t =
    derives_next s z e x l (derives_below s y e x l t) (or_left _ _ (only (derives_yields s y e x l t)))
    (derives_without s z y n (e ++ (x ∷ [])) l (derives_later s y e x l t))
  where
    only : T (yields s y (held e) x) → T (s.infers (held e) x)
    only u = ⊎_elim (λ v. v) (λ v. absurd (subst (λ k. T (some k (λ i. y.finds i (held e) x))) n v)) (or_elim _ _ u)
