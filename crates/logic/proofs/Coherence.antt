-- Coherence: a derivation never holds a conclusion and its opposite. Assumes nothing.
use Prim.Native.Nat.{ℕ, ◌+◌, ◌*◌, ◌/◌, ◌≤◌, ◌<◌}
use native.Mathlib.Omega.{arith}
use mathlib.Core.Path.{◌≡◌, sym, ◌∙◌, ap, subst}
use mathlib.Core.Logic.{⊎_elim}
use mathlib.Core.Bool.{Bool, true, false}
use mathlib.Core.List.{List, [], ◌∷◌, ◌++◌, append-nil}
use lib.Dec.{T}
use lib.ListN.{length}
use Rattle.logic.specs.Tests.{◌or◌, member, distinct, total, weigh}
use Rattle.logic.specs.Theory.{complement}
use Rattle.logic.specs.System.{System, Searches, held, Coherent, yields, derives_from, derivation}
use Rattle.logic.proofs.Tests.{or_right, or_elim, some_elim}
use Rattle.logic.proofs.Lists.{member_snoc, member_here, member_there, member_nil, snoc_append}
use Rattle.logic.proofs.Sums.{total_le, total_const, total_grid, weigh_le}
use Rattle.logic.proofs.Pigeon.{distinct_count}
use Rattle.logic.proofs.Derivations.{Lawful, derives_yields, derives_later, derives_yields_all, derivation_snoc, derives_below}
use Rattle.logic.proofs.Literals.{complement_complement, complement_other}

-- what is held by a coherent test is coherent
pub part_coherent : (h k : ℕ → Bool) → ((x : ℕ) → T (h x) → T (k x)) → Coherent k → Coherent h
unfolding Coherent
part_coherent h k f c x t u = c x (f x t) (f (complement x) u)

-- no conclusion that the one holds has its opposite held by the other
unfoldable pub Apart : (ℕ → Bool) → (ℕ → Bool) → Type 0
Apart h k = (x : ℕ) → T (h x) → T (k (complement x)) → ⊥

pub coherent_apart : (h : ℕ → Bool) → Coherent h → Apart h h
unfolding Coherent Apart
coherent_apart h c = c

-- What is asked of a system and its searches: from what is apart no conclusion follows on the one side and its opposite on the other; what a
-- search finds follows from what is held together with all that it finds; and of what searches find nothing is the opposite of other such.
pub record Opposed (s : System) (z : Searches) : Type 0 where
  pub infers : (h k : ℕ → Bool) → Apart h k → (x : ℕ) → T (s.infers h x) → T (s.infers k (complement x)) → ⊥
  pub follows : (i : ℕ) (h : ℕ → Bool) (x : ℕ) → i < z.count → T (z.finds i h x) → T (s.infers (λ y. h y or z.finds i h y) x)
  pub refutes : (i j : ℕ) (h k : ℕ → Bool) (x : ℕ) → T (z.finds i h x) → T (z.finds j k (complement x)) → ⊥

module _ (s : System) (z : Searches) (w : Lawful s z) (o : Opposed s z) where
  -- what a derivation holds together with what a search finds over it
  with_found : List ℕ → ℕ → ℕ → Bool
  with_found e i x = member x e or z.finds i (held e) x

  module _ (e : List ℕ) (c : Coherent (held e)) (i : ℕ) (b : i < z.count) where
    -- one more of the derivation is apart from that, if those before it are
    next_apart : (p : List ℕ) (y : ℕ) → T (yields s z (held p) y) → T (member y e) → Apart (held p) (with_found e i) → T (with_found e i (complement y)) → ⊥
    unfolding Coherent with_found
    next_apart p y t m a u =
        ⊎_elim (c y m)
        (λ v. ⊎_elim (λ n. o.infers (held p) (with_found e i) a y n (o.follows i (held e) (complement y) b v))
        (λ n. let (j, _, f) = some_elim _ _ n in o.refutes j i (held p) (held e) y f v) (or_elim _ _ t))
        (or_elim _ _ u)

    along : (p l : List ℕ) → T (derives_from s z p l) → ((x : ℕ) → T (member x l) → T (member x e)) → Apart (held p) (with_found e i) → Apart (held (p ++ l)) (with_found e i)
    unfolding Apart
    along p [] t f a = subst (λ k. Apart (held k) (with_found e i)) (sym (append-nil p)) a
    along p (y ∷ l) t f a =
        subst (λ k. Apart (held k) (with_found e i)) (snoc_append p y l)
        (along (p ++ (y ∷ [])) l (derives_later s z p y l t) (λ x m. f x (member_there x y l m))
        (λ x m u. ⊎_elim (λ n. a x n u) (λ n. next_apart p y (derives_yields s z p y l t) (f y (member_here y l)) a (subst (λ k. T (with_found e i (complement k))) n u))
        (member_snoc p y x m)))

    set_apart : T (derivation s z e) → Apart (held e) (with_found e i)
    unfolding Apart
    set_apart d = along [] e d (λ x m. m) (λ x m. absurd (member_nil x m))

  snoc_coherent : (e : List ℕ) (x : ℕ) → T (derivation s z e) → T (yields s z (held e) x) → Coherent (held e) → Coherent (held (e ++ (x ∷ [])))
  unfolding Coherent with_found Apart
  snoc_coherent e x d t c y u v =
      ⊎_elim (λ m. ⊎_elim (c y m) (λ f. clash (subst (λ k. T (member k e)) (sym (complement_complement y) ∙ ap complement f) m)) (member_snoc e x (complement y) v))
      (λ f. ⊎_elim (λ m. clash (subst (λ k. T (member (complement k) e)) f m)) (λ g. complement_other x (ap complement (sym f) ∙ g)) (member_snoc e x (complement y) v))
      (member_snoc e x y u)
    where
      -- the opposite followed, or was found
      inferred : T (s.infers (held e) x) → T (yields s z (held e) (complement x)) → ⊥
      inferred i n =
          ⊎_elim (o.infers (held e) (held e) (coherent_apart (held e) c) x i)
          (λ f. let (j, b, g) = some_elim _ _ f in
          o.infers (held e) (with_found e j) (set_apart e c j b d) x i (o.follows j (held e) (complement x) b g)) (or_elim _ _ n)

      clash : T (member (complement x) e) → ⊥
      clash m =
          ⊎_elim (λ i. inferred i (derives_yields_all s z w [] e d (complement x) m))
          (λ f. let (j, b, g) = some_elim _ _ f in
          set_apart e c j b d (complement x) m (or_right _ _ (subst (λ k. T (z.finds j (held e) k)) (sym (complement_complement x)) g))) (or_elim _ _ t)

  derives_coherent : (e l : List ℕ) → T (derivation s z e) → Coherent (held e) → T (derives_from s z e l) → Coherent (held (e ++ l))
  derives_coherent e [] d c t = subst (λ k. Coherent (held k)) (sym (append-nil e)) c
  derives_coherent e (x ∷ l) d c t =
      let i = derives_yields s z e x l t in
      subst (λ k. Coherent (held k)) (snoc_append e x l)
      (derives_coherent (e ++ (x ∷ [])) l (derivation_snoc s z e x d (derives_below s z e x l t) i) (snoc_coherent e x d i c) (derives_later s z e x l t))

  pub derivation_coherent : (l : List ℕ) → T (derivation s z l) → Coherent (held l)
  unfolding derives_from Coherent
  derivation_coherent l t = derives_coherent [] l tt (λ x u _. member_nil x u) t

-- of two tests that exclude each other one weighs at most
two_weights : (a b : Bool) (u v m : ℕ) → u ≡ m → v ≡ m → (T a → T b → ⊥) → weigh a u + weigh b v ≤ m
unfolding weigh
two_weights true true u v m e f n = absurd (n tt tt)
two_weights true false u v m e f n = omega arith
two_weights false b u v m e f n = let l : weigh b v ≤ v = weigh_le b v in omega arith

-- a sum over a coherent test, where a number and its opposite weigh the same
pub coherent_total : (m : ℕ) (h : ℕ → Bool) (g : ℕ → ℕ) → Coherent h → total (2 * m) (λ x. weigh (h x) (g (x / 2))) ≤ total m g
unfolding total Coherent
coherent_total m h g c =
    subst (λ k. k ≤ total m g) (sym (total_grid 2 m (λ x. weigh (h x) (g (x / 2))))) (total_le m _ g (λ j _. pair j))
  where
    apart : (j : ℕ) → T (h (2 * j + 0)) → T (h (2 * j + 1)) → ⊥
    apart j t u = let e : 2 * j + 1 ≡ complement (2 * j + 0) = omega arith in c (2 * j + 0) t (subst (λ z. T (h z)) e u)

    half : (j b : ℕ) → b < 2 → g ((2 * j + b) / 2) ≡ g j
    half j b l = let e : (2 * j + b) / 2 ≡ j = omega arith in ap g e

    pair : (j : ℕ) → total 2 (λ b. weigh (h (2 * j + b)) (g ((2 * j + b) / 2))) ≤ g j
    pair j =
        let l : weigh (h (2 * j + 0)) (g ((2 * j + 0) / 2)) + weigh (h (2 * j + 1)) (g ((2 * j + 1) / 2)) ≤ g j =
        two_weights (h (2 * j + 0)) (h (2 * j + 1)) _ _ (g j) (half j 0 (omega arith)) (half j 1 (omega arith)) (apart j) in
        omega arith

-- a distinct coherent list of numbers below 2 m has at most m elements
pub coherent_length : (m : ℕ) (l : List ℕ) → T (distinct l) → ((x : ℕ) → T (member x l) → x < 2 * m) → Coherent (held l) → length l ≤ m
coherent_length m l t b c =
    omega (arith, distinct_count (2 * m) l t b, coherent_total m (held l) (λ _. 1) c, total_const m 1)
