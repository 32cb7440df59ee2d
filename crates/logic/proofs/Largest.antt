-- The largest list in which each fits: each of it does, and it holds every set in which each does. Assumes nothing.
use Prim.Native.Nat.{ℕ, zero, suc, ◌≤◌, ◌<◌}
use native.Mathlib.Nat.{not-suc-le-zero}
use native.Mathlib.Omega.{arith}
use mathlib.Core.Path.{◌≡◌, refl, sym, ◌∙◌, ap, subst}
use mathlib.Core.Logic.{⊎_elim}
use mathlib.Core.Bool.{Bool}
use mathlib.Core.List.{List, [], ◌∷◌}
use lib.Dec.{T}
use lib.ListN.{length}
use Rattle.logic.specs.Tests.{every_of, member, upto, pick}
use Rattle.logic.specs.Largest.{prune, largest}
use Rattle.logic.proofs.Tests.{test_cases, cond_cases, and_intro, every_of_elim}
use Rattle.logic.proofs.Lists.{pick_all, pick_le, member_pick, member_pick_intro, member_upto, member_upto_intro, distinct_upto}
use Rattle.logic.proofs.Pigeon.{pigeon}

-- `pick` takes something out unless all pass, and then nothing
pick_lt : (l : List ℕ) (p : ℕ → Bool) → (T (every_of l p) → ⊥) → length (pick l p) < length l
unfolding pick every_of
pick_lt [] p Some-out = absurd (Some-out tt)
pick_lt (x ∷ l) p Some-out =
    cond_cases (λ k. length k < suc (length l)) (p x) (x ∷ pick l p) (pick l p)
    (λ t. omega (arith, pick_lt l p (λ u. Some-out (and_intro _ _ t u)))) (λ _. omega (arith, pick_le l p))

module _ (fits : List ℕ → ℕ → Bool) where
  prune_fixed : (n : ℕ) (l : List ℕ) → T (every_of l (fits l)) → prune fits n l ≡ l
  unfolding prune
  prune_fixed zero l t = refl
  prune_fixed (suc n) l t = ap (prune fits n) (pick_all l (fits l) t) ∙ prune_fixed n l t

  -- of k rounds over at most k numbers one takes nothing out, and so do those after it
  prune_fits : (k : ℕ) (l : List ℕ) → length l ≤ k → T (every_of (prune fits k l) (fits (prune fits k l)))
  unfolding prune every_of
  prune_fits zero [] h = tt
  prune_fits zero (x ∷ l) h = absurd (not-suc-le-zero h)
  prune_fits (suc k) l h =
      ⊎_elim
      (λ t. subst (λ m. T (every_of m (fits m))) (sym (prune_fixed (suc k) l t)) t)
      (λ Some-out. prune_fits k (pick l (fits l)) (omega (arith, pick_lt l (fits l) Some-out))) (test_cases (every_of l (fits l)))

  -- what the rounds leave stood there before
  pub prune_member : (n : ℕ) (l : List ℕ) (x : ℕ) → T (member x (prune fits n l)) → T (member x l)
  unfolding prune
  prune_member zero l x m = m
  prune_member (suc n) l x m = (member_pick l (fits l) x (prune_member n (pick l (fits l)) x m)).0

  pub largest_below : (n x : ℕ) → T (member x (largest fits n)) → x < n
  unfolding largest
  largest_below n x m = member_upto n x (prune_member n (upto n) x m)

  -- each of it fits
  pub largest_fits : (n x : ℕ) → T (member x (largest fits n)) → T (fits (largest fits n) x)
  unfolding largest
  largest_fits n x m =
      every_of_elim _ _ (prune_fits n (upto n) (pigeon n (upto n) (distinct_upto n) (member_upto n))) x m

  -- no round takes out of a list what fits in every list that has the whole set
  prune-holds {ℓ} : (H : ℕ → Type ℓ) → ((l : List ℕ) → ((y : ℕ) → H y → T (member y l)) → (x : ℕ) → H x → T (fits l x))
      → (n : ℕ) (l : List ℕ) → ((y : ℕ) → H y → T (member y l)) → (x : ℕ) → H x → T (member x (prune fits n l))
  unfolding prune
  prune-holds H f zero l a x t = a x t
  prune-holds H f (suc n) l a x t = prune-holds H f n (pick l (fits l)) (λ y u. member_pick_intro l (fits l) y (a y u) (f l a y u)) x t

  -- and it holds every set of numbers below n that fit in each list that has the whole set
  pub largest-holds {ℓ} : (H : ℕ → Type ℓ) (n : ℕ) → ((y : ℕ) → H y → y < n)
      → ((l : List ℕ) → ((y : ℕ) → H y → T (member y l)) → (x : ℕ) → H x → T (fits l x)) → (x : ℕ) → H x → T (member x (largest fits n))
  unfolding largest
  largest-holds H n b f = prune-holds H f n (upto n) (λ y t. member_upto_intro n y (b y t))
