-- Cycles of pairs: what excludes one, what has one, and that the test `cyclic` finds it. Assumes nothing.
use Prim.Native.Nat.{ℕ, zero, suc, ◌+◌, ◌<◌}
use native.Mathlib.Nat.{lt_irrefl}
use native.Mathlib.Omega.{arith}
use mathlib.Core.Path.{sym, subst}
use mathlib.Core.Logic.{⊎_elim}
use mathlib.Core.Bool.{Bool}
use mathlib.Core.List.{List, [], ◌∷◌}
use lib.Dec.{T}
use lib.ListN.{length}
use Rattle.logic.specs.Tests.{member, distinct}
use Rattle.logic.specs.System.{held}
use Rattle.logic.specs.Largest.{largest}
use Rattle.logic.specs.Cycle.{Leads, one, more, Cycle, leads_into, cyclic}
use Rattle.logic.proofs.Tests.{test_cases, and_intro, isnt_intro, some_of_intro, some_of_elim}
use Rattle.logic.proofs.Lists.{filled_elim, filled_intro, member_cons_elim, member_nil}
use Rattle.logic.proofs.Pigeon.{pigeon}
use Rattle.logic.proofs.Largest.{largest_below, largest_fits, largest-holds}

-- a way goes on at its end; two ways join
pub leads_snoc : {R : ℕ → ℕ → Bool} {r s t : ℕ} → Leads R r s → T (R s t) → Leads R r t
leads_snoc (one p) q = more p (one q)
leads_snoc (more p l) q = more p (leads_snoc l q)

pub leads_trans : {R : ℕ → ℕ → Bool} {r s t : ℕ} → Leads R r s → Leads R s t → Leads R r t
leads_trans (one p) m = more p m
leads_trans (more p l) m = more p (leads_trans l m)

module _ (R : ℕ → ℕ → Bool) where
  -- what stands on a cycle leads to something on a cycle
  cycle_step : {r s : ℕ} → Leads R r s → Leads R s r → (t : ℕ) × T (R r t) × Leads R t t
  cycle_step (one {s = t} p) m = (t, p, leads_snoc m p)
  cycle_step (more {s = t} p l) m = (t, p, leads_snoc (leads_trans l m) p)

  pub cycle_next : (r : ℕ) → Leads R r r → (t : ℕ) × T (R r t) × Leads R t t
  cycle_next r l = cycle_step l l

  rank_falls : (rank : ℕ → ℕ) → ((r s : ℕ) → T (R r s) → rank s < rank r) → {r s : ℕ} → Leads R r s → rank s < rank r
  rank_falls rank f (one {r} {s} p) = f r s p
  rank_falls rank f (more {r} {s} {t} p l) = omega (arith, f r s p, rank_falls rank f l)

  -- a rank that falls along the relation excludes a cycle
  pub rank_excludes : (rank : ℕ → ℕ) → ((r s : ℕ) → T (R r s) → rank s < rank r) → Cycle R → ⊥
  rank_excludes rank f c = lt_irrefl (rank c.0) (rank_falls rank f c.1)

  module _ (h : ℕ → Bool) (n : ℕ) (below : (r : ℕ) → T (h r) → r < n)
      (next : (r : ℕ) → T (h r) → (s : ℕ) × T (R r s) × T (h s)) where
    -- distinct members of the set that all lead to r, one more at each step, until r is one of them
    grow : (k r : ℕ) (l : List ℕ) → n < length l + k → T (h r) → T (distinct l) → ((y : ℕ) → T (member y l) → T (h y) × Leads R y r)
        → Cycle R
    unfolding distinct
    grow zero r l f t u a = absurd (lt_irrefl n (omega (arith, pigeon n l u (λ y m. below y (a y m).0))))
    grow (suc k) r l f t u a =
        let (s, p, v) = next r t in
        let fuel : n < length (r ∷ l) + k = omega arith in
        ⊎_elim (λ m. (r, (a r m).1)) (λ new. grow k s (r ∷ l) fuel v (and_intro _ _ (isnt_intro _ new) u) (longer s p)) (test_cases (member r l))
      where
        longer : (s : ℕ) → T (R r s) → (y : ℕ) → T (member y (r ∷ l)) → T (h y) × Leads R y s
        longer s p y m =
            ⊎_elim (λ e. (subst (λ z. T (h z)) (sym e) t, subst (λ z. Leads R z s) (sym e) (one p)))
            (λ w. ((a y w).0, leads_snoc (a y w).1 p)) (member_cons_elim y r l m)

  -- a set of numbers below n, each of which leads into the set, has a cycle
  pub set_has_cycle : (h : ℕ → Bool) (n : ℕ) → ((r : ℕ) → T (h r) → r < n)
      → ((r : ℕ) → T (h r) → (s : ℕ) × T (R r s) × T (h s)) → (r : ℕ) → T (h r) → Cycle R
  unfolding distinct
  set_has_cycle h n below next r t = grow h n below next (suc n) r [] (omega arith) t tt (λ y m. absurd (member_nil y m))

  -- what is left has a cycle
  pub cyclic_sound : (n : ℕ) → T (cyclic R n) → Cycle R
  unfolding cyclic
  cyclic_sound n t =
      let (x, m) = filled_elim _ t in
      set_has_cycle (held (largest (leads_into R) n)) n (largest_below (leads_into R) n)
      (λ y u. let (s, v, w) = some_of_elim _ (R y) (largest_fits (leads_into R) n y u) in (s, w, v)) x m

  -- what stands on a cycle leads to another that does, so it is left
  pub cyclic_complete : (n : ℕ) → ((r s : ℕ) → T (R r s) → r < n) → Cycle R → T (cyclic R n)
  unfolding cyclic
  cyclic_complete n b c =
      filled_intro _ c.0
      (largest-holds (leads_into R) (λ y. Leads R y y) n (λ y e. let (t, p, _) = cycle_next y e in b y t p)
      (λ l a y e. let (t, p, f) = cycle_next y e in some_of_intro l (R y) t (a t f) p) c.0 c.1)

-- a cycle against the direction is a cycle
leads_flip : {R : ℕ → ℕ → Bool} {r s : ℕ} → Leads (λ a b. R b a) r s → Leads R s r
leads_flip (one p) = one p
leads_flip (more p l) = leads_snoc (leads_flip l) p

pub cycle_flip : (R : ℕ → ℕ → Bool) → Cycle (λ a b. R b a) → Cycle R
cycle_flip R c = (c.0, leads_flip c.1)
