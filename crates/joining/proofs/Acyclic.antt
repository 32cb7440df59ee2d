-- The join of two relations without cycles, by steps from the one to the other alone, has none. Assumes nothing.
use Prim.Native.Nat.{ℕ, ◌+◌, ◌-◌, ◌≤◌, ◌<◌}
use native.Mathlib.Nat.{lt_irrefl, lt_of_lt_of_le}
use mathlib.Core.Path.{refl}
use mathlib.Core.Logic.{◌⊎◌, inl, inr, ⊎_elim}
use mathlib.Core.Bool.{Bool}
use lib.Dec.{T}
use lib.ListN.{length}
use Rattle.logic.specs.Theory.{superior}
use Rattle.logic.specs.Cycle.{Leads, one, more, Cycle}
use Rattle.logic.proofs.Tests.{at_most}
use Rattle.logic.proofs.Theories as theories
use Rattle.table.specs.declared.edition.Edition.{Edition}
use Rattle.files.specs.Contents.{Content, theory_from}
use Rattle.files.proofs.Proper.{Proper}
use Rattle.joining.specs.Joining.{over, joined}
use Rattle.joining.proofs.Pairing.{superior_listed}
use Rattle.joining.proofs.Rows.{weaker_in, over_cases}

-- a relation of the numbers below m, one of the numbers from m on, and steps from the former to the latter
module _ (m : ℕ) (A B R : ℕ → ℕ → Bool) (below : (t s : ℕ) → T (A t s) → (t < m) × (s < m))
    (step : (t s : ℕ) → T (R t s) → T (A t s) ⊎ (((m ≤ t) × (m ≤ s) × T (B (t - m) (s - m))) ⊎ ((t < m) × (m ≤ s)))) where
  -- from m on a way stays there
  up_step : (t s : ℕ) → m ≤ t → T (R t s) → (m ≤ s) × T (B (t - m) (s - m))
  up_step t s h r =
      ⊎_elim (λ a. absurd (lt_irrefl t (lt_of_lt_of_le (below t s a).0 h))) (⊎_elim (λ b. (b.1, b.2)) (λ c. absurd (lt_irrefl t (lt_of_lt_of_le c.0 h)))) (step t s r)

  up_way : {t s : ℕ} → m ≤ t → Leads R t s → (m ≤ s) × Leads B (t - m) (s - m)
  up_way h (one {r} {s} p) = let (k, b) = up_step r s h p in (k, one b)
  up_way h (more {r} {s} p l) = let (k, b) = up_step r s h p in let (i, w) = up_way k l in (i, more b w)

  -- and a way that ends below m was there all along
  down_step : (t s : ℕ) → s < m → T (R t s) → T (A t s)
  down_step t s h r = ⊎_elim (λ a. a) (⊎_elim (λ b. absurd (lt_irrefl s (lt_of_lt_of_le h b.1))) (λ c. absurd (lt_irrefl s (lt_of_lt_of_le h c.1)))) (step t s r)

  down_way : {t s : ℕ} → s < m → Leads R t s → Leads A t s
  down_way h (one {r} {s} p) = one (down_step r s h p)
  down_way h (more {r} {s} {t} p l) =
      ⊎_elim (λ k. absurd (lt_irrefl t (lt_of_lt_of_le h (up_way k l).0))) (λ k. more (down_step r s k p) (down_way h l)) (at_most m s)

  pub join_acyclic : (Cycle A → ⊥) → (Cycle B → ⊥) → Cycle R → ⊥
  join_acyclic a b (r, l) = ⊎_elim (λ h. b (r - m, (up_way h l).1)) (λ h. a (r, down_way h l)) (at_most m r)

-- "The result is always free of circles"
pub joined_acyclic : (e : Edition) (h t : Content) → Proper e h → Proper e t → Cycle (superior (theory_from (joined h t))) → ⊥
unfolding theory_from
joined_acyclic e h t p q =
    join_acyclic (length h.rules) (superior (theory_from h)) (superior (theory_from t)) (superior (theory_from (joined h t)))
    (λ x y u. (theories.superior_below (theory_from h) p.ranges x y u, weaker_in (theory_from h) p.ranges x y u))
    (λ x y u. ⊎_elim inl (λ v. inr (⊎_elim inl (λ w. inr (w.0, w.1)) v))
    (over_cases (theory_from h) (theory_from t) x y
    ((superior_listed (joined h t) (length h.rules + length t.rules) (length h.rules + length t.rules) (over (theory_from h) (theory_from t)) refl x y).0 u).2))
    p.acyclic q.acyclic
