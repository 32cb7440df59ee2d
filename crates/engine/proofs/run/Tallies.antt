-- A line is worked with a tally: what the test of its cost decides, and what the tally tells of it. Assumes nothing.
use Prim.Native.Nat.{ℕ, ◌+◌, ◌-◌, ◌*◌, ◌/◌, ◌≤◌, ◌<◌}
use native.Mathlib.Nat.{lt_irrefl, not-le_of_lt}
use native.Mathlib.Omega.{arith}
use mathlib.Core.Path.{◌≡◌, refl, sym, ◌∙◌, ap, subst}
use mathlib.Core.Logic.{⊎_elim}
use mathlib.Core.Bool.{cond}
use mathlib.Core.List.{List}
use lib.Dec.{leb→le, le→leb}
use borrow.Author.Tests.{leb-false, le-leb, lt-leb}
use Rattle.logic.specs.Theory.{Theory}
use Rattle.logic.proofs.Tests.{false_of, test_cases}
use Rattle.table.specs.declared.accepted.Table.{Table}
use Rattle.table.specs.Tables.{theory_said}
use Rattle.memory.specs.Layout.{tag_count}
use Rattle.memory.specs.Api.{UsesAt, UsesIn, cost_in}
use Rattle.memory.proofs.charging.Costing.{cost_processed, uses_in}
use Rattle.engine.specs.declared.tally.Tally.{Tally}
use Rattle.engine.specs.Tallies.{next, due, fits, tally_after, Next, Stepped}
use Rattle.engine.specs.Working.{Processed}
use Rattle.engine.proofs.run.Trying.{atoms_in}

-- the same of a table that is the other
pub next_by : {t u : Table} {budget : ℕ} {m l : List ℕ} {n : ℕ} {a : Tally} → u ≡ t → Next (theory_said t) budget m l n a → Next (theory_said u) budget m l n a
next_by {budget = budget} {m} {l} {n} {a} e f = subst (λ k. Next (theory_said k) budget m l n a) (sym e) f

pub stepped_by : {t u : Table} {budget : ℕ} {m l m' l' : List ℕ} {n n' : ℕ} {a z : Tally} → u ≡ t → Stepped (theory_said u) budget m l n a m' l' n' z
    → Stepped (theory_said t) budget m l n a m' l' n' z
stepped_by {budget = budget} {m} {l} {m'} {l'} {n} {n'} {a} {z} e f = subst (λ k. Stepped (theory_said k) budget m l n a m' l' n' z) e f

-- the tally after a cost that does not fit, and after one that fits
pub tally_same : (budget cost : ℕ) (t : Tally) → budget - t.spent < cost → tally_after budget cost t ≡ t
unfolding tally_after
tally_same budget cost t h = ap (λ b. cond b (record { worked = t.worked + 1; spent = t.spent + cost }) t) (lt-leb cost (budget - t.spent) h)

pub tally_more : (budget cost : ℕ) (t : Tally) → cost ≤ budget - t.spent → tally_after budget cost t ≡ record { worked = t.worked + 1; spent = t.spent + cost }
unfolding tally_after
tally_more budget cost t h = ap (λ b. cond b (record { worked = t.worked + 1; spent = t.spent + cost }) t) (le-leb cost (budget - t.spent) h)

-- The cost of the next line by the memory is the reading's.
module _ (table : Table) {budget : ℕ} {mem log : List ℕ} {n : ℕ} {t : Tally} (g : Next (theory_said table) budget mem log n t)
    {first end : ℕ} (at : UsesAt (theory_said table) (next log t / tag_count) first end) where
  small : next log t < tag_count * (2 * table.sizes.atoms)
  small = omega (arith, atoms_in table, g.small)

  pub cost_asks : UsesIn mem first end
  cost_asks = uses_in table.layout.now table.sizes mem (next log t) table.legal g.logged.ready small at

  pub cost_due : {cost : ℕ} → cost ≡ cost_in mem (next log t) first end → cost ≡ due (theory_said table) mem (next log t)
  cost_due e = e ∙ cost_processed table.layout.now table.sizes mem (next log t) table.legal g.logged.ready small at g.new

module _ {d : Theory} {budget : ℕ} {mem log : List ℕ} {n : ℕ} {t : Tally} {cost : ℕ} (paid : cost ≡ due d mem (next log t)) where
  pub stepped_stops : budget - t.spent < cost → Stepped d budget mem log n t mem log n t
  stepped_stops h =
      record {
        tally = sym (tally_same budget _ t less);
        processed = λ u. absurd (not-le_of_lt less (leb→le _ _ u));
        stopped = λ _. (refl, refl, refl);
      }
    where
      less : budget - t.spent < due d mem (next log t)
      less = subst (λ k. budget - t.spent < k) paid h

  pub stepped_works : cost ≤ budget - t.spent → {mem' log' : List ℕ} {n' : ℕ} → Processed d (next log t) mem log n mem' log' n'
      → Stepped d budget mem log n t mem' log' n' (record { worked = t.worked + 1; spent = t.spent + cost })
  stepped_works h k =
      record {
        tally = ap (λ p. record { worked = t.worked + 1; spent = t.spent + p }) paid ∙ sym (tally_more budget _ t enough);
        processed = λ _. k;
        stopped = λ u. absurd (u (le→leb _ _ enough));
      }
    where
      enough : due d mem (next log t) ≤ budget - t.spent
      enough = subst (λ k. k ≤ budget - t.spent) paid h

-- A step by its tally: where the worked number is as it was, the cost did not fit and nothing has changed; else it fitted.
module _ {d : Theory} {budget : ℕ} {mem log : List ℕ} {n : ℕ} {t : Tally} {mem' log' : List ℕ} {n' : ℕ} {t' : Tally} (e : Stepped d budget mem log n t mem' log' n' t') where
  abbrev cost : ℕ
  cost = due d mem (next log t)

  more_of : cost ≤ budget - t.spent → t' ≡ record { worked = t.worked + 1; spent = t.spent + cost }
  more_of h = e.tally ∙ tally_more budget cost t h

  same_of : budget - t.spent < cost → t' ≡ t
  same_of h = e.tally ∙ tally_same budget cost t h

  pub step_stopped : t'.worked ≡ t.worked → (budget - t.spent < cost) × (mem' ≡ mem) × (log' ≡ log) × (n' ≡ n) × (t' ≡ t)
  step_stopped h =
      ⊎_elim
      (λ u. absurd (lt_irrefl t.worked (omega (arith, h, ap (λ z. z.worked) (more_of (leb→le _ _ u))))))
      (λ u. let less : budget - t.spent < cost = leb-false _ _ (false_of _ u) in (less, (e.stopped u).0, (e.stopped u).1, (e.stopped u).2, same_of less))
      (test_cases (fits budget t cost))

  pub step_worked : (t'.worked ≡ t.worked → ⊥) → (cost ≤ budget - t.spent) × Processed d (next log t) mem log n mem' log' n' × (t' ≡ record { worked = t.worked + 1; spent = t.spent + cost })
  step_worked h =
      ⊎_elim
      (λ u. (leb→le _ _ u, e.processed u, more_of (leb→le _ _ u)))
      (λ u. absurd (h (ap (λ z. z.worked) (same_of (leb-false _ _ (false_of _ u))))))
      (test_cases (fits budget t cost))
