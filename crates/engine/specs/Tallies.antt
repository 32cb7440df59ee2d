-- Document 01, The rule of working, and its price: "A single running tally of worked and spent is lent to each working and changed
-- there." What processing the next line asks, and what it changes.
use Rattle.std.specs.Prelude.{ℕ, ◌+◌, ◌-◌, ◌*◌, ◌≤◌, ◌<◌, ◌≡◌, Bool, true, false, cond, List, T, leb, get_or}
use Rattle.logic.specs.Theory.{Theory}
use Rattle.logic.specs.Plain.{plain_system}
use Rattle.engine.specs.declared.tally.Tally.{Tally}
use Rattle.memory.specs.Layout.{tag_count}
use Rattle.memory.specs.Memory.{held_of, written_of}
use Rattle.memory.specs.Api.{adds}
use Rattle.engine.specs.Working.{Logged, Processed}

-- "Lines are worked in log order": the next one
abbrev pub next : List ℕ → Tally → ℕ
next log t = get_or log t.worked 0

-- its cost, by what is processed without it and with it
abbrev pub due : Theory → List ℕ → ℕ → ℕ
due d mem x = (plain_system d).cost (held_of mem) (adds (held_of mem) x) x

-- "a line is worked if its price fits what is left"
abbrev pub fits : ℕ → Tally → ℕ → Bool
fits budget t cost = leb cost (budget - t.spent)

-- "how many of them were worked, and .. Size plus the price of each line worked": the tally after a line of that cost
unfoldable pub tally_after : ℕ → ℕ → Tally → Tally
tally_after budget cost t = cond (fits budget t cost) (record { worked = t.worked + 1; spent = t.spent + cost }) t

-- There is a next line, written and not processed, and no more was spent than the budget.
pub record Next (d : Theory) (budget : ℕ) (mem log : List ℕ) (n : ℕ) (t : Tally) : Type 0 where
  pub logged : Logged d mem log n
  pub more : t.worked < n
  pub small : next log t < tag_count * (2 * d.atoms)
  pub written : written_of mem (next log t) ≡ true
  pub new : held_of mem (next log t) ≡ false
  pub within : t.spent ≤ budget

-- The next line was processed, if its cost fits; if not, nothing has changed.
pub record Stepped (d : Theory) (budget : ℕ) (mem log : List ℕ) (n : ℕ) (t : Tally) (mem' log' : List ℕ) (n' : ℕ) (t' : Tally) : Type 0 where
  pub tally : t' ≡ tally_after budget (due d mem (next log t)) t
  pub processed : T (fits budget t (due d mem (next log t))) → Processed d (next log t) mem log n mem' log' n'
  pub stopped : (T (fits budget t (due d mem (next log t))) → ⊥) → (mem' ≡ mem) × (log' ≡ log) × (n' ≡ n)
