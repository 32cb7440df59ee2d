-- Document 01, What the console turns away, 7: "the pairs, followed stronger to weaker, lead from some rule back to itself".
-- Over any relation of numbers below n; a theory's is `superior d`, below its number of rules.
use Rattle.std.specs.Prelude.{ℕ, Bool, List, T}
use Rattle.logic.specs.Tests.{isnt, some_of, empty}
use Rattle.logic.specs.Largest.{largest}

pub data Leads (R : ℕ → ℕ → Bool) : ℕ → ℕ → Type 0 where
  one : {r s : ℕ} → T (R r s) → Leads R r s
  more : {r s t : ℕ} → T (R r s) → Leads R s t → Leads R r t

abbrev pub Cycle : (ℕ → ℕ → Bool) → Type 0
Cycle R = (r : ℕ) × Leads R r r

module _ (R : ℕ → ℕ → Bool) where
  -- a number that leads to one of the list
  abbrev pub leads_into : List ℕ → ℕ → Bool
  leads_into l r = some_of l (R r)

  -- some numbers below n lead into each other for ever
  unfoldable pub cyclic : ℕ → Bool
  cyclic n = isnt (empty (largest leads_into n))
