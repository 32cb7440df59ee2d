-- Document 02, S-9: what the searches of the well-founded reading ask of each member of a set of literals, over a test `holds q t` of what is
-- held. The first search is for −Δ, the second for −∂. A set whose members pass is an unfounded set, as documents 001 and 003 call such sets.
use Rattle.std.specs.Prelude.{ℕ, zero, suc, Bool}
use Rattle.logic.specs.Tests.{◌or◌}
use Rattle.logic.specs.Theory.{Theory}
use Rattle.logic.specs.Inference.{−Δ, −∂, one_has, not_definitely_by, not_defeasibly_by}

module _ (d : Theory) (holds : ℕ → ℕ → Bool) (set : ℕ → Bool) where
  -- a rule "has an antecedent with" the tag "or in the set"
  abbrev pub has_or_in : ℕ → ℕ → Bool
  has_or_in t r = one_has d (λ a u. holds a u or set a) t r

  -- "the largest set of literals in which none is a fact and each strict rule for a member has an antecedent with −Δ or in the set"
  abbrev pub unfoundedΔ : ℕ → Bool
  unfoundedΔ q = not_definitely_by d (has_or_in −Δ) q

  -- "the largest set whose members have −Δ and where, for each, the complement has +Δ, or a firing attacker is such that each supporter is out
  -- or not stronger, or each supporter has an antecedent with −∂ or in the set"
  abbrev pub unfounded∂ : ℕ → Bool
  unfounded∂ q = not_defeasibly_by d holds (has_or_in −∂) q

  -- what each search asks of a member of its set
  unfoldable pub unfounded : ℕ → ℕ → Bool
  unfounded zero q = unfoundedΔ q
  unfounded (suc i) q = unfounded∂ q
