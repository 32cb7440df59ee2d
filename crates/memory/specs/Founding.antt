-- Document 02, S-9: what a search asks of a literal apart from its set, and of a rule, by the search's number: 0 for −Δ, 1 for −∂. A literal is
-- unfounded (logic's Unfounded) exactly if it is not barred, and secure or the set has an antecedent of each needy rule for it.
use Rattle.std.specs.Prelude.{ℕ, zero, suc, Bool, List, false}
use Rattle.logic.specs.Tests.{◌and◌, ◌or◌, isnt, some}
use Rattle.logic.specs.Theory.{Theory, complement, is_strict, can_support, kind_of, is_fact, attacker}
use Rattle.logic.specs.Inference.{+Δ, −Δ, −∂, one_has, uncountered}
use Rattle.logic.specs.Reading.{tagged_by}
use Rattle.memory.specs.Layout.{tag_count}
use Rattle.memory.specs.Memory.{held_of}

-- what is processed, as a test of literals and tags
abbrev pub held_in : List ℕ → ℕ → ℕ → Bool
held_in m = tagged_by tag_count (held_of m)

module _ (d : Theory) (holds : ℕ → ℕ → Bool) where
  -- no set has it: it is a fact; it does not have −Δ
  unfoldable pub barred : ℕ → ℕ → Bool
  barred zero q = is_fact d q
  barred (suc i) q = isnt (holds q −Δ)

  -- it needs nothing of the set: "the complement has +Δ, or a firing attacker is such that each supporter is out or not stronger"
  unfoldable pub secure : ℕ → ℕ → Bool
  secure zero q = false
  secure (suc i) q = holds (complement q) +Δ or some d.rules (λ s. attacker d s q and uncountered d holds q s)

  -- a rule that is asked for an antecedent in the set: a strict one, or one that can support, of which no antecedent has the tag
  unfoldable pub needy : ℕ → ℕ → Bool
  needy zero r = is_strict (kind_of d r) and isnt (one_has d holds −Δ r)
  needy (suc i) r = can_support (kind_of d r) and isnt (one_has d holds −∂ r)
