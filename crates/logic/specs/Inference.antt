-- Document 01, When a conclusion follows (document 004, Proof Theory): the inference rules of the plain reading, over a test
-- `holds q t`: tag t of literal q is held.
use Rattle.std.specs.Prelude.{ℕ, zero, suc, Bool}
use Rattle.logic.specs.Tests.{◌and◌, ◌or◌, isnt, ◌implies◌, every, some, every_of, some_of}
use Rattle.logic.specs.Theory.{Theory, complement, body_of, is_fact, strict_for, supporter, attacker, superior}

-- "Tags: 0 +Δ (definitely proved), 1 −Δ (definitely refuted), 2 +∂ (defeasibly proved), 3 −∂ (defeasibly refuted)."
abbrev pub +Δ : ℕ
+Δ = 0

abbrev pub −Δ : ℕ
−Δ = 1

abbrev pub +∂ : ℕ
+∂ = 2

abbrev pub −∂ : ℕ
−∂ = 3

-- given the test of rules that have an antecedent refuted: "q is no fact, and each strict rule for q has" one; "each supporter has" one
module _ (d : Theory) (out : ℕ → Bool) where
  abbrev pub not_definitely_by : ℕ → Bool
  not_definitely_by q = isnt (is_fact d q) and every d.rules (λ r. strict_for d r q implies out r)

  abbrev pub unsupported_by : ℕ → Bool
  unsupported_by q = every d.rules (λ r. supporter d r q implies out r)

module _ (d : Theory) (holds : ℕ → ℕ → Bool) where
  -- all antecedents of a rule have the tag; one of them has it
  unfoldable pub all_have : ℕ → ℕ → Bool
  all_have t r = every_of (body_of d r) (λ a. holds a t)

  unfoldable pub one_has : ℕ → ℕ → Bool
  one_has t r = some_of (body_of d r) (λ a. holds a t)

  -- "+Δq: q is a fact, or some strict rule for q has +Δ held for all antecedents."
  abbrev pub definitely : ℕ → Bool
  definitely q = is_fact d q or some d.rules (λ r. strict_for d r q and all_have +Δ r)

  -- "−Δq: q is no fact, and each strict rule for q has an antecedent with −Δ held."
  abbrev pub not_definitely : ℕ → Bool
  not_definitely q = not_definitely_by d (one_has −Δ) q

  -- "each attacker either has an antecedent with −∂ held, or is weaker by a listed pair than a supporter of q whose antecedents
  -- all have +∂ held"
  abbrev pub countered : ℕ → ℕ → Bool
  countered q s = one_has −∂ s or some d.rules (λ t. supporter d t q and all_have +∂ t and superior d t s)

  -- "+∂q: +Δq is held; or all of: some supporter has +∂ held for every antecedent; −Δ of the complement is held; each attacker"
  -- is countered.
  abbrev pub defeasibly : ℕ → Bool
  defeasibly q =
      holds q +Δ
      or some d.rules (λ r. supporter d r q and all_have +∂ r) and holds (complement q) −Δ
      and every d.rules (λ s. attacker d s q implies countered q s)

  -- "some attacker has +∂ held for all antecedents, and each supporter either has an antecedent with −∂ held or is not stronger
  -- than that attacker"
  abbrev pub uncountered : ℕ → ℕ → Bool
  uncountered q s = all_have +∂ s and every d.rules (λ t. supporter d t q implies one_has −∂ t or isnt (superior d t s))

  -- "each supporter has an antecedent with −∂ held": a literal without supporters is unsupported
  abbrev pub unsupported : ℕ → Bool
  unsupported q = unsupported_by d (one_has −∂) q

  -- "−∂q: −Δq is held, and one of:" it is unsupported; "+Δ of the complement is held; some attacker" is uncountered. The first of the three
  -- is given by its test of rules.
  abbrev pub not_defeasibly_by : (ℕ → Bool) → ℕ → Bool
  not_defeasibly_by out q =
      holds q −Δ
      and (unsupported_by d out q or holds (complement q) +Δ or some d.rules (λ s. attacker d s q and uncountered q s))

  abbrev pub not_defeasibly : ℕ → Bool
  not_defeasibly q = not_defeasibly_by (one_has −∂) q

  -- the inference rule of each tag; there are no tags past 3
  unfoldable pub follows : ℕ → ℕ → Bool
  follows q zero = definitely q
  follows q (suc zero) = not_definitely q
  follows q (suc (suc zero)) = defeasibly q
  follows q (suc (suc (suc t))) = not_defeasibly q
