-- Document 01, Words: what a table says, a defeasible theory.
use Rattle.std.specs.Prelude.{ℕ, ◌+◌, ◌-◌, ◌*◌, ◌/◌, ◌%◌, Bool, true, false, eqb, ltb}
use mathlib.Core.List.{List}
use Rattle.std.proofs.Math.ListN
use Rattle.logic.specs.Tests.{◌and◌, every, some, every_of, total}

-- "With A atoms, atom a has literal 2a (it holds) and literal 2a+1 (it does not)."
abbrev pub atom : ℕ → ℕ
atom q = q / 2

-- "The complement of a literal flips its lowest bit."
abbrev pub complement : ℕ → ℕ
complement q = 2 * (q / 2) + (1 - q % 2)

-- "A rule has a kind (0 strict, 1 defeasible, 2 defeater), one head, and a set of antecedents, all literals."
pub data Kind : Type 0 where
  strict defeasible defeater : Kind

pub record Rule : Type 0 where
  pub kind : Kind
  pub head : ℕ
  pub body : List ℕ

-- "A pair "t over s" says that rule t is stronger than rule s."
pub record Pair : Type 0 where
  pub stronger : ℕ
  pub weaker : ℕ

-- Facts, rules and pairs are numbered from 0; what stands at or past their number plays no part.
pub record Theory : Type 0 where
  pub atoms : ℕ
  pub facts : ℕ
  pub fact : ℕ → ℕ
  pub rules : ℕ
  pub rule : ℕ → Rule
  pub pairs : ℕ
  pub pair : ℕ → Pair

unfoldable pub is_strict : Kind → Bool
is_strict strict = true
is_strict defeasible = false
is_strict defeater = false

unfoldable pub can_support : Kind → Bool
can_support strict = true
can_support defeasible = true
can_support defeater = false

module _ (d : Theory) where
  abbrev pub kind_of : ℕ → Kind
  kind_of r = (d.rule r).kind

  abbrev pub head_of : ℕ → ℕ
  head_of r = (d.rule r).head

  abbrev pub body_of : ℕ → List ℕ
  body_of r = (d.rule r).body

  abbrev pub is_fact : ℕ → Bool
  is_fact q = some d.facts (λ i. eqb (d.fact i) q)

  -- a strict rule for q
  unfoldable pub strict_for : ℕ → ℕ → Bool
  strict_for r q = is_strict (kind_of r) and eqb (head_of r) q

  -- "A supporter of q is a strict or defeasible rule with head q."
  unfoldable pub supporter : ℕ → ℕ → Bool
  supporter r q = can_support (kind_of r) and eqb (head_of r) q

  -- "An attacker of q is any rule, defeaters included, whose head is the complement of q."
  unfoldable pub attacker : ℕ → ℕ → Bool
  attacker r q = eqb (head_of r) (complement q)

  -- "Pairs count as listed; no closure is taken"
  unfoldable pub superior : ℕ → ℕ → Bool
  superior t s = some d.pairs (λ i. eqb (d.pair i).stronger t and eqb (d.pair i).weaker s)

  -- B, the number of antecedent entries
  abbrev pub entries : ℕ
  entries = total d.rules (λ r. ListN.length (body_of r))

  -- "Size is A+F+N+B+P."
  abbrev pub size : ℕ
  size = d.atoms + d.facts + d.rules + entries + d.pairs

  -- no literal at or above 2A and no rule number at or above N
  abbrev pub is_literal : ℕ → Bool
  is_literal q = ltb q (2 * d.atoms)

  abbrev pub proper : Bool
  proper =
      every d.facts (λ i. is_literal (d.fact i)) and every d.rules (λ r. is_literal (head_of r))
      and every d.rules (λ r. every_of (body_of r) is_literal)
      and every d.pairs (λ i. ltb (d.pair i).stronger d.rules and ltb (d.pair i).weaker d.rules)
