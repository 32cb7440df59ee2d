-- Document 01, When a conclusion follows, by the words of the memory: each inference rule as a test of a few counts. And the
-- price of a line, by counts alone (document 02, S-4).
use Rattle.std.specs.Prelude.{ℕ, ◌+◌, ◌-◌, Bool, cond, ltb, eqb}
use Rattle.logic.specs.Tests.{◌and◌, ◌or◌, isnt, weigh, total}
use Rattle.logic.specs.Theory.{complement}
use Rattle.logic.specs.Standing.{Standing, firing, out, waiting, first_fit}
use Rattle.memory.specs.Fields.{mark, has, size_f, kind_f, naming_f, strict_f, support_f, headed_f, fact_f, proved_f, refuted_f, firing_f, out_f, countered_f, unopposed_f}

module _ (w : ℕ → ℕ → ℕ) where
  -- tag t of literal q is processed
  abbrev pub processed : ℕ → ℕ → Bool
  processed q t = eqb (w (mark t) q) 2

  -- +Δ: a fact, or a strict rule fires
  abbrev pub definitely_by : ℕ → Bool
  definitely_by q = ltb 0 (w fact_f q) or ltb 0 (w proved_f q)

  -- −Δ: no fact, and every strict rule is out
  abbrev pub not_definitely_by : ℕ → Bool
  not_definitely_by q = eqb (w fact_f q) 0 and eqb (w refuted_f q) (w strict_f q)

  -- +∂: a supporter fires, and every attacker is out or has a rival that fires
  abbrev pub defeasibly_by : ℕ → Bool
  defeasibly_by q =
      processed q 0 or (ltb 0 (w firing_f q) and processed (complement q) 1 and eqb (w countered_f (complement q)) (w headed_f (complement q)))

  -- −∂: every supporter is out, or an attacker fires with every rival out
  abbrev pub not_defeasibly_by : ℕ → Bool
  not_defeasibly_by q =
      processed q 1 and (eqb (w out_f q) (w support_f q) or processed (complement q) 0 or ltb 0 (w unopposed_f (complement q)))

  -- how rule r stands by ∂, where so many antecedents more have +∂, and −∂
  abbrev pub standing_with : ℕ → ℕ → ℕ → Standing
  standing_with plus minus r = first_fit (eqb (w (has 2) r + plus) (w size_f r)) (ltb 0 (w (has 3) r + minus))

  -- Document 01, its price: one antecedent more of rule r gets tag t, 2 or 3, and the rule was open and is decided by it
  abbrev pub decided_by : ℕ → ℕ → Bool
  decided_by t r = isnt (eqb (w (has 2) r) (w size_f r)) and eqb (w (has 3) r) 0 and (eqb t 3 or eqb (w (has 2) r + 1) (w size_f r))

  -- what that antecedent makes of a rule that waits
  abbrev pub decided_to : ℕ → ℕ → Standing
  decided_to t r = cond (decided_by t r) (cond (eqb t 2) firing out) waiting

  -- what a use of a literal adds to the cost of its tag t: a definite tag visits strict rules alone
  unfoldable pub charge_by : ℕ → ℕ → ℕ
  charge_by t r = cond (ltb t 2) (weigh (eqb (w kind_f r) 0) 1) (1 + weigh (decided_by t r) (w naming_f r))

  -- Document 01: "A line costs 1, plus 1 for each visited rule, plus, for a ∂ line, for each rule that it settles, the number of pairs
  -- naming that rule." By its tag, and by the uses of its literal from a first one to an end.
  abbrev pub cost_by : (ℕ → ℕ) → ℕ → ℕ → ℕ → ℕ
  cost_by u t first end = 1 + total (end - first) (λ k. charge_by t (u (first + k)))
