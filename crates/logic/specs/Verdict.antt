-- Document 01, The sheet: "Verdict of atom a, first that fits: go (+∂ of 2a), hold (+∂ of 2a+1), split (−∂ of both), open."
-- Document 02, S-1: "From now on an atom whose two literals both have +∂ reads clash, tested before go." S-6 adds idle.
use Rattle.std.specs.Prelude.{ℕ, ◌+◌, ◌*◌, Bool, false, cond}
use Rattle.logic.specs.Tests.{◌and◌}
use Rattle.logic.specs.Theory.{Theory}
use Rattle.logic.specs.Inference.{+∂, −∂, unsupported}

pub data Verdict : Type 0 where
  clash go hold idle split «open» : Verdict

-- S-6: "The order is clash, go, hold, idle, split, open.": the first whose test passes, and "open" where none does
abbrev pub first_fit : Bool → Bool → Bool → Bool → Bool → Verdict
first_fit isClash isGo isHold isIdle isSplit =
    cond isClash clash (cond isGo go (cond isHold hold (cond isIdle idle (cond isSplit split «open»))))

module _ (holds : ℕ → ℕ → Bool) where
  -- both literals of an atom have the tag
  abbrev pub of_both : ℕ → ℕ → Bool
  of_both t a = holds (2 * a) t and holds (2 * a + 1) t

  -- the verdict, given the test of idle
  abbrev pub verdict_with : Bool → ℕ → Verdict
  verdict_with isIdle a = first_fit (of_both +∂ a) (holds (2 * a) +∂) (holds (2 * a + 1) +∂) isIdle (of_both −∂ a)

  -- S-6: "idle: −∂ of both literals, and every supporter of either has an antecedent with −∂", given the test of literals whose every
  -- supporter has one
  abbrev pub verdict_by : (ℕ → Bool) → ℕ → Verdict
  verdict_by without a = verdict_with (of_both −∂ a and (without (2 * a) and without (2 * a + 1))) a

  -- the verdict before S-6: no atom is idle
  abbrev pub former_verdict : ℕ → Verdict
  former_verdict a = verdict_with false a

-- the verdict of an atom of a theory by what is held
abbrev pub verdict : Theory → (ℕ → ℕ → Bool) → ℕ → Verdict
verdict d holds a = verdict_by holds (unsupported d holds) a
