-- Document 02, S-3: what a call answers that asks how a rule stands over the lines of a log.
use Rattle.std.specs.Prelude.{ℕ, cond, List, ltb, Result, Ok, Err}
use Rattle.logic.specs.Theory.{Theory}
use Rattle.logic.specs.System.{held}
use Rattle.logic.specs.Reading.{tagged_by}
use Rattle.logic.specs.Inference.{+∂, −∂}
use Rattle.logic.specs.Tests.{isnt, every_of, some_of}
use Rattle.logic.specs.Standing as logic
use Rattle.logic.specs.Standing.{firing, out, waiting, first_fit, standing, standing_number}
use Rattle.table.specs.declared.format.Sizes.{Sizes}
use Rattle.table.specs.declared.judge.Refusal.{Refusal}
use Rattle.table.specs.declared.judge.Refusal.TheVariants.{OutOfRange}
use Rattle.table.specs.declared.edition.Edition.{Edition}
use Rattle.table.specs.Format.{body_in, theory_of}
use Rattle.table.specs.Refusals.{Judgement, number_of, judgement_of}
use Rattle.standing.specs.declared.answer.Standing.{Standing}
use Rattle.standing.specs.declared.answer.Standing.TheVariants.{Firing, Out, Waiting}
use Rattle.standing.specs.declared.answer.StandingNumbers.{StandingNumbers}
use Rattle.standing.specs.Marks.{marked, MarkedBy}

-- the standing that each case of the enum means
unfoldable pub meant : Standing → logic.Standing
meant Firing = firing
meant Out = out
meant Waiting = waiting

-- The numbers of each answer: the number of a refusal, alone; or 0, and the number of the standing.
abbrev pub refusal_numbers : ℕ → StandingNumbers
refusal_numbers n = record { refused = n; standing = 0 }

abbrev pub standing_numbers : logic.Standing → StandingNumbers
standing_numbers x = record { refused = 0; standing = standing_number x }

unfoldable pub numbers_of : Result Standing Refusal → StandingNumbers
numbers_of (Ok x) = standing_numbers (meant x)
numbers_of (Err n) = refusal_numbers (number_of n)

-- how a rule stands by ∂ over the lines of a log; a word that is no line of the table has no part in it
abbrev pub standing_in : Theory → ℕ → List ℕ → logic.Standing
standing_in d r log = standing d 1 (tagged_by 4 (held log)) r

-- a refusal 1 to 7 of the table; 5, "a rule number not below N", of the rule; or how it stands
unfoldable pub answer_with : Judgement → Theory → ℕ → List ℕ → StandingNumbers
answer_with (Ok s) d r log = cond (ltb r s.rules) (standing_numbers (standing_in d r log)) (refusal_numbers (number_of OutOfRange))
answer_with (Err n) d r log = refusal_numbers (number_of n)

abbrev pub standing_of : Edition → List ℕ → ℕ → List ℕ → StandingNumbers
standing_of e b r log = answer_with (judgement_of e b) (theory_of e b) r log

-- the marks of the rules, of those below 1,024, with an antecedent that lacks +∂, and of those with one that has −∂, by the marks of a log
pub record Stood (b : List ℕ) (s : Sizes) (marks lacking refuted : List ℕ) : Type 0 where
  pub plus : MarkedBy (λ r. some_of (body_in b s r) (λ a. isnt (tagged_by 4 (marked marks) a +∂))) 1024 lacking
  pub minus : MarkedBy (λ r. some_of (body_in b s r) (λ a. tagged_by 4 (marked marks) a −∂)) 1024 refuted

-- the standing by the marks of a log
unfoldable pub standing_by : List ℕ → Sizes → ℕ → List ℕ → logic.Standing
standing_by b s r marks =
    first_fit (every_of (body_in b s r) (λ a. tagged_by 4 (marked marks) a +∂)) (some_of (body_in b s r) (λ a. tagged_by 4 (marked marks) a −∂))
