-- Document 01, The rule of working, and its price: what a run answers, and what it leaves in the log and the scratch.
use Rattle.std.specs.Prelude.{ℕ, ◌≡◌, cond, List, ◌++◌, T, ltb, length, drop, replicate, Ok, Err}
use Rattle.logic.specs.Tests.{member}
use Rattle.logic.specs.Theory.{Theory}
use Rattle.logic.specs.Worklist.{Outcome, log_of, lines, worked}
use Rattle.logic.specs.Reading.{system_of, searches_of}
use Rattle.logic.specs.Demands.{Demands}
use Rattle.table.specs.declared.format.Sizes.{Sizes}
use Rattle.table.specs.declared.judge.Refusal.TheVariants.{ShortScratch, ShortLog}
use Rattle.table.specs.Refusals.{Judgement, number_of}
use Rattle.engine.specs.declared.reading.Reading.{Reading}
use Rattle.engine.specs.declared.reading.Reading.TheVariants.{Plain}
use Rattle.engine.specs.Readings.{reading_of, most_of, plenty_of, run_of}
use Rattle.engine.specs.declared.answer.Counts.{Counts}
use Rattle.engine.specs.declared.answer.Numbers.{Numbers}
use Rattle.engine.specs.declared.answer.Answer.{Answer}
use Rattle.engine.specs.declared.answer.Answer.TheVariants.{Refused, Stopped, Finished}

-- The paper's number and values of each answer: the number of a refusal, alone; or 0, whether the run finished (1) or was stopped (0),
-- and "lines, worked, spent".
abbrev pub refusal_numbers : ℕ → Numbers
refusal_numbers n = record { refused = n; finished = 0; lines = 0; worked = 0; spent = 0 }

abbrev pub run_numbers : ℕ → Counts → Numbers
run_numbers finished c = record { refused = 0; finished = finished; lines = c.lines; worked = c.worked; spent = c.spent }

unfoldable pub numbers_of : Answer → Numbers
numbers_of (Refused n) = refusal_numbers (number_of n)
numbers_of (Stopped c) = run_numbers 0 c
numbers_of (Finished c) = run_numbers 1 c

-- 8: "lent scratch below 32,768 16-bit words", after 1 to 7. Then 9, where the log does not hold "all lines written by the end of the run
-- under the given budget" (document 02, S-2).
unfoldable pub with_buffers : Judgement → Outcome → ℕ → ℕ → Judgement
with_buffers (Ok s) o scratch log =
    cond (ltb scratch 32768) (Err ShortScratch) (cond (ltb log (lines o)) (Err ShortLog) (Ok s))
with_buffers (Err n) o scratch log = Err n

-- the judgement of a call: of its table, which says a theory, then of the words of scratch and of log that are lent to it
abbrev pub call_judgement : Judgement → Reading → Theory → ℕ → ℕ → ℕ → Judgement
call_judgement j m d budget scratch log = with_buffers j (run_of m d budget) scratch log

abbrev pub counts_in : Outcome → Counts
counts_in o = record { lines = lines o; worked = worked o; spent = o.spent }

-- "All worked: finished.", else stopped
abbrev pub answer_of : Outcome → Answer
answer_of o = cond o.finished (Finished (counts_in o)) (Stopped (counts_in o))

unfoldable pub answer_to : Judgement → Outcome → Answer
answer_to (Ok s) o = answer_of o
answer_to (Err n) o = Refused n

-- "Log words past the lines are untouched"; "A refusal .. writes nothing."
unfoldable pub log_after : Judgement → Outcome → List ℕ → List ℕ
log_after (Ok s) o log = log_of o ++ drop (lines o) log
log_after (Err n) o log = log

-- "on every accepted call the first 32,768 scratch words are 0 and the rest untouched"
unfoldable pub scratch_after : Judgement → List ℕ → List ℕ
scratch_after (Ok s) scratch = replicate 32768 0 ++ drop 32768 scratch
scratch_after (Err n) scratch = scratch

-- What a run in a reading hands over: the answer's numbers, both buffers whole, and, with the run, demands 2 and 3. It is about the judgement of
-- a table and the theory that the table says, and nothing else of the table: two tables that have the same have the same run, whatever their
-- editions and the origins of their rules (proofs/answer/Sameness.antt: `same_run`). The numbers determine the answer
-- (proofs/answer/Numbering.antt: `one_answer`).
pub record Ran (m : Reading) (j : Judgement) (d : Theory) (budget : ℕ) (log log' scratch scratch' : List ℕ) (n : Numbers) : Type 0 where
  pub answer : n ≡ numbers_of (answer_to (call_judgement j m d budget (length scratch) (length log)) (run_of m d budget))
  pub written : log' ≡ log_after (call_judgement j m d budget (length scratch) (length log)) (run_of m d budget) log
  pub cleared : scratch' ≡ scratch_after (call_judgement j m d budget (length scratch) (length log)) scratch
  pub demands : (s : Sizes) → j ≡ Ok s
      → Demands (system_of (reading_of m) d) (searches_of (reading_of m) d) (most_of m d) (plenty_of m d) budget
  -- "Every plain conclusion remains": what a plain run of the theory writes, under any budget, is in the log of a finished run
  pub remains : (s : Sizes) → j ≡ Ok s → T (run_of m d budget).finished → (other x : ℕ) → T (member x (log_of (run_of Plain d other)))
      → T (member x (log_of (run_of m d budget)))
