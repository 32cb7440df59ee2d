-- What the private functions of the report say to each other.
use Rattle.std.specs.Prelude.{ℕ, ◌+◌, ◌≤◌, ◌<◌, ◌≡◌, Bool, List, ◌++◌, length, take, drop}
use Rattle.logic.specs.Tests.{◌and◌, isnt, some}
use Rattle.logic.specs.Theory.{Theory, supporter}
use Rattle.logic.specs.System.{held}
use Rattle.logic.specs.Reading.{tagged_by}
use Rattle.logic.specs.Standing.{Standing, is_out, NeverBoth}
use Rattle.table.specs.declared.format.Sizes.{Sizes}
use Rattle.table.specs.Format.{theory_in}
use Rattle.table.specs.Refusals.{number_of, Legal}
use Rattle.standing.specs.Marks.{MarkedBy}
use Rattle.engine.specs.declared.answer.Counts.{Counts}
use Rattle.engine.specs.declared.answer.Answer.{Answer}
use Rattle.engine.specs.declared.answer.Answer.TheVariants.{Refused, Stopped, Finished}
use Rattle.report.specs.Sheet.{run_sheet, refused_sheet}

-- A text was put at a place, and r is the place after it.
pub record Put (out : List ℕ) (at : ℕ) (text out' : List ℕ) (r : ℕ) : Type 0 where
  pub bytes : out' ≡ take at out ++ text ++ drop (at + length text) out
  pub end : r ≡ at + length text

-- By how each rule stands: a rule supports a literal and is not out; a literal has such a rule; the marks of those literals, of the ones
-- below 1,024.
abbrev pub live_supporter : Theory → (ℕ → Standing) → ℕ → ℕ → Bool
live_supporter d stands q r = supporter d r q and isnt (is_out (stands r))

unfoldable pub has_live_supporter : Theory → (ℕ → Standing) → ℕ → Bool
has_live_supporter d stands q = some d.rules (live_supporter d stands q)

abbrev pub Supported : Theory → (ℕ → Standing) → List ℕ → Type 0
Supported d stands marks = MarkedBy (has_live_supporter d stands) 1024 marks

-- The sheet by the engine's answer and the log that it left.
unfoldable pub sheet_to : Theory → ℕ → List ℕ → Answer → List ℕ
sheet_to d most log (Refused n) = refused_sheet (number_of n)
sheet_to d most log (Stopped c) = run_sheet d (take c.lines log) c.spent most
sheet_to d most log (Finished c) = run_sheet d (take c.lines log) c.spent most

-- What a run of an accepted table, which says d, keeps to: no rule fires and is out over its lines; and, so that its sheet has room,
-- numbers of at most five digits.
pub record FitsRun (d : Theory) (m : ℕ) (log : List ℕ) (c : Counts) : Type 0 where
  pub lines : c.lines ≤ length log
  pub never : NeverBoth d 1 (tagged_by 4 (held (take c.lines log)))
  pub spent : c.spent < 100000
  pub most : m < 100000

-- and by the engine's answer, for a layout b and sizes s, which are a table's where the run was not refused
unfoldable pub Fits : List ℕ → Sizes → ℕ → List ℕ → Answer → Type 0
Fits b s most log (Refused n) = Unit
Fits b s most log (Stopped c) = Legal b s × FitsRun (theory_in b s) most log c
Fits b s most log (Finished c) = Legal b s × FitsRun (theory_in b s) most log c
