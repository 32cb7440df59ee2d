-- Document 02, S-9: the readings that a call can name, each with its number, its bound on what is spent, and a budget that finishes.
use Rattle.std.specs.Prelude.{ℕ, ◌*◌}
use Rattle.logic.specs.Theory.{Theory, size}
use Rattle.logic.specs.Worklist.{Outcome}
use Rattle.logic.specs.Reading as logic
use Rattle.logic.specs.Plain.{plain, bound}
use Rattle.logic.specs.WellFounded.{well_founded, searched_bound}
use Rattle.logic.specs.Laws.{reading_run}
use Rattle.engine.specs.declared.reading.Reading.{Reading}
use Rattle.engine.specs.declared.reading.Reading.TheVariants.{Plain, WellFounded}

-- the number of each
unfoldable pub reading_number : Reading → ℕ
reading_number Plain = 0
reading_number WellFounded = 1

abbrev pub reading_of : Reading → logic.Reading
reading_of Plain = plain
reading_of WellFounded = well_founded

-- "Spent never exceeds 5A+F+N+3B+3P"; in the well-founded reading "5A+F+N+3B+3P + (6A+2) × Size"
abbrev pub most_of : Reading → Theory → ℕ
most_of Plain d = bound d
most_of WellFounded d = searched_bound d

-- five times Size; in the well-founded reading "that budget finishes here, while five times Size need not"
abbrev pub plenty_of : Reading → Theory → ℕ
plenty_of Plain d = 5 * size d
plenty_of WellFounded d = searched_bound d

-- the run that a theory is given in a reading, under a budget
abbrev pub run_of : Reading → Theory → ℕ → Outcome
run_of r d budget = reading_run (reading_of r) d budget
