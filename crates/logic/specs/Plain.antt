-- The plain reading: document 01's four inference rules, and no search.
use Rattle.std.specs.Prelude.{ℕ, ◌+◌, ◌*◌, false}
use Rattle.logic.specs.Theory.{Theory, entries}
use Rattle.logic.specs.Inference.{follows}
use Rattle.logic.specs.System.{System, Searches}
use Rattle.logic.specs.Worklist.{Outcome, run}
use Rattle.logic.specs.Reading.{Reading, system_of, searches_of}

abbrev pub plain : Reading
plain = record { families = 2; infer = λ d holds q t. follows d holds q t; searches = 0; fits = λ d holds i set q. false }

abbrev pub plain_system : Theory → System
plain_system d = system_of plain d

abbrev pub no_searches : Theory → Searches
no_searches d = searches_of plain d

abbrev pub plain_run : Theory → ℕ → Outcome
plain_run d budget = run (plain_system d) (no_searches d) budget

-- "Spent never exceeds 5A+F+N+3B+3P"
abbrev pub bound : Theory → ℕ
bound d = 5 * d.atoms + d.facts + d.rules + 3 * entries d + 3 * d.pairs
