-- The readings that a call can name: both have the plain system, and what is handed over with a run holds in each. Assumes nothing.
use Prim.Native.Nat.{ℕ, ◌*◌, ◌≤◌, ◌<◌}
use mathlib.Core.Path.{◌≡◌, refl, sym, ◌∙◌, ap}
use lib.Dec.{T}
use Rattle.logic.specs.Tests.{member}
use Rattle.logic.specs.Theory.{Theory, size, proper}
use Rattle.logic.specs.System.{Searches}
use Rattle.logic.specs.Worklist.{log_of, lines, opened, unstarted, rest, run}
use Rattle.logic.specs.Reading.{system_of, searches_of}
use Rattle.logic.specs.Plain.{plain_system}
use Rattle.logic.specs.Demands.{Demands}
use Rattle.logic.proofs.Budgets.{run_started, run_unstarted}
use Rattle.logic.proofs.Plain.{plain_demands, plain_lines}
use Rattle.logic.proofs.WellFounded.{one_system, well_founded_demands, well_founded_lines, plain_remains}
use Rattle.engine.specs.declared.reading.Reading.{Reading}
use Rattle.engine.specs.declared.reading.Reading.TheVariants.{Plain, WellFounded}
use Rattle.engine.specs.Readings.{reading_of, most_of, plenty_of, run_of}

-- the searches of a reading
abbrev pub searches_in : Reading → Theory → Searches
searches_in m d = searches_of (reading_of m) d

-- both readings have one system
pub run_in : (m : Reading) (d : Theory) (budget : ℕ) → run_of m d budget ≡ run (plain_system d) (searches_in m d) budget
run_in Plain d budget = refl
run_in WellFounded d budget = ap (λ s. run s (searches_in WellFounded d) budget) (sym (one_system d))

-- whether the start is paid
pub run_unpaid : (m : Reading) (d : Theory) (budget : ℕ) → budget < size d → run_of m d budget ≡ unstarted (plain_system d) (searches_in m d)
unfolding system_of
run_unpaid m d budget h = run_in m d budget ∙ run_unstarted (plain_system d) (searches_in m d) budget h

pub run_opened : (m : Reading) (d : Theory) (budget : ℕ) → size d ≤ budget → run_of m d budget ≡ rest (plain_system d) (searches_in m d) budget (opened (plain_system d) (searches_in m d))
unfolding system_of
run_opened m d budget h = run_in m d budget ∙ run_started (plain_system d) (searches_in m d) budget h

-- demands 2 and 3, and at most 4A lines
pub run_demands : (m : Reading) (d : Theory) → T (proper d) → (budget : ℕ) → Demands (system_of (reading_of m) d) (searches_of (reading_of m) d) (most_of m d) (plenty_of m d) budget
run_demands Plain d p = plain_demands d p
run_demands WellFounded d p = well_founded_demands d p

pub run_lines : (m : Reading) (d : Theory) → T (proper d) → (budget : ℕ) → lines (run_of m d budget) ≤ 4 * d.atoms
run_lines Plain d p = plain_lines d p
run_lines WellFounded d p = well_founded_lines d p

-- every plain conclusion remains
pub run_remains : (m : Reading) (d : Theory) → T (proper d) → (budget : ℕ) → T (run_of m d budget).finished → (other x : ℕ) → T (member x (log_of (run_of Plain d other)))
    → T (member x (log_of (run_of m d budget)))
run_remains Plain d p budget t other x u =
    ((plain_demands d p budget).exact t x).1 (log_of (run_of Plain d other), (plain_demands d p other).is_derivation, u)
run_remains WellFounded d p budget t other x u = plain_remains d p other budget t x u
