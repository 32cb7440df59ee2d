-- Sets of numbers, the lines of a log among them, as arrays of marks.
use Rattle.std.specs.Prelude.{ℕ, ◌<◌, ◌≡◌, Bool, cond, List, eqb, length, get_or}
use Rattle.logic.specs.Tests.{◌and◌, weigh}
use Rattle.logic.specs.System.{held}

-- the numbers that an array of marks has
unfoldable pub marked : List ℕ → ℕ → Bool
marked marks x = eqb (get_or marks x 0) 1

-- the marks of the numbers below n at which a test passes: 1 at each, and 0 at the others
pub record MarkedBy (p : ℕ → Bool) (n : ℕ) (marks : List ℕ) : Type 0 where
  pub size : length marks ≡ n
  pub each : (x : ℕ) → x < n → get_or marks x 0 ≡ weigh (p x) 1

-- the marks of a log: of every number that can be a table's line and stands in the log
abbrev pub Marked : List ℕ → List ℕ → Type 0
Marked log marks = MarkedBy (held log) 4096 marks

-- one number more is marked, if a test says so
abbrev pub MarkedToo : ℕ → Bool → List ℕ → List ℕ → Type 0
MarkedToo x test m n = (y : ℕ) → y < length m → get_or n y 0 ≡ cond (eqb x y and test) 1 (get_or m y 0)
