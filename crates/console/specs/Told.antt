-- Document 02, S-5: "each call is told the edition of each of its tables". In C it is told by its number, and what each call hands over is
-- that of the edition. Any other number is refused by 1, whatever the table, and writes nothing. A run is told its reading (S-9) likewise.
use Rattle.std.specs.Prelude.{ℕ, zero, suc, ◌≡◌, Option, Some, None, List}
use Rattle.table.specs.declared.edition.Edition.{Edition}
use Rattle.table.specs.declared.edition.Edition.TheVariants.{Old, Two}
use Rattle.table.specs.declared.judge.Refusal.TheVariants.{Truncated}
use Rattle.table.specs.Format.{theory_of}
use Rattle.table.specs.Refusals.{number_of, judgement_of}
use Rattle.engine.specs.declared.reading.Reading.{Reading}
use Rattle.engine.specs.declared.reading.Reading.TheVariants.{Plain, WellFounded}
use Rattle.engine.specs.declared.answer.Numbers.{Numbers}
use Rattle.engine.specs.Answers as run
use Rattle.engine.specs.Answers.{Ran}
use Rattle.standing.specs.declared.answer.StandingNumbers.{StandingNumbers}
use Rattle.standing.specs.Answers as standing
use Rattle.standing.specs.Answers.{standing_of}
use Rattle.writing.specs.declared.answer.WrittenNumbers.{WrittenNumbers}
use Rattle.writing.specs.Answers as written
use Rattle.convert.specs.Conversion.{Converted}
use Rattle.join.specs.Calls.{Joined}
use Rattle.parts.specs.Calls.{Listed, Parted}

-- 1 the old layout, 2 edition two (proofs/Telling.antt: `told_edition`)
unfoldable pub told_by : ℕ → Option Edition
told_by zero = None
told_by (suc zero) = Some Old
told_by (suc (suc zero)) = Some Two
told_by (suc (suc (suc n))) = None

-- 0 the plain reading, 1 the well-founded one (proofs/Telling.antt: `told_reading`)
unfoldable pub reading_by : ℕ → Option Reading
reading_by zero = Some Plain
reading_by (suc zero) = Some WellFounded
reading_by (suc (suc n)) = None

-- no run: refused by 1, and both buffers are as they were
abbrev pub NotRun : List ℕ → List ℕ → List ℕ → List ℕ → Numbers → Type 0
NotRun log log' scratch scratch' n = (n ≡ run.refusal_numbers (number_of Truncated)) × (log' ≡ log) × (scratch' ≡ scratch)

-- a run
unfoldable pub RanTold : Option Edition → Option Reading → List ℕ → ℕ → List ℕ → List ℕ → List ℕ → List ℕ → Numbers → Type 0
RanTold (Some e) (Some m) b budget log log' scratch scratch' n = Ran m (judgement_of e b) (theory_of e b) budget log log' scratch scratch' n
RanTold (Some e) None b budget log log' scratch scratch' n = NotRun log log' scratch scratch' n
RanTold None r b budget log log' scratch scratch' n = NotRun log log' scratch scratch' n

-- how a rule stands
unfoldable pub standing_told : Option Edition → List ℕ → ℕ → List ℕ → StandingNumbers
standing_told (Some e) b r log = standing_of e b r log
standing_told None b r log = standing.refusal_numbers (number_of Truncated)

-- a call that answers with a number or two and writes into one buffer, by what it hands over in each edition
unfoldable pub WritesTold : {A : Type 0} → Option Edition → (Edition → List ℕ → A → Type 0) → A → List ℕ → List ℕ → A → Type 0
WritesTold (Some e) handed refused out out' n = handed e out' n
WritesTold None handed refused out out' n = (n ≡ refused) × (out' ≡ out)

-- a conversion, a join, a part's own table, the list of the parts
abbrev pub ConvertedTold : Option Edition → List ℕ → List ℕ → List ℕ → WrittenNumbers → Type 0
ConvertedTold t b out = WritesTold t (λ e. Converted e b out) (written.refusal_numbers (number_of Truncated)) out

abbrev pub JoinedTold : Option Edition → List ℕ → List ℕ → List ℕ → List ℕ → WrittenNumbers → Type 0
JoinedTold t house tour out = WritesTold t (λ e. Joined e house tour out) (written.refusal_numbers (number_of Truncated)) out

abbrev pub PartedTold : Option Edition → List ℕ → ℕ → List ℕ → List ℕ → WrittenNumbers → Type 0
PartedTold t b atom out = WritesTold t (λ e. Parted e b atom out) (written.refusal_numbers (number_of Truncated)) out

abbrev pub ListedTold : Option Edition → List ℕ → List ℕ → List ℕ → ℕ → Type 0
ListedTold t b list = WritesTold t (λ e. Listed e b list) (number_of Truncated) list
