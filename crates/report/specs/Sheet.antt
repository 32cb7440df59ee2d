-- Document 01, The sheet: the bytes that are printed for a table, and what `sheet_of` hands over. "`sheet` reads the old layout" (document
-- 02, S-5).
use Rattle.std.specs.Prelude.{ℕ, zero, suc, ◌-◌, ◌*◌, ◌≤◌, ◌≡◌, List, [], ◌++◌, T, length, take, replicate, Ok, Err}
use Rattle.logic.specs.Theory.{Theory, size}
use Rattle.logic.specs.System.{held}
use Rattle.logic.specs.Worklist.{log_of}
use Rattle.logic.specs.Reading.{tagged_by}
use Rattle.logic.specs.Plain.{plain_system, no_searches, plain_run, bound}
use Rattle.logic.specs.Demands.{Demands}
use Rattle.logic.specs.Verdict.{Verdict, verdict}
use Rattle.table.specs.declared.format.Sizes.{Sizes}
use Rattle.table.specs.declared.edition.Edition.TheVariants.{Old}
use Rattle.table.specs.Format.{theory_of}
use Rattle.table.specs.Refusals.{Judgement, number_of, judgement_of}
use Rattle.report.specs.Text.{decimal, word_of, atoms_word, spent_word, of_word, refused_word, space, newline}

-- the verdict of an atom of a theory by the lines of a log
abbrev pub verdict_in : Theory → List ℕ → ℕ → Verdict
verdict_in d log a = verdict d (tagged_by 4 (held log)) a

-- "then atom and verdict": the lines of the atoms below n
unfoldable pub atom_line : ℕ → Verdict → List ℕ
atom_line a v = decimal a ++ space ++ word_of v ++ newline

unfoldable pub atom_lines : (ℕ → Verdict) → ℕ → List ℕ
atom_lines f zero = []
atom_lines f (suc n) = atom_lines f n ++ atom_line n (f n)

-- "first the atom count", "then spent and bound"
unfoldable pub count_line : ℕ → List ℕ
count_line atoms = atoms_word ++ decimal atoms ++ newline

unfoldable pub spent_line : ℕ → ℕ → List ℕ
spent_line spent most = spent_word ++ decimal spent ++ of_word ++ decimal most ++ newline

-- the sheet of a run, by what the table says, its log, what it spent and the bound
unfoldable pub run_sheet : Theory → List ℕ → ℕ → ℕ → List ℕ
run_sheet d log spent most = count_line d.atoms ++ atom_lines (verdict_in d log) d.atoms ++ spent_line spent most

-- "A refused table prints `refused` and its number, one line, as `refused 7`."
unfoldable pub refused_sheet : ℕ → List ℕ
refused_sheet n = refused_word ++ decimal n ++ newline

-- The program "runs with budget 5A+F+N+3B+3P, and prints."
abbrev pub budget_of : Theory → ℕ
budget_of d = bound d

unfoldable pub sheet_by : Judgement → Theory → List ℕ
sheet_by (Ok s) d = run_sheet d (log_of (plain_run d (budget_of d))) (plain_run d (budget_of d)).spent (bound d)
sheet_by (Err n) d = refused_sheet (number_of n)

abbrev pub sheet_of : List ℕ → List ℕ
sheet_of b = sheet_by (judgement_of Old b) (theory_of Old b)

-- What `sheet_of` hands over: the array, which has the sheet and then zeros, and its length; the run behind an accepted table's
-- sheet finished, and demands 2 and 3 hold of it.
pub record Printed (b bytes : List ℕ) (n : ℕ) : Type 0 where
  pub text : bytes ≡ sheet_of b ++ replicate (5041 - length (sheet_of b)) 0
  pub count : n ≡ length (sheet_of b)
  pub most : n ≤ 5041
  -- the part `&bytes[..n]` is there (it follows; a caller's proof finds it in this form)
  pub fits : (n ≤ length bytes) × (n ≡ length (take n bytes))
  pub finished : (s : Sizes) → judgement_of Old b ≡ Ok s → T (plain_run (theory_of Old b) (budget_of (theory_of Old b))).finished
  pub demands : (s : Sizes) → judgement_of Old b ≡ Ok s
      → Demands (plain_system (theory_of Old b)) (no_searches (theory_of Old b)) (bound (theory_of Old b)) (5 * size (theory_of Old b)) (budget_of (theory_of Old b))
