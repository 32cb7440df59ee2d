-- The marked cases of document 01 ("P") as rows: a table's words, a budget and the lengths of log and scratch in; the refusal's number
-- or 0, 1 if it finished, the log, worked, spent, the bound and the verdicts out. And case 1's sheet, as it is printed.
use Rattle.std.specs.Prelude.{ℕ, ◌-◌, ◌/◌, ◌%◌, Bool, true, List, [], ◌∷◌, ◌++◌, map, eqb, length, replicate, Ok, Err}
use Rattle.logic.specs.Tests.{◌and◌, upto}
use Rattle.logic.specs.Verdict.{Verdict, clash, go, split, «open»}
use Rattle.logic.specs.Cases.{same_list}
use Rattle.logic.specs.Theory.{Theory}
use Rattle.logic.specs.Plain.{plain_run}
use Rattle.table.specs.declared.edition.Edition.TheVariants.{Old}
use Rattle.table.specs.Format.{theory_of}
use Rattle.table.specs.Refusals.{Judgement, judgement_of}
use Rattle.engine.specs.declared.answer.Numbers.{Numbers}
use Rattle.engine.specs.declared.reading.Reading.TheVariants.{Plain}
use Rattle.engine.specs.Answers.{numbers_of, call_judgement, answer_to, log_after}
use Rattle.report.specs.Text.{word_of, space}
use Rattle.report.specs.Sheet.{verdict_in, budget_of, sheet_of}

-- "16-bit little-endian words"
unfoldable pub bytes_of : List ℕ → List ℕ
bytes_of [] = []
bytes_of (w ∷ ws) = w % 256 ∷ w / 256 ∷ bytes_of ws

pub record Row : Type 0 where
  pub table : List ℕ
  pub budget : ℕ
  pub log : ℕ
  pub scratch : ℕ
  pub refused : ℕ
  pub finished : ℕ
  pub lines : List ℕ
  pub worked : ℕ
  pub spent : ℕ
  pub most : ℕ
  pub verdicts : List Verdict

unfoldable pub row : List ℕ → ℕ → ℕ → ℕ → ℕ → ℕ → List ℕ → ℕ → ℕ → ℕ → List Verdict → Row
row t b l s n f d w p m v =
    record { table = t; budget = b; log = l; scratch = s; refused = n; finished = f; lines = d; worked = w; spent = p; most = m; verdicts = v }

-- the verdicts by a log's lines; a refused table has none
unfoldable pub verdicts_of : Judgement → Theory → List ℕ → List Verdict
verdicts_of (Ok s) d lines = map (verdict_in d lines) (upto s.atoms)
verdicts_of (Err n) d lines = []

-- the words of verdicts, each with a space after it
unfoldable pub words_of : List Verdict → List ℕ
words_of [] = []
words_of (v ∷ vs) = word_of v ++ space ++ words_of vs

unfoldable pub same_numbers : Row → Numbers → Bool
same_numbers r n =
    eqb n.refused r.refused and eqb n.finished r.finished and eqb n.lines (length r.lines) and eqb n.worked r.worked
    and eqb n.spent r.spent

-- What the row gives, by the judgement with its lengths. Each word of the log that is borrowed is 9 before, and those past the lines
-- are 9 after.
unfoldable pub gives_by : Row → Theory → Judgement → Bool
gives_by r d j =
    same_numbers r (numbers_of (answer_to j (plain_run d r.budget)))
    and same_list (log_after j (plain_run d r.budget) (replicate r.log 9)) (r.lines ++ replicate (r.log - length r.lines) 9)
    and eqb (budget_of d) r.most and same_list (words_of (verdicts_of j d r.lines)) (words_of r.verdicts)

unfoldable pub gives : Row → List ℕ → Bool
gives r b = gives_by r (theory_of Old b) (call_judgement (judgement_of Old b) Plain (theory_of Old b) r.budget r.scratch r.log)

unfoldable pub all_give : List Row → Bool
all_give [] = true
all_give (r ∷ rs) = gives r (bytes_of r.table) and all_give rs

-- sizes A, F, N, B, P; left; right
unfoldable pub case_one : List ℕ
case_one = 2 ∷ 1 ∷ 2 ∷ 1 ∷ 1 ∷ 0 ∷ 1 ∷ 1 ∷ 0 ∷ 0 ∷ 0 ∷ 2 ∷ 3 ∷ 0 ∷ 1 ∷ []

unfoldable pub rows : List Row
rows =
    -- Case 1, with the sheet's budget.
    row case_one 19 8 32768 0 1 (0 ∷ 5 ∷ 9 ∷ 13 ∷ 2 ∷ 7 ∷ 10 ∷ 15 ∷ []) 8 17 19 (go ∷ go ∷ []) ∷
    -- "Budget 17 finishes; 16 stops with 8 lines, 7 worked, 16 spent."
    row case_one 17 8 32768 0 1 (0 ∷ 5 ∷ 9 ∷ 13 ∷ 2 ∷ 7 ∷ 10 ∷ 15 ∷ []) 8 17 19 (go ∷ go ∷ []) ∷
    row case_one 16 8 32768 0 0 (0 ∷ 5 ∷ 9 ∷ 13 ∷ 2 ∷ 7 ∷ 10 ∷ 15 ∷ []) 7 16 19 (go ∷ go ∷ []) ∷
    -- "Case 1, budget 13: stopped, 6 lines, 4 worked, 11 spent (the next line costs 3)." "Budget 6: 0, 0, 0."
    row case_one 13 8 32768 0 0 (0 ∷ 5 ∷ 9 ∷ 13 ∷ 2 ∷ 7 ∷ []) 4 11 19 (go ∷ «open» ∷ []) ∷
    row case_one 6 8 32768 0 0 [] 0 0 19 («open» ∷ «open» ∷ []) ∷
    -- "Empty table (ten 0 bytes): finished, budget 0."
    row (0 ∷ 0 ∷ 0 ∷ 0 ∷ 0 ∷ []) 0 0 32768 0 1 [] 0 0 0 [] ∷
    -- "One atom, a defeasible rule from literal 0 to 0: log 1,5,7; spent 6; open."
    row (1 ∷ 0 ∷ 1 ∷ 1 ∷ 0 ∷ 1 ∷ 0 ∷ 0 ∷ 0 ∷ []) 9 4 32768 0 1 (1 ∷ 5 ∷ 7 ∷ []) 3 6 9 («open» ∷ []) ∷
    -- "Facts 0 and 1, one atom: log 0,4,2,6; spent 7, which is the bound"; document 02, S-1: it "changes to clash; logs and prices stay".
    row (1 ∷ 2 ∷ 0 ∷ 0 ∷ 0 ∷ 0 ∷ 0 ∷ 0 ∷ 1 ∷ []) 7 4 32768 0 1 (0 ∷ 4 ∷ 2 ∷ 6 ∷ []) 4 7 7 (clash ∷ []) ∷
    -- "No antecedents, rule 0 defeasible to 0, rule 1 defeater to 1: log 1,5,3,7; split."; document 02, S-6: it "stays split, for its rule 0
    -- fires".
    row (1 ∷ 0 ∷ 2 ∷ 0 ∷ 0 ∷ 1 ∷ 2 ∷ 0 ∷ 1 ∷ []) 7 4 32768 0 1 (1 ∷ 5 ∷ 3 ∷ 7 ∷ []) 4 7 7 (split ∷ []) ∷
    -- "Pairs (0,1),(1,0): 7." "Pair (0,0): 7."
    row (1 ∷ 0 ∷ 2 ∷ 0 ∷ 2 ∷ 1 ∷ 1 ∷ 0 ∷ 1 ∷ 0 ∷ 1 ∷ 1 ∷ 0 ∷ []) 13 4 32768 7 0 [] 0 0 13 [] ∷
    row (1 ∷ 0 ∷ 1 ∷ 0 ∷ 1 ∷ 1 ∷ 0 ∷ 0 ∷ 0 ∷ []) 9 4 32768 7 0 [] 0 0 9 [] ∷ []

-- "Printed whole": atoms 2, 0 go, 1 go, spent 17 of 19, each with a newline.
unfoldable pub case_one_sheet : List ℕ
case_one_sheet =
    97 ∷ 116 ∷ 111 ∷ 109 ∷ 115 ∷ 32 ∷ 50 ∷ 10 ∷
    48 ∷ 32 ∷ 103 ∷ 111 ∷ 10 ∷
    49 ∷ 32 ∷ 103 ∷ 111 ∷ 10 ∷
    115 ∷ 112 ∷ 101 ∷ 110 ∷ 116 ∷ 32 ∷ 49 ∷ 55 ∷ 32 ∷ 111 ∷ 102 ∷ 32 ∷ 49 ∷ 57 ∷ 10 ∷ []

-- All of it holds: proofs/Answers.antt computes it. "(30 bytes)"
unfoldable pub cases_hold : Bool
cases_hold = all_give rows and eqb (length (bytes_of case_one)) 30 and same_list (sheet_of (bytes_of case_one)) case_one_sheet
