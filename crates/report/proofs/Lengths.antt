-- How long a sheet's lines are: the longest sheet has 5,041 bytes. Assumes nothing.
use Prim.Native.Nat.{ℕ, zero, suc, ◌+◌, ◌-◌, ◌*◌, ◌≤◌, ◌<◌}
use native.Mathlib.Numerals.{add-one}
use native.Mathlib.Omega.{arith}
use mathlib.Core.Path.{◌≡◌, refl, sym, ap, ap₂}
use mathlib.Core.Logic.{⊎_elim}
use mathlib.Core.List.{List, ◌++◌}
use lib.ListN.{length, take, length-append}
use Rattle.logic.specs.Tests.{isnt}
use Rattle.logic.specs.Theory.{Theory}
use Rattle.logic.specs.Inference.{unsupported}
use Rattle.logic.specs.System.{held}
use Rattle.logic.specs.Reading.{tagged_by}
use Rattle.logic.specs.Verdict.{Verdict, clash, go, hold, idle, split, «open», verdict_by}
use Rattle.logic.proofs.Tests.{at_most}
use Rattle.report.specs.Text.{decimal, word_of, atoms_word, spent_word, of_word, refused_word, space, newline}
use Rattle.report.specs.Sheet.{atom_line, atom_lines, count_line, spent_line, run_sheet, refused_sheet, verdict_in}
use Rattle.table.specs.declared.format.Sizes.{Sizes}
use Rattle.table.specs.Format.{theory_in}
use Rattle.table.specs.Refusals.{Legal}
use Rattle.table.proofs.Legal.{limited}
use Rattle.engine.specs.declared.answer.Counts.{Counts}
use Rattle.standing.specs.Marks.{marked, Marked}
use Rattle.standing.specs.Answers.{standing_by}
use Rattle.standing.proofs.Marking.{marked_held}
use Rattle.report.specs.Printing.{Put, Supported, FitsRun}
use Rattle.report.proofs.Decimal.{length_1, length_2, length_3, length_5}
use Rattle.report.proofs.Puts.{put_nothing, put_put, put_same}
use Rattle.report.proofs.Supporters.{unmarked_unsupported}
use Rattle.report.proofs.Verdicts.{verdict_same}

word_length : (v : Verdict) → length (word_of v) ≤ 5
unfolding word_of
word_length clash = omega arith
word_length go = omega arith
word_length hold = omega arith
word_length idle = omega arith
word_length split = omega arith
word_length «open» = omega arith

-- each line by its parts
pub atom_parts : (a : ℕ) (v : Verdict) → length (atom_line a v) ≡ length (decimal a) + 1 + length (word_of v) + 1
unfolding atom_line
atom_parts a v =
    omega (arith, length-append (decimal a ++ space ++ word_of v) newline, length-append (decimal a ++ space) (word_of v), length-append (decimal a) space)

pub count_parts : (atoms : ℕ) → length (count_line atoms) ≡ 6 + length (decimal atoms) + 1
unfolding count_line
count_parts atoms = omega (arith, length-append (atoms_word ++ decimal atoms) newline, length-append atoms_word (decimal atoms))

pub spent_parts : (spent most : ℕ) → length (spent_line spent most) ≡ 6 + length (decimal spent) + 4 + length (decimal most) + 1
unfolding spent_line
spent_parts spent most =
    omega (arith, length-append (spent_word ++ decimal spent ++ of_word ++ decimal most) newline, length-append (spent_word ++ decimal spent ++ of_word) (decimal most), length-append (spent_word ++ decimal spent) of_word, length-append spent_word (decimal spent))

pub refused_parts : (n : ℕ) → length (refused_sheet n) ≡ 8 + length (decimal n) + 1
unfolding refused_sheet
refused_parts n = omega (arith, length-append (refused_word ++ decimal n) newline, length-append refused_word (decimal n))

-- an atom's line is its number and at most seven bytes
atom_length : (a k : ℕ) (v : Verdict) → length (decimal a) ≤ k → length (atom_line a v) ≤ k + 7
atom_length a k v h = omega (arith, word_length v, atom_parts a v)

-- eight bytes for each of the first ten atoms, nine for those below 100, and ten
step : (f : ℕ → Verdict) (n : ℕ) → n < 512 → length (atom_line n (f n)) + (100 - n) + (10 - n) ≤ 10 + (100 - suc n) + (10 - suc n)
step f n h =
    ⊎_elim (λ l. ⊎_elim (λ m. let k = atom_length n 3 (f n) (length_3 n (omega arith)) in omega arith)
    (λ m. let k = atom_length n 2 (f n) (length_2 n m) in omega arith) (at_most 100 n))
    (λ l. let k = atom_length n 1 (f n) (length_1 n l) in omega arith) (at_most 10 n)

pub atoms_length : (f : ℕ → Verdict) (n : ℕ) → n ≤ 512 → length (atom_lines f n) + 110 ≤ 10 * n + (100 - n) + (10 - n)
unfolding atom_lines
atoms_length f zero h = omega arith
atoms_length f (suc n) h = omega (arith, atoms_length f n (omega arith), step f n (omega arith), length-append (atom_lines f n) (atom_line n (f n)))

pub count_length : (atoms : ℕ) → atoms ≤ 512 → length (count_line atoms) ≤ 10
count_length atoms h = omega (arith, length_3 atoms (omega arith), count_parts atoms)

pub spent_length : (spent most : ℕ) → spent < 100000 → most < 100000 → length (spent_line spent most) ≤ 21
spent_length spent most h k = omega (arith, length_5 spent h, length_5 most k, spent_parts spent most)

pub run_length : (d : Theory) (log : List ℕ) (spent most : ℕ) → d.atoms ≤ 512 → spent < 100000 → most < 100000 → length (run_sheet d log spent most) ≤ 5041
unfolding run_sheet
run_length d log spent most a b c =
    omega (arith, count_length d.atoms a, atoms_length (verdict_in d log) d.atoms a, spent_length spent most b c, length-append (count_line d.atoms ++ atom_lines (verdict_in d log) d.atoms) (spent_line spent most), length-append (count_line d.atoms) (atom_lines (verdict_in d log) d.atoms))

pub refused_length : (n : ℕ) → n < 100 → length (refused_sheet n) ≤ 11
refused_length n h = omega (arith, length_2 n h, refused_parts n)

-- verdicts that agree give one text
pub atoms_same : (f g : ℕ → Verdict) (n : ℕ) → ((a : ℕ) → a < n → f a ≡ g a) → atom_lines f n ≡ atom_lines g n
unfolding atom_lines
atoms_same f g zero h = refl
atoms_same f g (suc n) h =
    ap₂ (λ (x : List ℕ) v. x ++ atom_line n v) (atoms_same f g n (λ a l. h a (omega arith))) (h n (omega arith))

-- the atoms' lines, put one after the other
pub lines_room : (f : ℕ → Verdict) (n from : ℕ) → from ≤ 10 → n ≤ 512 → from + length (atom_lines f n) ≤ 5020
lines_room f n from h k = omega (arith, atoms_length f n k)

pub lines_none : (f : ℕ → Verdict) (out : List ℕ) (at : ℕ) → Put out at (atom_lines f 0) out at
unfolding atom_lines
lines_none f out at = put_nothing out at

lines_more : (f : ℕ → Verdict) (a : ℕ) → atom_lines f (a + 1) ≡ atom_lines f a ++ atom_line a (f a)
unfolding atom_lines
lines_more f a = ap (atom_lines f) (add-one a)

pub line_room : (f : ℕ → Verdict) (a from at : ℕ) (v : Verdict) → from ≤ 10 → a < 512 → at ≡ from + length (atom_lines f a) → v ≡ f a
    → at + length (atom_line a v) ≤ 5020
line_room f a from at v h k e g =
    let l = ap length (lines_more f a) in
    let m : length (atom_line a v) ≡ length (atom_line a (f a)) = ap (λ w. length (atom_line a w)) g in
    omega (arith, lines_room f (a + 1) from h (omega arith), l, length-append (atom_lines f a) (atom_line a (f a)), e, m)

pub lines_next : (f : ℕ → Verdict) (a : ℕ) {out₀ out out' : List ℕ} {from at r : ℕ} {v : Verdict} → from ≤ length out₀ → Put out₀ from (atom_lines f a) out at → v ≡ f a → Put out at (atom_line a v) out' r → Put out₀ from (atom_lines f (a + 1)) out' r
lines_next f a h p e q = put_same (sym (lines_more f a)) (put_put h p (put_same (ap (atom_line a) e) q))

-- the verdicts by the marks of a log and of the literals that have a supporter which is not out
abbrev pub verdicts_by : List ℕ → List ℕ → ℕ → Verdict
verdicts_by marks supported = verdict_by (tagged_by 4 (marked marks)) (λ q. isnt (marked supported q))

-- the three parts of a run's sheet
pub put_run_parts : (b : List ℕ) (s : Sizes) → Legal b s → (most : ℕ) (log : List ℕ) (c : Counts) (marks supported : List ℕ) {out out₁ out₂ out₃ : List ℕ} {at r₁ r₂ r₃ : ℕ}
    → FitsRun (theory_in b s) most log c → at ≤ length out → Marked (take c.lines log) marks → Supported (theory_in b s) (λ r. standing_by b s r marks) supported
    → Put out at (count_line s.atoms) out₁ r₁ → Put out₁ r₁ (atom_lines (verdicts_by marks supported) s.atoms) out₂ r₂
    → Put out₂ r₂ (spent_line c.spent most) out₃ r₃ → Put out at (run_sheet (theory_in b s) (take c.lines log) c.spent most) out₃ r₃
unfolding run_sheet theory_in
put_run_parts b s e most log c marks supported f l m u p q r =
    put_put l (put_put l p (put_same same q)) r
  where
    few : s.atoms ≤ 512
    few = (limited s e.limits).atoms

    same : atom_lines (verdicts_by marks supported) s.atoms ≡ atom_lines (verdict_in (theory_in b s) (take c.lines log)) s.atoms
    same = atoms_same (verdicts_by marks supported) (verdict_in (theory_in b s) (take c.lines log)) s.atoms
        (λ n h. verdict_same (marked marks) (held (take c.lines log)) (λ q. isnt (marked supported q)) (unsupported (theory_in b s) (tagged_by 4 (held (take c.lines log)))) n
        (λ x k. marked_held (take c.lines log) marks m x (omega (arith, few)))
        (λ x k. unmarked_unsupported b s e (take c.lines log) marks supported m f.never u x (omega (arith, few))))
