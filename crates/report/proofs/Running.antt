-- From the engine's answer on buffers that are long enough to the sheet. Assumes nothing.
use Prim.Native.Nat.{ℕ, ◌+◌, ◌-◌, ◌*◌, ◌≤◌, ◌<◌}
use native.Mathlib.Nat.{le_refl}
use native.Mathlib.Omega.{arith}
use mathlib.Core.Path.{◌≡◌, refl, sym, ◌∙◌, ap, subst}
use mathlib.Core.Logic.{◌⊎◌, ⊎_elim}
use mathlib.Core.Bool.{cond}
use mathlib.Core.List.{List, ◌++◌}
use lib.Dec.{T}
use lib.ListN.{length, take, drop, replicate, length-append, length-replicate}
use lib.Seq.{take_at, length-take-le}
use Rattle.std.specs.Prelude.{Ok, Err}
use Rattle.logic.specs.Theory.{Theory, entries, size}
use Rattle.logic.specs.System.{held}
use Rattle.logic.specs.Worklist.{log_of, lines}
use Rattle.logic.specs.Reading.{tagged_by}
use Rattle.logic.specs.Standing.{NeverBoth}
use Rattle.logic.specs.Plain.{plain, plain_system, no_searches, plain_run, bound}
use Rattle.logic.specs.Demands.{Demands}
use Rattle.logic.proofs.Tests.{cond_cases}
use Rattle.logic.proofs.Standing.{derivation_never}
use Rattle.logic.proofs.Plain.{plain_demands, plain_finishes, plain_rules}
use Rattle.table.specs.declared.format.Sizes.{Sizes}
use Rattle.table.specs.declared.judge.Refusal.{Refusal}
use Rattle.table.specs.declared.edition.Edition.TheVariants.{Old}
use Rattle.table.specs.Editions.{layout_of}
use Rattle.table.specs.Format.{theory_in, theory_of, sizes_of}
use Rattle.table.specs.Refusals.{Judgement, number_of, judgement_of, Legal}
use Rattle.table.proofs.Numbers.{number_range}
use Rattle.table.proofs.Legal.{legal, Limited, limited, ranged, all_entries, theory_read}
use Rattle.engine.specs.declared.answer.Counts.{Counts}
use Rattle.engine.specs.declared.answer.Answer.{Answer}
use Rattle.engine.specs.declared.answer.Answer.TheVariants.{Refused, Stopped, Finished}
use Rattle.engine.specs.declared.reading.Reading.TheVariants.{Plain}
use Rattle.engine.specs.Answers.{numbers_of, call_judgement, counts_in, answer_to, log_after, Ran}
use Rattle.engine.proofs.answer.Numbering.{answer_is}
use Rattle.engine.proofs.answer.Buffers.{proper_read, refused_table, full_log, long_enough}
use Rattle.report.specs.Text.{decimal}
use Rattle.report.specs.Sheet.{run_sheet, refused_sheet, budget_of, sheet_by, sheet_of, Printed}
use Rattle.report.specs.Printing.{Put, FitsRun, Fits, sheet_to}
use Rattle.report.proofs.Decimal.{length_2}
use Rattle.report.proofs.Lengths.{run_length, refused_length}
use Rattle.report.proofs.Puts.{put_zeros}

-- a refusal's number has at most two digits
pub number_small : (n : Refusal) → number_of n < 100
number_small n = omega (arith, (number_range n).1)

-- The layout of an accepted table: its bound is below 100,000, and the run under it finishes.
module _ (b : List ℕ) (s : Sizes) (e : Legal b s) where
  few : Limited s
  few = limited s e.limits

  pub bound_of : budget_of (theory_in b s) ≡ 5 * s.atoms + s.facts + s.rules + 3 * s.entries + 3 * s.pairs
  unfolding theory_in
  bound_of = let k : entries (theory_in b s) ≡ s.entries = all_entries b s (ranged b s e.ranges) in omega arith

  bound_small : budget_of (theory_in b s) < 100000
  bound_small = let l = few in omega (arith, bound_of, l.atoms, l.facts, l.rules, l.entries, l.pairs)

  run_finished : T (plain_run (theory_in b s) (budget_of (theory_in b s))).finished
  run_finished = plain_finishes (theory_in b s) (proper_read b s e) (budget_of (theory_in b s)) (le_refl (budget_of (theory_in b s)))

  run_demands : Demands (plain_system (theory_in b s)) (no_searches (theory_in b s)) (bound (theory_in b s)) (5 * size (theory_in b s)) (budget_of (theory_in b s))
  run_demands = plain_demands (theory_in b s) (proper_read b s e) (budget_of (theory_in b s))

  sheet_short : length (sheet_by (Ok s) (theory_in b s)) ≤ 5041
  unfolding sheet_by theory_in
  sheet_short =
      run_length (theory_in b s) (log_of (plain_run (theory_in b s) (budget_of (theory_in b s)))) (plain_run (theory_in b s) (budget_of (theory_in b s))).spent (budget_of (theory_in b s))
      (omega (arith, few.atoms)) (omega (arith, run_demands.within, bound_small)) bound_small

  -- the run under the bound, and the log that it left
  module _ (most : ℕ) (m : most ≡ 5 * s.atoms + s.facts + s.rules + 3 * s.entries + 3 * s.pairs) (log log' : List ℕ)
      (w : log' ≡ log_of (plain_run (theory_in b s) most) ++ drop (lines (plain_run (theory_in b s) most)) log) where
    whole : take (lines (plain_run (theory_in b s) most)) log' ≡ log_of (plain_run (theory_in b s) most)
    whole =
        ap (take (lines (plain_run (theory_in b s) most))) w
        ∙ take_at (log_of (plain_run (theory_in b s) most)) (drop (lines (plain_run (theory_in b s) most)) log) (lines (plain_run (theory_in b s) most)) refl

    run_fits : FitsRun (theory_in b s) most log' (counts_in (plain_run (theory_in b s) most))
    run_fits =
        record {
          lines = omega (arith, ap length w, length-append (log_of (plain_run (theory_in b s) most)) (drop (lines (plain_run (theory_in b s) most)) log));
          never = subst (λ l. NeverBoth (theory_in b s) 1 (tagged_by 4 (held l))) (sym whole) never;
          spent = omega (arith, demands.within, m, bound_of, bound_small);
          most = omega (arith, m, bound_of, bound_small);
        }
      where
        demands : Demands (plain_system (theory_in b s)) (no_searches (theory_in b s)) (bound (theory_in b s)) (5 * size (theory_in b s)) most
        demands = plain_demands (theory_in b s) (proper_read b s e) most

        never : NeverBoth (theory_in b s) 1 (tagged_by 4 (held (log_of (plain_run (theory_in b s) most))))
        never = derivation_never plain plain_rules (theory_in b s) (proper_read b s e) 1 (log_of (plain_run (theory_in b s) most)) demands.is_derivation

    run_sheet_lem : run_sheet (theory_in b s) (take (lines (plain_run (theory_in b s) most)) log') (plain_run (theory_in b s) most).spent most ≡ sheet_by (Ok s) (theory_in b s)
    unfolding sheet_by
    run_sheet_lem =
        ap (λ l. run_sheet (theory_in b s) l (plain_run (theory_in b s) most).spent most) whole
        ∙ ap (λ k. run_sheet (theory_in b s) (log_of (plain_run (theory_in b s) k)) (plain_run (theory_in b s) k).spent k) (m ∙ sym bound_of)

-- the answer of a run with buffers that are long enough
module _ {log log' scratch scratch' : List ℕ} (a : Answer) {most : ℕ} (k : length log ≡ 2048) (l : length scratch ≡ 32768) where
  refused_sheet_lem : (n : Refusal) (d : Theory) (b : List ℕ) (s : Sizes) → Ran Plain (Err n) d most log log' scratch scratch' (numbers_of a)
      → (sheet_to d most log' a ≡ sheet_by (Err n) d) × Fits b s most log' a
  unfolding answer_to sheet_to sheet_by Fits
  refused_sheet_lem n d b s r =
      subst (λ x. (sheet_to d most log' x ≡ sheet_by (Err n) d) × Fits b s most log' x) (sym same) (refl, tt)
    where
      same : a ≡ Refused n
      same = answer_is r ∙ ap (λ j. answer_to j (plain_run d most)) (refused_table Plain d most (length scratch) (length log) n)

  accepted_sheet : (b : List ℕ) (s : Sizes) → Legal b s → most ≡ 5 * s.atoms + s.facts + s.rules + 3 * s.entries + 3 * s.pairs
      → Ran Plain (Ok s) (theory_in b s) most log log' scratch scratch' (numbers_of a)
      → (sheet_to (theory_in b s) most log' a ≡ sheet_by (Ok s) (theory_in b s)) × Fits b s most log' a
  unfolding answer_to log_after sheet_to sheet_by Fits
  accepted_sheet b s e m r =
      subst (λ x. (sheet_to (theory_in b s) most log' x ≡ sheet_by (Ok s) (theory_in b s)) × Fits b s most log' x) (sym same)
      (cond_cases (λ x. (sheet_to (theory_in b s) most log' x ≡ sheet_by (Ok s) (theory_in b s)) × Fits b s most log' x)
      (plain_run (theory_in b s) most).finished (Finished (counts_in (plain_run (theory_in b s) most))) (Stopped (counts_in (plain_run (theory_in b s) most))) (λ _. both) (λ _. both))
    where
      room : call_judgement (Ok s) Plain (theory_in b s) most (length scratch) (length log) ≡ Ok s
      room = long_enough Plain b s e most (length log) (length scratch) (omega arith) (full_log Plain b s e most (length log) (omega (arith, (few b s e).atoms)))

      same : a ≡ cond (plain_run (theory_in b s) most).finished (Finished (counts_in (plain_run (theory_in b s) most))) (Stopped (counts_in (plain_run (theory_in b s) most)))
      same = answer_is r ∙ ap (λ j. answer_to j (plain_run (theory_in b s) most)) room

      written : log' ≡ log_of (plain_run (theory_in b s) most) ++ drop (lines (plain_run (theory_in b s) most)) log
      written = r.written ∙ ap (λ j. log_after j (plain_run (theory_in b s) most) log) room

      both : (run_sheet (theory_in b s) (take (lines (plain_run (theory_in b s) most)) log') (plain_run (theory_in b s) most).spent most ≡ sheet_by (Ok s) (theory_in b s))
          × (Legal b s × FitsRun (theory_in b s) most log' (counts_in (plain_run (theory_in b s) most)))
      both = (run_sheet_lem b s e most m log log' written, (e, run_fits b s e most m log log' written))

  -- of a table in the old layout
  module _ (b : List ℕ) (r : Ran Plain (judgement_of Old b) (theory_of Old b) most log log' scratch scratch' (numbers_of a)) where
    by_judgement : (s : Sizes) → s ≡ sizes_of (layout_of Old b) → most ≡ 5 * s.atoms + s.facts + s.rules + 3 * s.entries + 3 * s.pairs → (j : Judgement) → judgement_of Old b ≡ j
        → (sheet_to (theory_in (layout_of Old b) s) most log' a ≡ sheet_by j (theory_of Old b)) × Fits (layout_of Old b) s most log' a
    by_judgement s z m (Err n) e =
        subst (λ d. (sheet_to d most log' a ≡ sheet_by (Err n) (theory_of Old b)) × Fits (layout_of Old b) s most log' a) (ap (theory_in (layout_of Old b)) (sym z))
        (refused_sheet_lem n (theory_of Old b) (layout_of Old b) s (subst (λ j. Ran Plain j (theory_of Old b) most log log' scratch scratch' (numbers_of a)) e r))
    by_judgement s z m (Ok t) e =
        subst (λ d. (sheet_to (theory_in (layout_of Old b) s) most log' a ≡ sheet_by (Ok t) d) × Fits (layout_of Old b) s most log' a) (theory_read Old b t e)
        (subst (λ x. (sheet_to (theory_in (layout_of Old b) x) most log' a ≡ sheet_by (Ok t) (theory_in (layout_of Old b) t)) × Fits (layout_of Old b) x most log' a) (sym read)
        (accepted_sheet (layout_of Old b) t (legal Old b t e) (subst (λ x. most ≡ 5 * x.atoms + x.facts + x.rules + 3 * x.entries + 3 * x.pairs) read m)
        (subst (λ j. Ran Plain j (theory_in (layout_of Old b) t) most log log' scratch scratch' (numbers_of a)) e
        (subst (λ d. Ran Plain (judgement_of Old b) d most log log' scratch scratch' (numbers_of a)) (sym (theory_read Old b t e)) r))))
      where
        read : s ≡ t
        read = z ∙ (legal Old b t e).read

    -- with the layout and the sizes that were read
    module _ (old : List ℕ) (y : old ≡ layout_of Old b) (s : Sizes) (z : s ≡ sizes_of (layout_of Old b))
        (m : most ≡ 5 * s.atoms + s.facts + s.rules + 3 * s.entries + 3 * s.pairs) where
      ran_sheet : sheet_to (theory_in old s) most log' a ≡ sheet_of b
      ran_sheet = ap (λ x. sheet_to (theory_in x s) most log' a) y ∙ (by_judgement s z m (judgement_of Old b) refl).0

      pub refused_text : (n : Refusal) → a ≡ Refused n → refused_sheet (number_of n) ≡ sheet_of b
      unfolding sheet_to
      refused_text n e = ap (sheet_to (theory_in old s) most log') (sym e) ∙ ran_sheet

      -- of a run that was stopped or finished
      module _ (c : Counts) (e : (a ≡ Stopped c) ⊎ (a ≡ Finished c)) where
        pub run_text : run_sheet (theory_in old s) (take c.lines log') c.spent most ≡ sheet_of b
        unfolding sheet_to
        run_text =
            ⊎_elim (λ f. ap (sheet_to (theory_in old s) most log') (sym f) ∙ ran_sheet) (λ f. ap (sheet_to (theory_in old s) most log') (sym f) ∙ ran_sheet) e

        pub run_kept : Legal old s × FitsRun (theory_in old s) most log' c
        unfolding Fits
        run_kept = ⊎_elim (λ f. subst (Fits old s most log') f fits) (λ f. subst (Fits old s most log') f fits) e
          where
            fits : Fits old s most log' a
            fits = subst (λ x. Fits x s most log' a) (sym y) (by_judgement s z m (judgement_of Old b) refl).1

pub number_length : (n : Refusal) {k : ℕ} → k ≡ number_of n → length (decimal k) ≤ 2
number_length n {k} e = length_2 k (subst (λ z. z < 100) (sym e) (number_small n))

-- the longest sheet
sheet_length : (b : List ℕ) (j : Judgement) → judgement_of Old b ≡ j → length (sheet_by j (theory_of Old b)) ≤ 5041
unfolding sheet_by
sheet_length b (Err n) e = let h = refused_length (number_of n) (number_small n) in omega arith
sheet_length b (Ok s) e =
    subst (λ d. length (sheet_by (Ok s) d) ≤ 5041) (theory_read Old b s e) (sheet_short (layout_of Old b) s (legal Old b s e))

pub printed : (b out : List ℕ) (r : ℕ) → Put (replicate 5041 0) 0 (sheet_of b) out r → Printed b out r
printed b out r p =
    record {
      text = put_zeros 5041 (sheet_of b) out r p;
      count = omega (arith, p.end);
      most = omega (arith, p.end, sheet_length b (judgement_of Old b) refl);
      fits = (inside, sym (length-take-le r out inside));
      finished = λ s e. subst (λ d. T (plain_run d (budget_of d)).finished) (theory_read Old b s e) (run_finished (layout_of Old b) s (legal Old b s e));
      demands =
          λ s e. subst (λ d. Demands (plain_system d) (no_searches d) (bound d) (5 * size d) (budget_of d)) (theory_read Old b s e) (run_demands (layout_of Old b) s (legal Old b s e));
    }
  where
    whole : length out ≡ 5041
    whole =
        ap length (put_zeros 5041 (sheet_of b) out r p)
        ∙ (let e = length-append (sheet_of b) (replicate (5041 - length (sheet_of b)) 0) in
        let f = length-replicate {A = ℕ} (5041 - length (sheet_of b)) 0 in
        let g = sheet_length b (judgement_of Old b) refl in omega arith)

    inside : r ≤ length out
    inside = omega (arith, p.end, sheet_length b (judgement_of Old b) refl, whole)
