-- A run's answer and buffers, by the judgement of its table. Assumes nothing.
use Prim.Native.Nat.{ℕ, suc, ◌+◌, ◌-◌, ◌*◌, ◌≤◌, ◌<◌}
use native.Mathlib.Omega.{arith}
use mathlib.Core.Path.{◌≡◌, refl, sym, ◌∙◌, ap, ap₂, subst}
use mathlib.Core.List.{List, ◌++◌, append-nil}
use lib.Dec.{T}
use lib.ListN.{length, take, drop, replicate, length-append, take-append-drop}
use lib.Seq.{length-take-le, take_at, drop-length}
use Rattle.logic.specs.Theory.{Theory, entries, proper, size}
use Rattle.logic.specs.Worklist.{Outcome, log_of, lines, initial, opened}
use Rattle.logic.specs.Plain.{plain_system}
use Rattle.logic.proofs.Budgets.{proceed_extends}
use Rattle.logic.proofs.Tests.{cond_cases}
use Rattle.table.specs.declared.format.Sizes.{Sizes}
use Rattle.table.specs.declared.judge.Refusal.{Refusal}
use Rattle.table.specs.Refusals.{Judgement}
use Rattle.std.specs.Prelude.{Result, Ok, Err}
use Rattle.table.specs.declared.edition.Edition.{Edition}
use Rattle.table.specs.declared.accepted.Table.{Table}
use Rattle.table.specs.Tables.{Opened, theory_said}
use Rattle.table.specs.Format.{theory_in, theory_of}
use Rattle.table.specs.Refusals.{judgement_of}
use Rattle.table.proofs.Legal.{ranged, all_entries, refused_not}
use Rattle.engine.specs.declared.answer.Numbers.{Numbers}
use Rattle.engine.specs.declared.answer.Answer.{Answer}
use Rattle.engine.specs.declared.answer.Answer.TheVariants.{Refused, Stopped, Finished}
use Rattle.memory.specs.Api.{Prepared}
use Rattle.engine.specs.declared.reading.Reading.{Reading}
use Rattle.engine.specs.Readings.{run_of}
use Rattle.engine.specs.Answers.{numbers_of, call_judgement, counts_in, answer_to, log_after, scratch_after, Ran}
use Rattle.engine.specs.Working.{Worked}
use Rattle.engine.specs.Working as working
use Rattle.engine.proofs.reading.Readings.{searches_in, run_unpaid, run_opened, run_demands, run_remains}
use Rattle.engine.proofs.answer.Buffers.{refused_table, no_line, by_log, long_enough}
use Rattle.engine.proofs.run.Trying.{drop_further, proper_in}
use Rattle.memory.proofs.Views.{kept_none, kept_then}

-- the log only grows
initial_lines : (m : Reading) (d : Theory) (budget : ℕ) → size d ≤ budget → length (initial (plain_system d)) ≤ lines (run_of m d budget)
initial_lines m d budget h =
    subst (λ o. length (initial (plain_system d)) ≤ lines o) (sym (run_opened m d budget h))
    (let (r, e) = proceed_extends (plain_system d) (searches_in m d) (suc (searches_in m d).count * (budget - (plain_system d).start) + (searches_in m d).count) budget (opened (plain_system d) (searches_in m d)) in omega (arith, length-append (initial (plain_system d)) r, ap length e))

-- the memory is prepared, the initial conclusions are written, and the lines are processed
pub worked_all : (m : Reading) {d : Theory} {m₀ m₁ m₂ m₃ l l₂ l₃ : List ℕ} {a : Answer} (n start budget : ℕ) → start ≡ size d → start ≤ budget → Prepared d m₀ m₁ → working.Opened d m₁ l m₂ l₂ n
    → Worked (run_of m d budget) m₂ l₂ m₃ l₃ a → Worked (run_of m d budget) m₀ l m₃ l₃ a
worked_all m {d} {l = l} {l₂ = l₂} n start budget e h p o w =
    record {
      answer = w.answer;
      written =
          w.written ∙ ap (λ (k : List ℕ). log_of (run_of m d budget) ++ k)
          (drop_further n (lines (run_of m d budget)) l₂ l
          (omega (arith, initial_lines m d budget (subst (λ k. k ≤ budget) e h), ap length o.lines, length-take-le n l₂ o.logged.inside))
          o.grown.past);
      kept = kept_then (kept_then p.kept o.grown.kept) w.kept;
    }

-- of a table that is the same
pub worked_of : (m : Reading) {t u : Table} (budget : ℕ) {mem l mem' l' : List ℕ} {a : Answer} → u ≡ t → Worked (run_of m (theory_said u) budget) mem l mem' l' a
    → Worked (run_of m (theory_said t) budget) mem l mem' l' a
worked_of m budget {mem} {l} {mem'} {l'} {a} e w = subst (λ k. Worked (run_of m (theory_said k) budget) mem l mem' l' a) e w

-- the same buffers, as they are at the end
pub worked_in : {o : Outcome} {m l m₁ l₁ m₂ l₂ : List ℕ} {a : Answer} → Worked o m l m₁ l₁ a → m₂ ≡ m₁ → l₂ ≡ l₁ → Worked o m l m₂ l₂ a
worked_in {o} {m} {l} {a = a} w e f = coe 1 0 (j. Worked o m l (e j) (f j) a) w

module _ (table : Table) where
  pub size_in : (n : ℕ) → n ≡ table.sizes.atoms + table.sizes.facts + table.sizes.rules + table.sizes.entries + table.sizes.pairs → n ≡ size (theory_said table)
  unfolding theory_in
  size_in n f = let k : entries (theory_said table) ≡ table.sizes.entries = all_entries table.layout.now table.sizes (ranged table.layout.now table.sizes table.legal.ranges) in omega arith

module _ (m : Reading) (table : Table) where
  -- a budget below the size
  pub worked_none : (n budget : ℕ) → n ≡ size (theory_said table) → budget < n → (mem l : List ℕ)
      → Worked (run_of m (theory_said table) budget) mem l mem l (Stopped (record { lines = 0; worked = 0; spent = 0 }))
  worked_none n budget f h mem l =
      subst (λ o. Worked o mem l mem l (Stopped (record { lines = 0; worked = 0; spent = 0 })))
      (sym (run_unpaid m (theory_said table) budget (subst (λ k. budget < k) f h)))
      (record { answer = refl; written = refl; kept = kept_none mem })

  -- which has no line
  pub unpaid : (n budget log : ℕ) → n ≡ size (theory_said table) → budget < n → lines (run_of m (theory_said table) budget) ≤ log
  unpaid n budget log f h = no_line m table.layout.now table.sizes table.legal budget log (subst (λ k. budget < k) f h)

  -- A run that was made in other buffers, and its lines copied.
  module _ (budget : ℕ) {k k' l l' : List ℕ} {a : Answer} (w : Worked (run_of m (theory_said table) budget) k l k' l' a) (n : Numbers) (f : n ≡ numbers_of a) where
    o : Outcome
    o = run_of m (theory_said table) budget

    pub lines_written : n.lines ≡ lines (run_of m (theory_said table) budget)
    unfolding numbers_of o
    lines_written =
        ap (λ z. z.lines) f ∙ ap (λ z. (numbers_of z).lines) w.answer
        ∙ cond_cases (λ z. (numbers_of z).lines ≡ lines o) o.finished (Finished (counts_in o)) (Stopped (counts_in o)) (λ _. refl) (λ _. refl)

    pub lines_inside : n.lines ≤ length l'
    unfolding o
    lines_inside = omega (arith, lines_written, ap length w.written, length-append (log_of o) (drop (lines o) l))

    pub worked_copied : (mem log log' : List ℕ) → log' ≡ take n.lines l' ++ drop n.lines log → Worked (run_of m (theory_said table) budget) mem log mem log' a
    unfolding o
    worked_copied mem log log' g =
        record {
          answer = w.answer;
          written = g ∙ ap₂ ◌++◌ (ap (take n.lines) w.written ∙ take_at (log_of o) (drop (lines o) l) n.lines (sym lines_written)) (ap (λ k. drop k log) lines_written);
          kept = kept_none mem;
        }

-- the scratch after a call, by its first words and the rest
rest_after : (j : Judgement) (l : List ℕ) → 32768 ≤ length l → scratch_after j (take 32768 l) ++ drop 32768 l ≡ scratch_after j l
unfolding scratch_after
rest_after (Ok s) l h =
    ap (λ (z : List ℕ). (replicate 32768 0 ++ z) ++ drop 32768 l)
    (ap (λ k. drop k (take 32768 l)) (sym (length-take-le 32768 l h)) ∙ drop-length (take 32768 l))
    ∙ ap (λ (z : List ℕ). z ++ drop 32768 l) (append-nil (replicate 32768 0))
rest_after (Err n) l h = take-append-drop 32768 l

module _ (m : Reading) (j : Judgement) (d : Theory) (budget : ℕ) (log scratch : List ℕ) where
  -- refused: by its table, in which case nothing is demanded of the run, or by its buffers
  pub ran_refused : {n : Refusal} {a : Answer} {log' scratch' : List ℕ} → call_judgement j m d budget (length scratch) (length log) ≡ Err n
      → ((s : Sizes) → j ≡ Ok s → T (proper d)) → (a ≡ Refused n) × (log' ≡ log) × (scratch' ≡ scratch)
      → Ran m j d budget log log' scratch scratch' (numbers_of a)
  unfolding answer_to log_after scratch_after
  ran_refused e p (f, g, h) =
      record {
        answer = ap numbers_of f ∙ sym (ap (λ i. numbers_of (answer_to i (run_of m d budget))) e);
        written = g ∙ sym (ap (λ i. log_after i (run_of m d budget) log) e);
        cleared = h ∙ sym (ap (λ i. scratch_after i scratch) e);
        demands = λ s a. run_demands m d (p s a) budget;
        remains = λ s a. run_remains m d (p s a) budget;
      }

-- of a table that is refused
pub ran_not : (m : Reading) (d : Theory) (budget : ℕ) (log scratch : List ℕ) (n : Refusal) {a : Answer} {log' scratch' : List ℕ} → (a ≡ Refused n) × (log' ≡ log) × (scratch' ≡ scratch)
    → Ran m (Err n) d budget log log' scratch scratch' (numbers_of a)
ran_not m d budget log scratch n f =
    ran_refused m (Err n) d budget log scratch (refused_table m d budget (length scratch) (length log) n) (λ s e. absurd (refused_not e)) f

module _ (m : Reading) (table : Table) {budget : ℕ} {log scratch : List ℕ} where
  -- refused by its buffers
  pub ran_short : {n : Refusal} {a : Answer} {log' scratch' : List ℕ}
      → call_judgement (Ok table.sizes) m (theory_said table) budget (length scratch) (length log) ≡ Err n
      → (a ≡ Refused n) × (log' ≡ log) × (scratch' ≡ scratch) → Ran m (Ok table.sizes) (theory_said table) budget log log' scratch scratch' (numbers_of a)
  ran_short f g = ran_refused m (Ok table.sizes) (theory_said table) budget log scratch f (λ _ _. proper_in table) g

  -- run, and the scratch cleared
  pub ran : 32768 ≤ length scratch → lines (run_of m (theory_said table) budget) ≤ length log → {mem log' scratch' : List ℕ} {a : Answer}
      → Worked (run_of m (theory_said table) budget) scratch log mem log' a → scratch' ≡ replicate 32768 0 ++ drop 32768 mem
      → Ran m (Ok table.sizes) (theory_said table) budget log log' scratch scratch' (numbers_of a)
  unfolding answer_to log_after scratch_after
  ran h k {mem} {log'} {scratch'} {a} w f =
      record {
        answer = ap numbers_of (w.answer ∙ sym (ap (λ j. answer_to j (run_of m (theory_said table) budget)) accepted));
        written = w.written ∙ sym (ap (λ j. log_after j (run_of m (theory_said table) budget) log) accepted);
        cleared = f ∙ ap (λ (z : List ℕ). replicate 32768 0 ++ z) w.kept.rest ∙ sym (ap (λ j. scratch_after j scratch) accepted);
        demands = λ _ _. run_demands m (theory_said table) (proper_in table) budget;
        remains = λ _ _. run_remains m (theory_said table) (proper_in table) budget;
      }
    where
      accepted : call_judgement (Ok table.sizes) m (theory_said table) budget (length scratch) (length log) ≡ Ok table.sizes
      accepted = long_enough m table.layout.now table.sizes table.legal budget (length log) (length scratch) h k

  -- only the first words of the scratch lent
  pub ran_cut : 32768 ≤ length scratch → {log' part scratch' : List ℕ} {r : Numbers}
      → Ran m (Ok table.sizes) (theory_said table) budget log log' (take 32768 scratch) part r → scratch' ≡ part ++ drop 32768 scratch
      → Ran m (Ok table.sizes) (theory_said table) budget log log' scratch scratch' r
  ran_cut h {log'} {part} {scratch'} r g =
      record {
        answer = r.answer ∙ ap (λ j. numbers_of (answer_to j (run_of m (theory_said table) budget))) same;
        written = r.written ∙ ap (λ j. log_after j (run_of m (theory_said table) budget) log) same;
        cleared = g ∙ ap (λ (z : List ℕ). z ++ drop 32768 scratch) (r.cleared ∙ ap (λ j. scratch_after j (take 32768 scratch)) same) ∙ rest_after _ scratch h;
        demands = r.demands;
        remains = r.remains;
      }
    where
      same : call_judgement (Ok table.sizes) m (theory_said table) budget (length (take 32768 scratch)) (length log)
          ≡ call_judgement (Ok table.sizes) m (theory_said table) budget (length scratch) (length log)
      same =
          by_log m table.layout.now table.sizes table.legal budget (length log) (length (take 32768 scratch)) (omega (arith, length-take-le 32768 scratch h))
          ∙ sym (by_log m table.layout.now table.sizes table.legal budget (length log) (length scratch) h)

-- a run of what was taken from a table that is refused is one of the table
pub ran_refused_of : (m : Reading) (e : Edition) (b : List ℕ) (budget : ℕ) (log scratch : List ℕ) (n : Refusal) {r : Result Table Refusal} {a : Answer} {log' scratch' : List ℕ} → Opened e b r
    → r ≡ Err n → (a ≡ Refused n) × (log' ≡ log) × (scratch' ≡ scratch) → Ran m (judgement_of e b) (theory_of e b) budget log log' scratch scratch' (numbers_of a)
ran_refused_of m e b budget log scratch n {a = a} {log' = log'} {scratch' = scratch'} o g h =
    subst (λ i. Ran m i (theory_of e b) budget log log' scratch scratch' (numbers_of a)) (sym (subst (Opened e b) g o)) (ran_not m (theory_of e b) budget log scratch n h)
