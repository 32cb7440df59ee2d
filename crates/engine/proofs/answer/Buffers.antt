-- Which lengths of the buffers are accepted: the laws of `call_judgement`. Assumes nothing.
use Prim.Native.Nat.{ℕ, ◌*◌, ◌≤◌, ◌<◌}
use native.Mathlib.Omega.{arith}
use mathlib.Core.Path.{◌≡◌, refl, sym, ◌∙◌, ap, subst}
use mathlib.Core.Bool.{cond}
use mathlib.Core.List.{List}
use borrow.Author.Tests.{lt-ltb, le-ltb}
use lib.Dec.{T, ltb}
use lib.ListN.{length, length-append}
use Rattle.logic.specs.Theory.{Theory, proper, size}
use Rattle.logic.specs.Worklist.{log_of, lines}
use Rattle.table.specs.declared.format.Sizes.{Sizes}
use Rattle.table.specs.declared.judge.Refusal.{Refusal}
use Rattle.table.specs.declared.judge.Refusal.TheVariants.{ShortScratch, ShortLog}
use Rattle.std.specs.Prelude.{Ok, Err}
use Rattle.table.specs.Format.{theory_in}
use Rattle.table.specs.Refusals.{Legal}
use Rattle.table.proofs.Legal.{ranged, proper_theory}
use Rattle.engine.specs.declared.reading.Reading.{Reading}
use Rattle.engine.specs.Readings.{run_of}
use Rattle.engine.specs.Answers.{with_buffers, call_judgement}
use Rattle.engine.proofs.reading.Readings.{run_unpaid, run_demands, run_lines}

-- a refused table, whatever is lent
pub refused_table : (m : Reading) (d : Theory) (budget scratch log : ℕ) (n : Refusal) → call_judgement (Err n) m d budget scratch log ≡ Err n
unfolding with_buffers
refused_table m d budget scratch log n = refl

pub proper_read : (b : List ℕ) (s : Sizes) → Legal b s → T (proper (theory_in b s))
proper_read b s e = proper_theory b s (ranged b s e.ranges)

module _ (m : Reading) (b : List ℕ) (s : Sizes) (e : Legal b s) where
  -- a log that serves a budget serves every smaller one, but perhaps no larger one
  pub more_lines : (less more : ℕ) → less ≤ more → lines (run_of m (theory_in b s) less) ≤ lines (run_of m (theory_in b s) more)
  more_lines less more h =
      let (r, f) = (run_demands m (theory_in b s) (proper_read b s e) less).prefix less more h in
      omega (arith, length-append (log_of (run_of m (theory_in b s) less)) r, ap length f)

  module _ (budget log : ℕ) where
    -- 4A words serve every budget
    pub full_log : 4 * s.atoms ≤ log → lines (run_of m (theory_in b s) budget) ≤ log
    unfolding theory_in
    full_log h = omega (arith, run_lines m (theory_in b s) (proper_read b s e) budget)

    -- and no word is needed where Size exceeds the budget
    pub no_line : budget < size (theory_in b s) → lines (run_of m (theory_in b s) budget) ≤ log
    no_line h = subst (λ o. lines o ≤ log) (sym (run_unpaid m (theory_in b s) budget h)) (omega arith)

    module _ (scratch : ℕ) where
      pub short_scratch : scratch < 32768 → call_judgement (Ok s) m (theory_in b s) budget scratch log ≡ Err ShortScratch
      unfolding with_buffers
      short_scratch h = simp (lt-ltb scratch 32768 h)

      -- with a scratch that is long enough it is the log that decides
      pub by_log : 32768 ≤ scratch
          → call_judgement (Ok s) m (theory_in b s) budget scratch log ≡ cond (ltb log (lines (run_of m (theory_in b s) budget))) (Err ShortLog) (Ok s)
      unfolding with_buffers
      by_log h = simp (le-ltb scratch 32768 h)

      pub short_log : 32768 ≤ scratch → log < lines (run_of m (theory_in b s) budget)
          → call_judgement (Ok s) m (theory_in b s) budget scratch log ≡ Err ShortLog
      short_log h k = by_log h ∙ (simp (lt-ltb log (lines (run_of m (theory_in b s) budget)) k))

      pub long_enough : 32768 ≤ scratch → lines (run_of m (theory_in b s) budget) ≤ log → call_judgement (Ok s) m (theory_in b s) budget scratch log ≡ Ok s
      long_enough h k = by_log h ∙ (simp (le-ltb log (lines (run_of m (theory_in b s) budget)) k))
