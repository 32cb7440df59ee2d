-- The plain reading: demands 2 and 3 hold of its runs. Assumes nothing.
use Prim.Native.Nat.{ℕ, ◌+◌, ◌*◌, ◌≤◌}
use native.Mathlib.Nat.{le_refl, zero-mul}
use native.Mathlib.Omega.{arith}
use mathlib.Core.Path.{◌≡◌, refl, ◌∙◌, ap}
use mathlib.Core.List.{List}
use lib.Dec.{T}
use Rattle.logic.specs.Tests.{◌and◌, total, weigh}
use Rattle.logic.specs.Theory.{Theory, size, proper}
use Rattle.logic.specs.System.{held, Coherent, derivation}
use Rattle.logic.specs.Worklist.{lines}
use Rattle.logic.specs.Reading.{searches_of}
use Rattle.logic.specs.Plain.{plain, plain_system, no_searches, plain_run, bound}
use Rattle.logic.specs.Demands.{Demands}
use Rattle.logic.specs.Laws.{Rules}
use Rattle.logic.proofs.Derivations.{Lawful}
use Rattle.logic.proofs.Inference.{across_follows, opposed_follows}
use Rattle.logic.proofs.Readings.{reading_lawful, reading_coherent}
use Rattle.logic.proofs.Costs.{heaviest, share_of, shares, reading_demands, reading_lines}

-- what is asked of a reading
pub plain_rules : Rules plain
plain_rules =
    record {
      tagged = omega arith;
      across = λ c h g q t i f. across_follows c h g q i f t;
      opposed = λ d h k c e q f. opposed_follows d h k c e q f;
      fits_across = λ c h g x y i q o f e t. absurd t;
      fits_infer = λ d h x i q b t. absurd t;
    }

pub no_searches_lem : (d : Theory) → (no_searches d).count ≡ 0
unfolding searches_of
no_searches_lem d = refl

module _ (d : Theory) (p : T (proper d)) where
  -- the plain system's laws
  pub plain_lawful : Lawful (plain_system d) (no_searches d)
  plain_lawful = reading_lawful plain plain_rules d p

  -- never a tag and its opposite
  pub plain_coherent : (l : List ℕ) → T (derivation (plain_system d) (no_searches d) l) → Coherent (held l)
  plain_coherent = reading_coherent plain plain_rules d p

  -- no share, and no search
  within_bound : size d + heaviest d 2 + (2 * d.atoms * shares plain + 0) * size d ≤ bound d
  unfolding shares share_of total weigh ◌and◌
  within_bound =
      let e : (2 * d.atoms * 0 + 0) * size d ≡ 0 = ap (λ n. n * size d) (let f : 2 * d.atoms * 0 + 0 ≡ 0 = omega arith in f) ∙ zero-mul (size d) in
      omega arith

  -- Demands 2 and 3 of document 01, for every budget.
  pub plain_demands : (budget : ℕ) → Demands (plain_system d) (no_searches d) (bound d) (5 * size d) budget
  plain_demands = reading_demands plain plain_rules d p (bound d) within_bound (5 * size d) (omega arith) (omega arith)

  -- the bound is a budget that finishes
  pub plain_finishes : (budget : ℕ) → bound d ≤ budget → T (plain_run d budget).finished
  plain_finishes budget h = (reading_demands plain plain_rules d p (bound d) within_bound (bound d) (omega arith) (le_refl (bound d)) budget).enough h

  -- at most 4A conclusions
  pub plain_lines : (budget : ℕ) → lines (plain_run d budget) ≤ 4 * d.atoms
  plain_lines budget = reading_lines plain plain_rules d p budget
