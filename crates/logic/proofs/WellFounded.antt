-- The well-founded reading (document 02, S-9): demands 2 and 3 hold of its runs, and every plain conclusion remains. Assumes nothing.
use Prim.Native.Nat.{ℕ, ◌+◌, ◌*◌, ◌≤◌, ◌<◌}
use native.Mathlib.Nat.{le_refl}
use native.Mathlib.Omega.{arith}
use mathlib.Core.Path.{◌≡◌, refl, sym, ap, subst}
use mathlib.Core.Bool.{Bool}
use mathlib.Core.List.{List, []}
use lib.Dec.{T}
use lib.ListN.{length}
use Rattle.logic.specs.Tests.{◌and◌, member, distinct, total, weigh}
use Rattle.logic.specs.Theory.{Theory, size, proper}
use Rattle.logic.specs.System.{held, Coherent, derivation}
use Rattle.logic.specs.Worklist.{log_of, lines}
use Rattle.logic.specs.Reading.{system_of, set_of, searches_of}
use Rattle.logic.specs.Plain.{plain_system, no_searches, plain_run}
use Rattle.logic.specs.Unfounded.{unfounded}
use Rattle.logic.specs.WellFounded.{well_founded, unfounded_searches, searched_bound}
use Rattle.logic.specs.Demands.{Demands}
use Rattle.logic.specs.Laws.{Rules, reading_run}
use Rattle.logic.proofs.Derivations.{Lawful, derives_without}
use Rattle.logic.proofs.Inference.{across_follows, across_unfounded, unfounded_follows, opposed_follows}
use Rattle.logic.proofs.Readings.{set_fits, set_holds, reading_lawful, reading_coherent, reading_length}
use Rattle.logic.proofs.Costs.{heaviest, share_of, shares, reading_demands, reading_lines}
use Rattle.logic.proofs.Plain.{plain_demands}

-- what is asked of a reading
pub well_founded_rules : Rules well_founded
well_founded_rules =
    record {
      tagged = omega arith;
      across = λ c h g q t i f. across_follows c h g q i f t;
      opposed = λ d h k c e q f. opposed_follows d h k c e q f;
      fits_across = λ c h g x y i q o f e. across_unfounded c h g x y q o f e i;
      fits_infer = λ d h x i q. unfounded_follows d h x i q;
    }

-- The set of a search is such a set, and has every such set of literals, over whatever is held.
module _ (d : Theory) (holds : ℕ → ℕ → Bool) (i : ℕ) where
  pub set_unfounded : (q : ℕ) → T (member q (set_of well_founded d holds i)) → T (unfounded d holds (held (set_of well_founded d holds i)) i q)
  set_unfounded = set_fits well_founded well_founded_rules d holds i

  pub set_largest : (x : ℕ → Bool) → ((q : ℕ) → T (x q) → q < 2 * d.atoms) → ((q : ℕ) → T (x q) → T (unfounded d holds x i q))
      → (q : ℕ) → T (x q) → T (member q (set_of well_founded d holds i))
  set_largest = set_holds well_founded well_founded_rules d holds i

-- both readings have one system
pub one_system : (d : Theory) → plain_system d ≡ system_of well_founded d
unfolding system_of
one_system d = refl

-- a plain derivation is one here
pub plain_derivation : (d : Theory) (l : List ℕ) → T (derivation (plain_system d) (no_searches d) l) → T (derivation (plain_system d) (unfounded_searches d) l)
unfolding searches_of
plain_derivation d l = derives_without (plain_system d) (unfounded_searches d) (no_searches d) refl [] l

module _ (d : Theory) (p : T (proper d)) where
  -- the one system with this reading's searches
  pub searched_lawful : Lawful (plain_system d) (unfounded_searches d)
  searched_lawful = subst (λ s. Lawful s (unfounded_searches d)) (sym (one_system d)) (reading_lawful well_founded well_founded_rules d p)

  pub searched_coherent : (l : List ℕ) → T (derivation (plain_system d) (unfounded_searches d) l) → Coherent (held l)
  searched_coherent l t = reading_coherent well_founded well_founded_rules d p l (subst (λ s. T (derivation s (unfounded_searches d) l)) (one_system d) t)

  -- at most 4A conclusions
  pub searched_length : (l : List ℕ) → T (derivation (plain_system d) (unfounded_searches d) l) → T (distinct l) → length l ≤ 4 * d.atoms
  searched_length l t = reading_length well_founded well_founded_rules d p l (subst (λ s. T (derivation s (unfounded_searches d) l)) (one_system d) t)

  pub well_founded_lines : (budget : ℕ) → lines (reading_run well_founded d budget) ≤ 4 * d.atoms
  well_founded_lines budget = reading_lines well_founded well_founded_rules d p budget

  -- a share of 1 for each −Δ and of 2 for each −∂, and two searches
  within_bound : size d + heaviest d 2 + (2 * d.atoms * shares well_founded + 2) * size d ≤ searched_bound d
  unfolding shares share_of total weigh ◌and◌
  within_bound =
      let e : (2 * d.atoms * 3 + 2) * size d ≡ (6 * d.atoms + 2) * size d = ap (λ n. n * size d) (let f : 2 * d.atoms * 3 + 2 ≡ 6 * d.atoms + 2 = omega arith in f) in
      omega arith

  -- Demands 2 and 3 in this reading, for every budget; its bound is a budget that finishes.
  pub well_founded_demands : (budget : ℕ) → Demands (system_of well_founded d) (unfounded_searches d) (searched_bound d) (searched_bound d) budget
  well_founded_demands = reading_demands well_founded well_founded_rules d p (searched_bound d) within_bound (searched_bound d) (omega arith) (le_refl (searched_bound d))

  -- "Every plain conclusion remains": of a finished run here, whatever the plain budget
  pub plain_remains : (less budget : ℕ) → T (reading_run well_founded d budget).finished → (x : ℕ) → T (member x (log_of (plain_run d less))) → T (member x (log_of (reading_run well_founded d budget)))
  plain_remains less budget t x m =
      ((well_founded_demands budget).exact t x).1
      (log_of (plain_run d less), subst (λ s. T (derivation s (unfounded_searches d) (log_of (plain_run d less)))) (one_system d) (plain_derivation d _ (plain_demands d p less).is_derivation), m)
