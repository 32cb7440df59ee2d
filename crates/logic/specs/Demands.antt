-- What is handed over with a run under a budget: demands 2 and 3, whole. System and searches are a reading's; `most` is the reading's bound
-- on what is spent, and a budget of `plenty` finishes.
use Rattle.std.specs.Prelude.{ℕ, ◌+◌, ◌*◌, ◌≤◌, ◌<◌, ◌≡◌, ◌↔◌, Bool, cond, T, leb}
use mathlib.Core.List.{[], IsPrefix}
use Rattle.logic.specs.Tests.{member, distinct}
use Rattle.logic.specs.System.{System, Searches, held, Coherent, derivation, Derivable, Closed}
use Rattle.logic.specs.Worklist.{log_of, run, costs, toll_from}

pub record Demands (s : System) (z : Searches) (most plenty budget : ℕ) : Type 0 where
  -- Demand 2: the log "is a derivation", holds each line once and, finished, "exactly what has a derivation".
  pub is_derivation : T (derivation s z (log_of (run s z budget)))
  pub once : T (distinct (log_of (run s z budget)))
  pub exact : T (run s z budget).finished → (x : ℕ) → T (member x (log_of (run s z budget))) ↔ Derivable s z x
  -- "a finished log holds the least collection of lines closed under the inference rules and both searches": it is closed, and what any log
  -- holds is in every collection that is
  pub closed : T (run s z budget).finished → Closed s z (held (log_of (run s z budget)))
  pub least : (h : ℕ → Bool) → Closed s z h → (x : ℕ) → T (member x (log_of (run s z budget))) → T (h x)
  -- "no literal has a tag and its opposite"
  pub coherent : Coherent (held (log_of (run s z budget)))
  -- Demand 3: finished exactly if the start was paid, each line written was worked, and all searches were then made, one after the other, and
  -- added nothing. Each of those that did found nothing over the log.
  pub finishes : T (run s z budget).finished ↔ ((s.start ≤ budget) × ((run s z budget).pending ≡ []) × (z.count ≤ (run s z budget).idle))
  pub searched_all : (i x : ℕ) → i < (run s z budget).idle → x < s.conclusions → T (z.finds i (held (log_of (run s z budget))) x)
      → T (member x (log_of (run s z budget)))
  -- "once the opening is paid, Size plus the price of each line worked", and Size for each search, never above the budget
  pub sum : (run s z budget).spent
      ≡ cond (leb s.start budget) (s.start + costs s (run s z budget).processed + (run s z budget).searched * s.start) 0
  pub within : (run s z budget).spent ≤ budget
  -- "the first that doesn't [fit] stops the run": a line, or a search
  pub stops : s.start ≤ budget → (T (run s z budget).finished → ⊥)
      → budget < (run s z budget).spent + toll_from s (run s z budget).processed (run s z budget).pending
  -- a smaller budget's log is a prefix
  pub prefix : (less more : ℕ) → less ≤ more → IsPrefix (log_of (run s z less)) (log_of (run s z more))
  -- "Spent never exceeds" the bound, and enough finishes
  pub bounded : (run s z budget).spent ≤ most
  pub enough : plenty ≤ budget → T (run s z budget).finished
