-- Document 02, S-7: what is shown of the joined table.
use Rattle.std.specs.Prelude.{ℕ, ◌<◌, ◌≡◌, List, T, Ok}
use Rattle.logic.specs.Theory.{Theory, can_support, kind_of, head_of, complement, attacker, superior}
use Rattle.logic.specs.Cycle.{Cycle}
use Rattle.logic.specs.Inference.{−Δ, +∂, all_have}
use Rattle.logic.specs.Plain.{plain, plain_run}
use Rattle.logic.specs.Laws.{logged}
use Rattle.table.specs.declared.edition.Edition.{Edition}
use Rattle.table.specs.Format.{theory_of}
use Rattle.table.specs.Refusals.{judgement_of}
use Rattle.files.specs.Contents.{content_of, sizes_for}
use Rattle.joining.specs.Joining.{joined}

-- "In a finished plain run, a strict or defeasible house rule that fires gives its head +∂ wherever no house rule attacks it and the head's
-- complement has −Δ.": r is a rule of the house, and the run is that of d
abbrev pub Prevails : Theory → Theory → Type 0
Prevails house d =
    (budget r : ℕ) → T (plain_run d budget).finished → r < house.rules → T (can_support (kind_of house r))
    → T (all_have house (logged plain d budget) +∂ r) → ((s : ℕ) → s < house.rules → T (attacker house s (head_of house r)) → ⊥)
    → T (logged plain d budget (complement (head_of house r)) −Δ) → T (logged plain d budget (head_of house r) +∂)

-- The file of a join: it is accepted and says the joined content, it "is always free of circles", and the house's rules prevail.
pub record Join (e : Edition) (house tour new : List ℕ) : Type 0 where
  pub accepted : judgement_of e new ≡ Ok (sizes_for (joined (content_of e house) (content_of e tour)))
  pub content : content_of e new ≡ joined (content_of e house) (content_of e tour)
  pub acyclic : Cycle (superior (theory_of e new)) → ⊥
  pub prevails : Prevails (theory_of e house) (theory_of e new)
