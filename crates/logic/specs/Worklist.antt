-- Document 01, The rule of working, and its price: the worklist run of a closure system under a budget. Document 02, S-9: where no line is left
-- to process, the searches are made.
use Rattle.std.specs.Prelude.{ℕ, zero, suc, ◌+◌, ◌-◌, ◌*◌, Bool, true, false, cond, List, [], ◌∷◌, ◌++◌, leb}
use Rattle.std.proofs.Math.ListN
use Rattle.logic.specs.Tests.{◌and◌, isnt, member, empty, upto, pick}
use Rattle.logic.specs.System.{System, Searches, held}

-- Where a run stands. The log ("lines") is what was processed ("worked lines"), then what was written and not processed.
pub record Stage : Type 0 where
  pub processed : List ℕ
  pub pending : List ℕ
  -- the searches made one after the other up to here that added nothing, and all that were made
  pub idle : ℕ
  pub searched : ℕ
  pub spent : ℕ

abbrev pub stage : List ℕ → List ℕ → ℕ → ℕ → ℕ → Stage
stage done todo idle searched spent = record { processed = done; pending = todo; idle = idle; searched = searched; spent = spent }

-- What a run leaves.
pub record Outcome : Type 0 where
  pub finished : Bool
  pub processed : List ℕ
  pub pending : List ℕ
  pub idle : ℕ
  pub searched : ℕ
  pub spent : ℕ

abbrev pub outcome : Bool → Stage → Outcome
outcome b g =
    record { finished = b; processed = g.processed; pending = g.pending; idle = g.idle; searched = g.searched; spent = g.spent }

abbrev pub log_of : Outcome → List ℕ
log_of o = o.processed ++ o.pending

-- "The answer gives lines, worked, spent: how many lines were written, how many of them were worked"
abbrev pub lines : Outcome → ℕ
lines o = ListN.length (log_of o)

abbrev pub worked : Outcome → ℕ
worked o = ListN.length o.processed

-- a list with x at its end where the test passes
unfoldable pub put : Bool → List ℕ → ℕ → List ℕ
put true l x = l ++ (x ∷ [])
put false l x = l

module _ (s : System) where
  -- "Opening .. writes every line that follows from nothing, by literal, then tag."
  abbrev pub initial : List ℕ
  initial = pick (upto s.conclusions) (s.infers (held []))

  -- "a line is written if it follows from the worked lines, this one included, and isn't in the log yet": what is pending once
  -- the conclusions of the last list were tried, by a test of what is processed
  unfoldable pub grow : (ℕ → Bool) → List ℕ → List ℕ → List ℕ → List ℕ
  grow h done todo [] = todo
  grow h done todo (x ∷ xs) = grow h done (put (s.infers h x and isnt (member x (done ++ todo))) todo x) xs

  -- what is pending once x, the first of it, was processed
  abbrev pub process : List ℕ → ℕ → List ℕ → List ℕ
  process done x xs = grow (held (done ++ (x ∷ []))) (done ++ (x ∷ [])) xs (s.tried x)

  abbrev pub cost_after : List ℕ → ℕ → ℕ
  cost_after done x = s.cost (held done) (held (done ++ (x ∷ []))) x

  -- the price of each line worked, added up
  unfoldable pub costs_from : List ℕ → List ℕ → ℕ
  costs_from done [] = 0
  costs_from done (x ∷ xs) = cost_after done x + costs_from (done ++ (x ∷ [])) xs

  abbrev pub costs : List ℕ → ℕ
  costs l = costs_from [] l

  -- what the next step costs: the price of the next line or, with none left, of a search, which "costs Size"
  unfoldable pub toll_from : List ℕ → List ℕ → ℕ
  toll_from done [] = s.start
  toll_from done (x ∷ xs) = cost_after done x

  abbrev pub toll : Stage → ℕ
  toll g = toll_from g.processed g.pending

  module _ (z : Searches) where
    -- what a search adds where everything is processed: what it finds and is "lacking", "by literal"
    abbrev pub found : ℕ → List ℕ → List ℕ
    found i done = pick (upto s.conclusions) (λ x. z.finds i (held done) x and isnt (member x done))

    -- One step. "Lines are worked in log order." "When no line is left to work, search ..; If that adds nothing, search" by the next one; where
    -- one adds lines, the first is the next again.
    unfoldable pub step_from : List ℕ → List ℕ → ℕ → ℕ → ℕ → Stage
    step_from done [] idle searched spent =
        let new = found idle done in stage done new (cond (empty new) (suc idle) 0) (suc searched) (spent + s.start)
    step_from done (x ∷ xs) idle searched spent = stage (done ++ (x ∷ [])) (process done x xs) 0 searched (spent + cost_after done x)

    abbrev pub step : Stage → Stage
    step g = step_from g.processed g.pending g.idle g.searched g.spent

    -- "All worked: finished." With searches: "each line written was worked, and both searches were then made and added nothing"
    abbrev pub ended : Stage → Bool
    ended g = empty g.pending and leb z.count g.idle

    -- "a line is worked if its price fits what is left; the first that doesn't stops the run"; a search "is begun only if that fits"
    abbrev pub goes : ℕ → Stage → Bool
    goes budget g = isnt (ended g) and leb (toll g) (budget - g.spent)

    unfoldable pub step_if : Bool → Stage → Stage
    step_if true g = step g
    step_if false g = g

    -- so many steps, as long as it goes
    unfoldable pub proceed : ℕ → ℕ → Stage → Outcome
    proceed zero budget g = outcome (ended g) g
    proceed (suc n) budget g = proceed n budget (step_if (goes budget g) g)

    -- what comes of a run from where it stands. As a line costs at least 1, and no more than all searches stand between two lines, so many steps
    -- are enough.
    abbrev pub rest : ℕ → Stage → Outcome
    rest budget g = proceed (suc z.count * (budget - g.spent) + z.count) budget g

    -- the start is paid, and the initial conclusions are written
    abbrev pub opened : Stage
    opened = stage [] initial 0 0 s.start

    -- "If Size exceeds it, the answer is stopped with 0 lines, 0 worked, 0 spent."
    abbrev pub unstarted : Outcome
    unstarted = outcome false (stage [] [] 0 0 0)

    unfoldable pub run : ℕ → Outcome
    run budget =
        let started = rest budget opened in
        cond (leb s.start budget) started unstarted
