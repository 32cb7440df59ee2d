-- What the run does with the log and the memory: what stands in them between two steps, and what each step changes.
use Rattle.std.specs.Prelude.{ℕ, ◌+◌, ◌*◌, ◌≤◌, ◌<◌, ◌≡◌, Bool, false, cond, List, [], ◌∷◌, ◌++◌, T, eqb, leb, length, take, drop}
use Rattle.logic.specs.Tests.{◌and◌, ◌or◌, isnt, member, distinct, pick}
use Rattle.logic.specs.Theory.{Theory, is_strict, kind_of, size}
use Rattle.logic.specs.System.{held, yields, derivation}
use Rattle.logic.specs.Worklist.{Stage, stage, Outcome, outcome, log_of, lines, put, grow, initial, found, rest}
use Rattle.logic.specs.Reading.{heads}
use Rattle.logic.specs.Plain.{plain_system, no_searches}
use Rattle.logic.specs.WellFounded.{unfounded_searches}
use Rattle.table.specs.declared.accepted.Table.{Table}
use Rattle.table.specs.Tables.{theory_said}
use Rattle.engine.specs.declared.answer.Counts.{Counts}
use Rattle.engine.specs.declared.answer.Answer.{Answer}
use Rattle.engine.specs.declared.tally.Tally.{Tally}
use Rattle.memory.specs.Layout.{tag_count}
use Rattle.memory.specs.Memory.{held_of, written_of, Ready}
use Rattle.memory.specs.Api.{adds, Kept}
use Rattle.engine.specs.Answers.{answer_of}

-- What stands in the first n words of a log yields a conclusion: it follows from them, or a search finds it over them.
abbrev pub Yielded : Theory → List ℕ → ℕ → ℕ → Type 0
Yielded d log n x = T (yields (plain_system d) (unfounded_searches d) (held (take n log)) x)

-- The log has n lines: a derivation without repeats, and just what is written by the memory. It has room for every line. The derivation may be
-- one with searches in either reading: a plain one is one of those too.
pub record Logged (d : Theory) (mem log : List ℕ) (n : ℕ) : Type 0 where
  pub ready : Ready d mem
  pub written : (x : ℕ) → written_of mem x ≡ member x (take n log)
  pub derives : T (derivation (plain_system d) (unfounded_searches d) (take n log))
  pub once : T (distinct (take n log))
  pub inside : n ≤ length log
  pub room : tag_count * d.atoms ≤ length log

-- The lines have grown, and nothing else has changed: what the log holds past them, and what the memory's words past it hold.
pub record Grown (mem log : List ℕ) (n : ℕ) (mem' log' : List ℕ) (n' : ℕ) : Type 0 where
  pub past : drop n' log' ≡ drop n' log
  pub more : n ≤ n'
  pub size : length log' ≡ length log
  pub kept : Kept mem mem'

-- A conclusion was written at the end of the log.
pub record Appended (d : Theory) (x : ℕ) (mem log : List ℕ) (n : ℕ) (mem' log' : List ℕ) (n' : ℕ) : Type 0 where
  pub logged : Logged d mem' log' n'
  pub lines : take n' log' ≡ take n log ++ (x ∷ [])
  pub grown : Grown mem log n mem' log' n'
  pub held : (y : ℕ) → held_of mem' y ≡ held_of mem y

-- Conclusion x was written if a search found it and it was not written yet.
pub record Refuted (d : Theory) (found : Bool) (x : ℕ) (mem log : List ℕ) (n : ℕ) (mem' log' : List ℕ) (n' : ℕ) : Type 0 where
  pub logged : Logged d mem' log' n'
  pub lines : take n' log' ≡ put (found and isnt (member x (take n log))) (take n log) x
  pub grown : Grown mem log n mem' log' n'
  pub held : (y : ℕ) → held_of mem' y ≡ held_of mem y

-- Conclusions were tried, in their order: the lines have grown by those that follow, and nothing else has changed.
pub record Tried (d : Theory) (cs mem log : List ℕ) (n : ℕ) (mem' log' : List ℕ) (n' : ℕ) : Type 0 where
  pub logged : Logged d mem' log' n'
  pub lines : take n' log' ≡ grow (plain_system d) (held_of mem) [] (take n log) cs
  pub grown : Grown mem log n mem' log' n'
  pub held : (x : ℕ) → held_of mem' x ≡ held_of mem x

-- The family of a definite conclusion, and of another.
abbrev pub family_if : Bool → ℕ
family_if b = cond b 0 1

-- The heads of the rules of a list that a conclusion visits, and their complements: of the strict ones alone, if it is definite.
abbrev pub heads_if : Theory → Bool → List ℕ → List ℕ
heads_if d b rs = heads d (pick rs (λ r. isnt (eqb (family_if b) 0) or is_strict (kind_of d r)))

-- Conclusion x was processed, and what is tried after it was tried.
pub record Processed (d : Theory) (x : ℕ) (mem log : List ℕ) (n : ℕ) (mem' log' : List ℕ) (n' : ℕ) : Type 0 where
  pub logged : Logged d mem' log' n'
  pub lines : take n' log' ≡ grow (plain_system d) (adds (held_of mem) x) [] (take n log) ((plain_system d).tried x)
  pub grown : Grown mem log n mem' log' n'
  pub held : (y : ℕ) → held_of mem' y ≡ adds (held_of mem) x y

-- Nothing is processed, and nothing written.
pub record Blank (d : Theory) (mem : List ℕ) : Type 0 where
  pub ready : Ready d mem
  pub none : (x : ℕ) → held_of mem x ≡ false
  pub nothing : (x : ℕ) → written_of mem x ≡ false

-- The initial conclusions are written.
pub record Opened (d : Theory) (mem log mem' log' : List ℕ) (n : ℕ) : Type 0 where
  pub logged : Logged d mem' log' n
  pub lines : take n log' ≡ initial (plain_system d)
  pub grown : Grown mem log 0 mem' log' n
  pub held : (x : ℕ) → held_of mem' x ≡ held_of mem x

-- Where a run stands, with so many lines written and so much worked and spent: what is processed is what the memory holds.
pub record Reached (d : Theory) (budget : ℕ) (mem log : List ℕ) (n : ℕ) (t : Tally) : Type 0 where
  pub logged : Logged d mem log n
  pub few : t.worked ≤ n
  pub held : (x : ℕ) → held_of mem x ≡ member x (take t.worked log)
  pub within : t.spent ≤ budget

-- that stage of the run, with the searches that were idle up to here, and all that were made
abbrev pub stage_at : List ℕ → ℕ → Tally → ℕ → ℕ → Stage
stage_at log n t idle searched = stage (take t.worked log) (drop t.worked (take n log)) idle searched t.spent

-- The lines are processed, until none is left or the next does not fit: as in the plain reading, whatever searches there are.
pub record Lined (d : Theory) (budget : ℕ) (mem log : List ℕ) (n : ℕ) (t : Tally) (mem' log' : List ℕ) (n' : ℕ) (t' : Tally) : Type 0 where
  pub reached : Reached d budget mem' log' n' t'
  pub grown : Grown mem log n mem' log' n'
  pub same : rest (plain_system d) (no_searches d) budget (stage_at log n t 0 0) ≡ outcome (leb n' t'.worked) (stage_at log' n' t' 0 0)

-- A search was made where everything is processed: the lines have grown by what it adds.
pub record Searched (d : Theory) (i : ℕ) (mem log : List ℕ) (n : ℕ) (mem' log' : List ℕ) (n' : ℕ) : Type 0 where
  pub logged : Logged d mem' log' n'
  pub grown : Grown mem log n mem' log' n'
  pub lines : take n' log' ≡ take n log ++ found (plain_system d) (unfounded_searches d) i (take n log)
  pub held : (x : ℕ) → held_of mem' x ≡ held_of mem x

-- What a search asks: everything is processed, and what it costs can be added.
pub record SearchAsks (mem log : List ℕ) (n : ℕ) (t : Tally) (i start : ℕ) : Type 0 where
  pub search : i < 2
  pub held : (x : ℕ) → held_of mem x ≡ member x (take n log)
  pub small : t.spent + start < 4294967296

-- A search was made for what the start costs, if a test said so; if not, nothing has changed.
pub record SearchedIf (d : Theory) (b : Bool) (i start : ℕ) (mem log : List ℕ) (n : ℕ) (t : Tally) (mem' log' : List ℕ) (n' : ℕ) (t' : Tally) : Type 0 where
  pub made : T b → Searched d i mem log n mem' log' n' × (t' ≡ record { worked = t.worked; spent = t.spent + start })
  pub none : (T b → ⊥) → (mem' ≡ mem) × (log' ≡ log) × (n' ≡ n) × (t' ≡ t)

-- "lines, worked, spent" of where a run stands
abbrev pub counts_at : ℕ → Tally → Counts
counts_at n t = record { lines = n; worked = t.worked; spent = t.spent }

-- The start of a run of an accepted table is paid.
pub record Paid (t : Table) (budget start : ℕ) : Type 0 where
  pub size : start ≡ size (theory_said t)
  pub within : start ≤ budget

-- The run is at its end.
pub record Worked (o : Outcome) (mem log mem' log' : List ℕ) (a : Answer) : Type 0 where
  pub answer : a ≡ answer_of o
  pub written : log' ≡ log_of o ++ drop (lines o) log
  pub kept : Kept mem mem'
