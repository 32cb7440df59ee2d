-- What is said of the lines of a run (src/lines.rt), by their table, their memory, their log and their number.
use Rattle.std.specs.Prelude.{ℕ, ◌≡◌, Bool, List}
use Rattle.engine.specs.declared.lines.Lines.{Lines}
use Rattle.engine.specs.declared.tally.Tally.{Tally}
use Rattle.table.specs.Tables.{theory_said}
use Rattle.engine.specs.Working.{Tried, Refuted, Reached, Lined, Searched, SearchAsks, SearchedIf}
use Rattle.engine.specs.Tallies.{Next, Stepped}

abbrev pub TriedIn : List ℕ → Lines → Lines → Type 0
TriedIn cs l m = Tried (theory_said l.table) cs l.mem.now l.log.now l.count m.mem.now m.log.now m.count

abbrev pub NextIn : ℕ → Lines → Tally → Type 0
NextIn budget l t = Next (theory_said l.table) budget l.mem.now l.log.now l.count t

abbrev pub SteppedIn : ℕ → Lines → Tally → Lines → Tally → Type 0
SteppedIn budget l t m u = Stepped (theory_said l.table) budget l.mem.now l.log.now l.count t m.mem.now m.log.now m.count u

abbrev pub ReachedIn : ℕ → Lines → Tally → Type 0
ReachedIn budget l t = Reached (theory_said l.table) budget l.mem.now l.log.now l.count t

abbrev pub LinedIn : ℕ → Lines → Tally → Lines → Tally → Type 0
LinedIn budget l t m u = Lined (theory_said l.table) budget l.mem.now l.log.now l.count t m.mem.now m.log.now m.count u

abbrev pub RefutedIn : Bool → ℕ → Lines → Lines → Type 0
RefutedIn b x l m = Refuted (theory_said l.table) b x l.mem.now l.log.now l.count m.mem.now m.log.now m.count

abbrev pub SearchedBy : ℕ → Lines → Lines → Type 0
SearchedBy i l m = Searched (theory_said l.table) i l.mem.now l.log.now l.count m.mem.now m.log.now m.count

abbrev pub SearchAsksIn : Lines → Tally → ℕ → ℕ → Type 0
SearchAsksIn l t i start = SearchAsks l.mem.now l.log.now l.count t i start

abbrev pub SearchedIfIn : Bool → ℕ → ℕ → Lines → Tally → Lines → Tally → Type 0
SearchedIfIn b i start l t m u = SearchedIf (theory_said l.table) b i start l.mem.now l.log.now l.count t m.mem.now m.log.now m.count u

-- They are a table's, in the buffers that were lent, to the end.
pub record Lent (l m : Lines) : Type 0 where
  pub table : m.table ≡ l.table
  pub mem : m.mem.ghost_name ≡ l.mem.ghost_name
  pub log : m.log.ghost_name ≡ l.log.ghost_name
