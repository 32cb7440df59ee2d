-- A table that is judged (src/accepted.rt): what is handed over of one that is accepted.
use Rattle.std.specs.Prelude.{◌≡◌, ℕ, List, Result, Ok, Err}
use Rattle.logic.specs.Theory as theory
use Rattle.table.specs.declared.edition.Edition.{Edition}
use Rattle.table.specs.declared.judge.Refusal.{Refusal}
use Rattle.table.specs.declared.accepted.Table.{Table}
use Rattle.table.specs.Editions.{layout_of}
use Rattle.table.specs.Format.{theory_in}
use Rattle.table.specs.Refusals.{judgement_of}

-- the layout of the file, with the sizes in its judgement; or its refusal
abbrev pub Opened : Edition → List ℕ → Result Table Refusal → Type 0
Opened e b (Ok t) = (judgement_of e b ≡ Ok t.sizes) × (t.layout.now ≡ layout_of e b)
Opened e b (Err why) = judgement_of e b ≡ Err why

-- what it says
abbrev pub theory_said : Table → theory.Theory
theory_said t = theory_in t.layout.now t.sizes
