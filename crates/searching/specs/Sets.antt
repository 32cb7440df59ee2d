-- Document 02, S-9: the set of a search, over what is processed.
use Rattle.std.specs.Prelude.{ℕ, Bool, List}
use Rattle.logic.specs.Theory.{Theory}
use Rattle.logic.specs.Reading.{tagged_by, set_of}
use Rattle.logic.specs.WellFounded.{well_founded}
use Rattle.memory.specs.Layout.{tag_count}

abbrev pub set_in : Theory → (ℕ → Bool) → ℕ → List ℕ
set_in d h i = set_of well_founded d (tagged_by tag_count h) i
