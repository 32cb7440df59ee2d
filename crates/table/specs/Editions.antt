-- Document 02, S-5: the editions of a table's file, and the layout that each has.
use Rattle.std.specs.Prelude.{ℕ, ◌<◌, Bool, true, false, List, [], ◌∷◌, eqb, get_or, drop}
use Rattle.logic.specs.Tests.{isnt}
use Rattle.table.specs.declared.edition.Edition.{Edition}
use Rattle.table.specs.declared.edition.Edition.TheVariants.{Old, Two}

-- The number of each edition.
unfoldable pub edition_number : Edition → ℕ
edition_number Old = 1
edition_number Two = 2

-- A file is a list of bytes.
abbrev pub Bytes : List ℕ → Type 0
Bytes b = (i : ℕ) → get_or b i 0 < 256

-- "the first byte of the file is an added 2, followed by the old layout"
unfoldable pub layout_of : Edition → List ℕ → List ℕ
layout_of Old b = b
layout_of Two b = drop 1 b

-- "A first byte other than 2, or no byte"
unfoldable pub unmarked : Edition → List ℕ → Bool
unmarked Old b = false
unmarked Two [] = true
unmarked Two (x ∷ b) = isnt (eqb x 2)
