-- The two arrays of a table, as they are written: word after word, from a place of the output on.
use Rattle.std.specs.Prelude.{ℕ, List, map}
use Rattle.std.proofs.lemmas.List.Edits.{sets}
use Rattle.logic.specs.Tests.{upto}
use Rattle.files.specs.Contents.{Row, bytes_of}
use Rattle.writing.specs.declared.columns.Side.{Side}
use Rattle.writing.specs.declared.columns.Side.TheVariants.{Left, Right}

-- the word of a row in either array
unfoldable pub word_in : Side → Row → ℕ
word_in Left w = w.left
word_in Right w = w.right

-- the output with words at a place
abbrev pub with_words : List ℕ → ℕ → List ℕ → List ℕ
with_words out at ws = sets out at (bytes_of ws)

-- the words of n rows on one side
abbrev pub column : Side → (ℕ → Row) → ℕ → List ℕ
column side row n = map (λ i. word_in side (row i)) (upto n)
