-- How the words of the memory are laid out: fields, each with a word for every literal or for every rule, then the uses of literals.
-- Those that the code needs stand in src/layout.rt too.
use Rattle.std.specs.Prelude.{ℕ}

-- the tags of a literal; a conclusion is the literal times their number, and the tag
abbrev pub tag_count : ℕ
tag_count = 4

abbrev pub field_count : ℕ
field_count = 28

-- the words of a field
abbrev pub field_size : ℕ
field_size = 1024

-- where the uses begin, and the words that they have
abbrev pub uses_base : ℕ
uses_base = 28672

abbrev pub uses_size : ℕ
uses_size = 4096

-- the words of the memory
abbrev pub memory_size : ℕ
memory_size = 32768
