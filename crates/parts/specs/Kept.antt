-- The rows of a part's own table, section by section.
use Rattle.std.specs.Prelude.{ℕ, ◌<◌, ◌≡◌, Bool, List, map, length, get_or}
use Rattle.logic.specs.Tests.{upto, pick}
use Rattle.table.specs.declared.format.Sizes.{Sizes}
use Rattle.table.specs.declared.accepted.Table.{Table}
use Rattle.files.specs.Contents.{Content, content_in, fact_of, rule_of, entry_of, pair_of, sizes_for, Row, fact_row, rule_row}
use Rattle.parting.specs.Parting.{rule_in, number_in, fact_kept, entry_kept, pair_kept}
use Rattle.parts.specs.declared.kept.Section.{Section}
use Rattle.parts.specs.declared.kept.Section.TheVariants.{Facts, Rules, Entries, Pairs}

-- what a table says, as it is listed
abbrev pub content_said : Table → Content
content_said t = content_in t.layout.now t.sizes

-- how many rows a section has
unfoldable pub size_of : Sizes → Section → ℕ
size_of s Facts = s.facts
size_of s Rules = s.rules
size_of s Entries = s.entries
size_of s Pairs = s.pairs

-- whether the i-th row of a section is the part's
unfoldable pub kept_in : Content → ℕ → Section → ℕ → Bool
kept_in c a Facts i = fact_kept c a i
kept_in c a Rules i = rule_in c a i
kept_in c a Entries i = entry_kept c a i
kept_in c a Pairs i = pair_kept c a i

-- the i-th row of a section, where the rules are numbered anew
unfoldable pub row_by : Content → (ℕ → ℕ) → Section → ℕ → Row
row_by c number Facts i = fact_row (fact_of c i)
row_by c number Rules i = rule_row (rule_of c i)
row_by c number Entries i = record { left = number (entry_of c i).rule; right = (entry_of c i).literal.0 }
row_by c number Pairs i = record { left = number (pair_of c i).stronger; right = number (pair_of c i).weaker }

-- the part's rows of a section (proofs/Rows.antt: `part_rows`)
abbrev pub rows_in : Content → ℕ → Section → List Row
rows_in c a x = map (row_by c (number_in c a) x) (pick (upto (size_of (sizes_for c) x)) (kept_in c a x))

-- the new number of each rule
pub record Numbered (c : Content) (a : ℕ) (numbers : List ℕ) : Type 0 where
  pub size : length numbers ≡ 1024
  pub each : (r : ℕ) → r < length c.rules → get_or numbers r 0 ≡ number_in c a r
