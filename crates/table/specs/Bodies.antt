-- Document 01, The table: the antecedents of one rule, "handed back as the part of the table's own right array (an empty part for a
-- rule without entries, a rule number not below N, or a table refused by 1 to 7)".
use Rattle.std.specs.Prelude.{ℕ, ◌+◌, ◌-◌, ◌*◌, ◌/◌, ◌≡◌, cond, List, [], map, ltb, length, take, drop, Ok, Err}
use Rattle.logic.specs.Tests.{count_below, upto}
use Rattle.table.specs.declared.format.Sizes.{Sizes}
use Rattle.table.specs.declared.edition.Edition.{Edition}
use Rattle.table.specs.Editions.{layout_of}
use Rattle.table.specs.Format.{word, span_of, entries_from, entry_at, body_in}
use Rattle.table.specs.Refusals.{Judgement, judgement_of}

-- how many entries are of rules below r: where the entries of rule r begin
unfoldable pub entries_below : List ℕ → Sizes → ℕ → ℕ
entries_below b s r = count_below s.entries (λ i. ltb (entry_at b s i).rule r)

-- the bytes of the right array from entry i on
abbrev pub entry_byte : Sizes → ℕ → ℕ
entry_byte s i = 10 + 2 * (span_of s + entries_from s) + 2 * i

unfoldable pub body_part : List ℕ → Sizes → ℕ → List ℕ
body_part b s r =
    cond (ltb r s.rules)
    (take (entry_byte s (entries_below b s (r + 1)) - entry_byte s (entries_below b s r)) (drop (entry_byte s (entries_below b s r)) b)) []

unfoldable pub body_bytes : List ℕ → Judgement → ℕ → List ℕ
body_bytes b (Ok s) r = body_part b s r
body_bytes b (Err n) r = []

-- the literals that the bytes are: those of the rule's body in the table's theory
unfoldable pub body_literals : List ℕ → Judgement → ℕ → List ℕ
body_literals b (Ok s) r = body_in b s r
body_literals b (Err n) r = []

abbrev pub words_of : List ℕ → List ℕ
words_of l = map (word l) (upto (length l / 2))

-- In edition two they are bytes of the file all the same: its layout is the bytes after the first.
pub record Body (e : Edition) (b : List ℕ) (r : ℕ) (l : List ℕ) : Type 0 where
  pub bytes : l ≡ body_bytes (layout_of e b) (judgement_of e b) r
  pub literals : words_of l ≡ body_literals (layout_of e b) (judgement_of e b) r
