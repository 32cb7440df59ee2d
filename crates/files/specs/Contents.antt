-- Document 01, The table, and document 02, S-5: a content is what a table says, as it is listed; the file of a content in each edition.
use Rattle.std.specs.Prelude.{ℕ, ◌+◌, ◌*◌, ◌/◌, ◌%◌, List, [], ◌∷◌, ◌++◌, map, eqb, length, get_or}
use Rattle.logic.specs.Tests.{upto, pick}
use Rattle.logic.specs.Theory as theory
use Rattle.table.specs.declared.format.Sizes.{Sizes}
use Rattle.table.specs.declared.format.Kind.TheVariants.{Strict}
use Rattle.table.specs.declared.format.Origin.TheVariants.{None}
use Rattle.table.specs.declared.format.Rule.{Rule}
use Rattle.table.specs.declared.format.Entry.{Entry}
use Rattle.table.specs.declared.format.Pair.{Pair}
use Rattle.table.specs.declared.edition.Edition.{Edition}
use Rattle.table.specs.declared.edition.Edition.TheVariants.{Old, Two}
use Rattle.table.specs.Editions.{layout_of}
use Rattle.table.specs.Format.{sizes_of, kind_number, origin_number, kind_meant, fact_at, rule_at, entry_at, pair_at}

-- A, facts, rules with kind, origin and head, antecedent entries, pairs
pub record Content : Type 0 where
  pub atoms : ℕ
  pub facts : List ℕ
  pub rules : List Rule
  pub entries : List Entry
  pub pairs : List Pair

-- what a layout says, by its sizes; what a file says
abbrev pub content_in : List ℕ → Sizes → Content
content_in b s =
    record {
      atoms = s.atoms;
      facts = map (λ i. (fact_at b s i).0) (upto s.facts);
      rules = map (rule_at b s) (upto s.rules);
      entries = map (entry_at b s) (upto s.entries);
      pairs = map (pair_at b s) (upto s.pairs);
    }

abbrev pub content_of : Edition → List ℕ → Content
content_of e b = content_in (layout_of e b) (sizes_of (layout_of e b))

-- the i-th of each list; past its end what a reader gives there
abbrev pub fact_of : Content → ℕ → ℕ
fact_of c i = get_or c.facts i 0

abbrev pub rule_of : Content → ℕ → Rule
rule_of c r = get_or c.rules r (record { kind = Strict; origin = None; head = record { 0 = 0 } })

abbrev pub entry_of : Content → ℕ → Entry
entry_of c i = get_or c.entries i (record { rule = 0; literal = record { 0 = 0 } })

abbrev pub pair_of : Content → ℕ → Pair
pair_of c i = get_or c.pairs i (record { stronger = 0; weaker = 0 })

-- entries and pairs of rules that are numbered from n on
abbrev pub later_entry : ℕ → Entry → Entry
later_entry n e = record { rule = n + e.rule; literal = e.literal }

abbrev pub later_pair : ℕ → Pair → Pair
later_pair n p = record { stronger = n + p.stronger; weaker = n + p.weaker }

-- "five 16-bit little-endian words A, F, N, B, P (atoms, facts, rules, antecedent entries, pairs)"
abbrev pub sizes_for : Content → Sizes
sizes_for c =
    record { atoms = c.atoms; facts = length c.facts; rules = length c.rules; entries = length c.entries; pairs = length c.pairs }

-- "two parallel arrays, left and right": the words of both at one place
pub record Row : Type 0 where
  pub left : ℕ
  pub right : ℕ

-- "F facts: left 0, right a literal."
abbrev pub fact_row : ℕ → Row
fact_row q = record { left = 0; right = q }

-- "N rules, numbered from 0: left the kind, right the head", and "a rule's left word is kind + 4 × origin"
abbrev pub rule_row : Rule → Row
rule_row r = record { left = kind_number r.kind + 4 * origin_number r.origin; right = r.head.0 }

-- "B entries: left a rule, right an antecedent."
abbrev pub entry_row : Entry → Row
entry_row e = record { left = e.rule; right = e.literal.0 }

-- "P pairs: left the stronger rule, right the weaker."
abbrev pub pair_row : Pair → Row
pair_row p = record { left = p.stronger; right = p.weaker }

-- "Entries, in this order": facts, rules, entries, pairs
unfoldable pub rows_of : Content → List Row
rows_of c = map fact_row c.facts ++ (map rule_row c.rules ++ (map entry_row c.entries ++ map pair_row c.pairs))

-- the words of a layout: the five sizes, the left array, the right one
unfoldable pub words_of : Content → List ℕ
words_of c =
    c.atoms ∷ length c.facts ∷ length c.rules ∷ length c.entries ∷ length c.pairs
    ∷ (map (λ w. w.left) (rows_of c) ++ map (λ w. w.right) (rows_of c))

-- "16-bit little-endian words"
unfoldable pub bytes_of : List ℕ → List ℕ
bytes_of [] = []
bytes_of (w ∷ ws) = w % 256 ∷ w / 256 ∷ bytes_of ws

-- "the first byte of the file is an added 2, followed by the old layout"
unfoldable pub marked : Edition → List ℕ → List ℕ
marked Old l = l
marked Two l = 2 ∷ l

-- The file of a content. That of what an accepted file says is the file itself (proofs/Only.antt: `only_file`).
abbrev pub file_of : Edition → Content → List ℕ
file_of e c = marked e (bytes_of (words_of c))

-- The theory of a content. That of what a file says is the theory of the file (proofs/Saying.antt: `theory_says`).
unfoldable pub theory_from : Content → theory.Theory
theory_from c =
    record {
      atoms = c.atoms;
      facts = length c.facts;
      fact = fact_of c;
      rules = length c.rules;
      rule = λ r. record {
        kind = kind_meant (rule_of c r).kind;
        head = (rule_of c r).head.0;
        body = map (λ i. (entry_of c i).literal.0) (pick (upto (length c.entries)) (λ i. eqb (entry_of c i).rule r));
      };
      pairs = length c.pairs;
      pair = λ i. record { stronger = (pair_of c i).stronger; weaker = (pair_of c i).weaker };
    }
