-- Document 01, The table, and document 02, S-5: what stands where in the layout of a file (Editions.antt), and what a file says.
use Rattle.std.specs.Prelude.{ℕ, zero, suc, ◌+◌, ◌*◌, ◌/◌, ◌%◌, cond, List, map, ltb, eqb, length, get_or}
use Rattle.logic.specs.Tests.{upto, pick}
use Rattle.logic.specs.Theory as theory
use Rattle.table.specs.declared.format.Sizes.{Sizes}
use Rattle.table.specs.declared.format.Kind.{Kind}
use Rattle.table.specs.declared.format.Kind.TheVariants.{Strict, Defeasible, Defeater}
use Rattle.table.specs.declared.format.Origin.{Origin}
use Rattle.table.specs.declared.format.Origin.TheVariants.{None, House, Tour, Console}
use Rattle.table.specs.declared.format.Literal.{Literal}
use Rattle.table.specs.declared.format.Rule.{Rule}
use Rattle.table.specs.declared.format.Pair.{Pair}
use Rattle.table.specs.declared.format.Entry.{Entry}
use Rattle.table.specs.declared.edition.Edition.{Edition}
use Rattle.table.specs.Editions.{layout_of}

-- "16-bit little-endian words": the i-th of a layout, 0 past its end
unfoldable pub word : List ℕ → ℕ → ℕ
word b i = cond (ltb i (length b / 2)) (get_or b (2 * i) 0 + 256 * get_or b (2 * i + 1) 0) 0

-- "five 16-bit little-endian words A, F, N, B, P (atoms, facts, rules, antecedent entries, pairs)"
abbrev pub sizes_of : List ℕ → Sizes
sizes_of b = record { atoms = word b 0; facts = word b 1; rules = word b 2; entries = word b 3; pairs = word b 4 }

-- "Let T = F+N+B+P."
abbrev pub span_of : Sizes → ℕ
span_of s = s.facts + s.rules + s.entries + s.pairs

-- "Then come two parallel arrays, left and right, each of T such words."
abbrev pub left : List ℕ → ℕ → ℕ
left b i = word b (5 + i)

abbrev pub right : List ℕ → Sizes → ℕ → ℕ
right b s i = word b (5 + span_of s + i)

-- "Entries, in this order": facts, rules, entries, pairs. Where each section begins.
abbrev pub facts_from : Sizes → ℕ
facts_from s = 0

abbrev pub rules_from : Sizes → ℕ
rules_from s = s.facts

abbrev pub entries_from : Sizes → ℕ
entries_from s = s.facts + s.rules

abbrev pub pairs_from : Sizes → ℕ
pairs_from s = s.facts + s.rules + s.entries

-- The i-th of a section's n words in either array, and 0 from the n-th on.
unfoldable pub left_in : List ℕ → ℕ → ℕ → ℕ → ℕ
left_in b from n i = cond (ltb i n) (left b (from + i)) 0

unfoldable pub right_in : List ℕ → Sizes → ℕ → ℕ → ℕ → ℕ
right_in b s from n i = cond (ltb i n) (right b s (from + i)) 0

-- "F facts: left 0, right a literal."
abbrev pub fact_at : List ℕ → Sizes → ℕ → Literal
fact_at b s i = record { 0 = right_in b s (facts_from s) s.facts i }

-- "N rules, numbered from 0: left the kind, right the head." In edition two "a rule's left word is kind + 4 × origin", and in the old
-- layout, where it is at most 2, its remainder by 4 is the kind too.
unfoldable pub kind_of : ℕ → Kind
kind_of zero = Strict
kind_of (suc zero) = Defeasible
kind_of (suc (suc n)) = Defeater

-- "A rule has a kind (0 strict, 1 defeasible, 2 defeater)"
abbrev pub kind_number : Kind → ℕ
kind_number Strict = 0
kind_number Defeasible = 1
kind_number Defeater = 2

-- "0 none, 1 house, 2 tour, 3 console"
abbrev pub origin_number : Origin → ℕ
origin_number None = 0
origin_number House = 1
origin_number Tour = 2
origin_number Console = 3

unfoldable pub origin_of : ℕ → Origin
origin_of zero = None
origin_of (suc zero) = House
origin_of (suc (suc zero)) = Tour
origin_of (suc (suc (suc n))) = Console

abbrev pub rule_at : List ℕ → Sizes → ℕ → Rule
rule_at b s r =
    record {
      kind = kind_of (left_in b (rules_from s) s.rules r % 4);
      origin = origin_of (left_in b (rules_from s) s.rules r / 4);
      head = record { 0 = right_in b s (rules_from s) s.rules r };
    }

-- "B entries: left a rule, right an antecedent."
abbrev pub entry_at : List ℕ → Sizes → ℕ → Entry
entry_at b s i =
    record {
      rule = left_in b (entries_from s) s.entries i;
      literal = record { 0 = right_in b s (entries_from s) s.entries i };
    }

-- "P pairs: left the stronger rule, right the weaker."
abbrev pub pair_at : List ℕ → Sizes → ℕ → Pair
pair_at b s i =
    record {
      stronger = left_in b (pairs_from s) s.pairs i;
      weaker = right_in b s (pairs_from s) s.pairs i;
    }

-- What a table says. The antecedents of a rule are those of its entries, in their order.
unfoldable pub kind_meant : Kind → theory.Kind
kind_meant Strict = theory.strict
kind_meant Defeasible = theory.defeasible
kind_meant Defeater = theory.defeater

unfoldable pub body_in : List ℕ → Sizes → ℕ → List ℕ
body_in b s r = map (λ i. (entry_at b s i).literal.0) (pick (upto s.entries) (λ i. eqb (entry_at b s i).rule r))

unfoldable pub theory_in : List ℕ → Sizes → theory.Theory
theory_in b s =
    record {
      atoms = s.atoms;
      facts = s.facts;
      fact = λ i. (fact_at b s i).0;
      rules = s.rules;
      rule = λ r. record { kind = kind_meant (rule_at b s r).kind; head = (rule_at b s r).head.0; body = body_in b s r };
      pairs = s.pairs;
      pair = λ i. record { stronger = (pair_at b s i).stronger; weaker = (pair_at b s i).weaker };
    }

abbrev pub theory_of : Edition → List ℕ → theory.Theory
theory_of e b = theory_in (layout_of e b) (sizes_of (layout_of e b))

-- What it says besides: the origins of its rules.
abbrev pub origin_at : Edition → List ℕ → ℕ → Origin
origin_at e b r = (rule_at (layout_of e b) (sizes_of (layout_of e b)) r).origin
