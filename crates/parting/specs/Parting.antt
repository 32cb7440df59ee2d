-- Document 02, S-8: "A part's own table .. made of one part's facts, rules, entries and the pairs inside it, with A unchanged".
use Rattle.std.specs.Prelude.{ℕ, ◌≡◌, Bool, List, map, length, Ok}
use Rattle.logic.specs.Tests.{◌and◌, count_below, upto, pick}
use Rattle.logic.specs.Theory.{atom}
use Rattle.logic.specs.Laws.{SameTags}
use Rattle.logic.specs.Parts.{in_part}
use Rattle.table.specs.declared.format.Entry.{Entry}
use Rattle.table.specs.declared.format.Pair.{Pair}
use Rattle.table.specs.declared.edition.Edition.{Edition}
use Rattle.table.specs.Format.{theory_of}
use Rattle.table.specs.Refusals.{judgement_of}
use Rattle.files.specs.Contents.{Content, content_of, fact_of, rule_of, entry_of, pair_of, sizes_for, file_of, theory_from}

-- the part of atom a
module _ (c : Content) (a : ℕ) where
  -- a literal of the part; a rule of it, by its head (its antecedents are then the part's too: proofs/Corresponding.antt)
  unfoldable pub literal_in : ℕ → Bool
  literal_in q = in_part (theory_from c) a (atom q)

  unfoldable pub rule_in : ℕ → Bool
  rule_in r = literal_in (rule_of c r).head.0

  -- "its rules keep their order .. and are numbered anew from 0"
  unfoldable pub number_in : ℕ → ℕ
  number_in r = count_below r rule_in

  abbrev pub entry_in : Entry → Entry
  entry_in e = record { rule = number_in e.rule; literal = e.literal }

  abbrev pub pair_in : Pair → Pair
  pair_in p = record { stronger = number_in p.stronger; weaker = number_in p.weaker }

  -- which facts, rules, entries and pairs are the part's, by their places: of pairs "the pairs inside it"
  abbrev pub fact_kept : ℕ → Bool
  fact_kept i = literal_in (fact_of c i)

  abbrev pub entry_kept : ℕ → Bool
  entry_kept i = rule_in (entry_of c i).rule

  abbrev pub pair_kept : ℕ → Bool
  pair_kept i = rule_in (pair_of c i).stronger and rule_in (pair_of c i).weaker

  -- "with A unchanged": the atoms keep their numbers, the rules their kinds and origins
  abbrev pub part_of : Content
  part_of =
      record {
        atoms = c.atoms;
        facts = map (fact_of c) (pick (upto (length c.facts)) fact_kept);
        rules = map (rule_of c) (pick (upto (length c.rules)) rule_in);
        entries = map (λ i. entry_in (entry_of c i)) (pick (upto (length c.entries)) entry_kept);
        pairs = map (λ i. pair_in (pair_of c i)) (pick (upto (length c.pairs)) pair_kept);
      }

-- its file, in the table's edition
abbrev pub part_file : Edition → List ℕ → ℕ → List ℕ
part_file e whole a = file_of e (part_of (content_of e whole) a)

-- What is shown of it: it is accepted and says that content, and running it "gives that part's atoms the same tags as the whole, given budgets
-- that finish both", in every reading.
pub record Part (e : Edition) (whole : List ℕ) (a : ℕ) (new : List ℕ) : Type 0 where
  pub accepted : judgement_of e new ≡ Ok (sizes_for (part_of (content_of e whole) a))
  pub content : content_of e new ≡ part_of (content_of e whole) a
  pub same_tags : SameTags (theory_of e whole) (theory_of e new) (λ q. in_part (theory_of e whole) a (atom q))
