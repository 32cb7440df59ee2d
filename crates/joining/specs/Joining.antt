-- Document 02, S-7: "On the get-in both tables are joined over the same atoms."
use Rattle.std.specs.Prelude.{ℕ, zero, suc, ◌+◌, ◌-◌, ◌*◌, Bool, List, [], ◌++◌, map, ltb, leb, eqb, length}
use Rattle.logic.specs.Tests.{◌and◌, ◌or◌, count_below, upto, pick}
use Rattle.logic.specs.Theory.{Theory, complement, head_of, is_fact, superior}
use Rattle.table.specs.declared.format.Pair.{Pair}
use Rattle.table.specs.declared.edition.Edition.{Edition}
use Rattle.files.specs.Contents.{Content, content_of, later_entry, file_of, theory_from}

-- By what the house says and what the tour says: "the house's rules under their own numbers, the tour's numbered after them".
module _ (house tour : Theory) where
  -- "the union of the facts"
  abbrev pub in_either : ℕ → Bool
  in_either q = is_fact house q or is_fact tour q

  -- "one added pair, house rule over tour rule, for each such two with complementary heads"
  unfoldable pub added : ℕ → ℕ → Bool
  added t s = ltb t house.rules and leb house.rules s and eqb (head_of tour (s - house.rules)) (complement (head_of house t))

  -- a pair of the tour, by its later numbers
  unfoldable pub later : ℕ → ℕ → Bool
  later t s = leb house.rules t and leb house.rules s and superior tour (t - house.rules) (s - house.rules)

  -- "all .. pairs of both, and one added pair"
  unfoldable pub over : ℕ → ℕ → Bool
  over t s = superior house t s or later t s or added t s

-- the pairs of a relation in which the stronger is below m and the weaker below n: "strictly by left, then right"
unfoldable pub pairs_below : ℕ → ℕ → (ℕ → ℕ → Bool) → List Pair
pairs_below zero n over = []
pairs_below (suc m) n over = pairs_below m n over ++ map (λ s. record { stronger = m; weaker = s }) (pick (upto n) (over m))

-- how many pairs of a theory have a stronger rule below x
abbrev pub pairs_under : Theory → ℕ → ℕ
pairs_under d x = count_below d.pairs (λ i. ltb (d.pair i).stronger x)

-- "The result has the union of the facts, the house's rules .., the tour's .., all entries and pairs of both, and one added pair .. Kinds and
-- origins are kept."
abbrev pub joined : Content → Content → Content
joined house tour =
    record {
      atoms = house.atoms;
      facts = pick (upto (2 * house.atoms)) (in_either (theory_from house) (theory_from tour));
      rules = house.rules ++ tour.rules;
      entries = house.entries ++ map (later_entry (length house.rules)) tour.entries;
      pairs =
          pairs_below (length house.rules + length tour.rules) (length house.rules + length tour.rules)
          (over (theory_from house) (theory_from tour));
    }

-- its file, and that of two tables
abbrev pub joined_file : Edition → List ℕ → List ℕ → List ℕ
joined_file e house tour = file_of e (joined (content_of e house) (content_of e tour))
