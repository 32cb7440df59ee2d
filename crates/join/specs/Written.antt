-- What the functions that write pairs leave in the output, and the place after it that they answer with.
use Rattle.std.specs.Prelude.{ℕ, ◌+◌, ◌*◌, ◌≡◌, Bool, true, false, List, ◌++◌, map, length, Result, Ok, Err}
use Rattle.logic.specs.Tests.{upto, pick}
use Rattle.table.specs.declared.format.Sizes.{Sizes}
use Rattle.table.specs.declared.format.Pair.{Pair}
use Rattle.table.specs.declared.judge.Refusal.{Refusal}
use Rattle.table.specs.declared.judge.Refusal.TheVariants.{TooLarge}
use Rattle.table.specs.Format.{rule_at, entry_at, theory_in}
use Rattle.table.specs.Refusals.{oversize, Legal}
use Rattle.files.specs.Contents.{Content, content_in, sizes_for, later_entry, rule_row, entry_row, pair_row}
use Rattle.writing.specs.declared.columns.Side.{Side}
use Rattle.writing.specs.Columns.{word_in, with_words, column}
use Rattle.joining.specs.Joining.{over, pairs_below, joined}
use Rattle.join.specs.declared.facts.Both.{Both}
use Rattle.join.specs.declared.totals.Totals.{Totals}
use Rattle.join.specs.Heads.{Chain, ByHeads}

-- what both tables say, joined
abbrev pub joined_said : Both → Content
joined_said t = joined (content_in t.house.layout.now t.house.sizes) (content_in t.tour.layout.now t.tour.sizes)

-- words at a place, and the place after them
abbrev pub Words : List ℕ → ℕ → List ℕ → List ℕ → ℕ → Type 0
Words out at words out' after = (after ≡ at + 2 * length words) × (out' ≡ with_words out at words)

-- the words of pairs on one side
abbrev pub pair_words : Side → List Pair → List ℕ
pair_words side l = map (λ p. word_in side (pair_row p)) l

-- the rules and then the entries of both tables, the tour's rules numbered after the house's
abbrev pub RulesOfBoth : Side → List ℕ → Sizes → List ℕ → Sizes → List ℕ → ℕ → List ℕ → ℕ → Type 0
RulesOfBoth side house s tour t out at out' after =
    Words out at
    ((column side (λ r. rule_row (rule_at house s r)) s.rules ++ column side (λ r. rule_row (rule_at tour t r)) t.rules)
    ++ (column side (λ i. entry_row (later_entry 0 (entry_at house s i))) s.entries ++ column side (λ i. entry_row (later_entry s.rules (entry_at tour t i))) t.entries))
    out' after

-- a rule over those of a chain, which are numbered from `later` on
abbrev pub AddedPairs : Side → ℕ → ℕ → ℕ → ℕ → List ℕ → List ℕ → ℕ → List ℕ → ℕ → Type 0
AddedPairs side rule later n start next out at out' after =
    (p : ℕ → Bool) → Chain p n start next → Words out at (map (λ j. word_in side (record { left = rule; right = later + j })) (pick (upto n) p)) out' after

-- the pairs of the joined table whose stronger rule is the house's and below x, by whatever tour's rules the arrays have
abbrev pub HousePairs : Side → ℕ → List ℕ → Sizes → ℕ → List ℕ → List ℕ → List ℕ → ℕ → List ℕ → ℕ → Type 0
HousePairs side x house s n first next out at out' after =
    (tour : List ℕ) (t : Sizes) → Legal tour t → t.rules ≡ n → ByHeads (theory_in tour t) first next
    → Words out at (pair_words side (pairs_below x (s.rules + n) (over (theory_in house s) (theory_in tour t)))) out' after

-- the counts of a content's facts, rules, entries and pairs
abbrev pub Counts : Content → Totals → Type 0
Counts c n = (n.facts ≡ length c.facts) × (n.rules ≡ length c.rules) × (n.entries ≡ length c.entries) × (n.pairs ≡ length c.pairs)

-- the sizes of a content, if none is above its limit; otherwise 2
abbrev pub JoinedSizes : Content → Result Sizes Refusal → Type 0
JoinedSizes c (Ok s) = (s ≡ sizes_for c) × (oversize s ≡ false)
JoinedSizes c (Err why) = (why ≡ TooLarge) × (oversize (sizes_for c) ≡ true)
