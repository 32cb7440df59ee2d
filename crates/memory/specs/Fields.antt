-- The fields of the memory by their names (src/fields.rt). A rival of a rule is a supporter of its head's complement that is over it.
use Rattle.std.specs.Prelude.{ℕ, ◌+◌, ◌-◌, Bool, leb, ltb}
use Rattle.logic.specs.Tests.{◌and◌, ◌or◌}

-- Of a literal, one for each tag: 0 not written, 1 written, 2 processed.
abbrev pub mark : ℕ → ℕ
mark t = t

-- Of a rule, one for each tag: how many of its antecedents have it, counting a virtual antecedent that always holds: it has +Δ and
-- +∂ from the start, so that a rule without antecedents is treated like any other.
abbrev pub has : ℕ → ℕ
has t = 4 + t

-- Of a rule, written once: its antecedents and the virtual one, its head, its kind, the pairs naming it, the pairs in which a rival is
-- over it, and the first pair in which it is the stronger.
abbrev pub size_f : ℕ
size_f = 8

abbrev pub head_f : ℕ
head_f = 9

abbrev pub kind_f : ℕ
kind_f = 10

abbrev pub naming_f : ℕ
naming_f = 11

abbrev pub rivals_f : ℕ
rivals_f = 12

abbrev pub first_f : ℕ
first_f = 13

-- Of a rule: how many of its rivals fire, and how many are out.
abbrev pub beaten_f : ℕ
beaten_f = 14

abbrev pub lost_f : ℕ
lost_f = 15

-- Of a literal, written once: where its uses end (they begin where those of the literal before end), the number of strict rules,
-- of supporters and of rules for it, and whether it is a fact.
abbrev pub uses_f : ℕ
uses_f = 16

abbrev pub strict_f : ℕ
strict_f = 17

abbrev pub support_f : ℕ
support_f = 18

abbrev pub headed_f : ℕ
headed_f = 19

abbrev pub fact_f : ℕ
fact_f = 20

-- Of a literal: how many strict rules for it fire, and are out, by the definite tags; how many supporters fire, and are out; how
-- many rules for it are out or have a rival that fires; and how many fire with every rival out.
abbrev pub proved_f : ℕ
proved_f = 21

abbrev pub refuted_f : ℕ
refuted_f = 22

abbrev pub firing_f : ℕ
firing_f = 23

abbrev pub out_f : ℕ
out_f = 24

abbrev pub countered_f : ℕ
countered_f = 25

abbrev pub unopposed_f : ℕ
unopposed_f = 26

-- the end of the fields of rivals, and of those of a literal's rules
abbrev pub rivals_end : ℕ
rivals_end = 16

abbrev pub counts_end : ℕ
counts_end = 27

-- Fields by a tag. Of a rule, the rivals that the tag decides: beaten for +∂, lost for −∂.
abbrev pub rivals_base : ℕ
rivals_base = 12

abbrev pub rivals_by : ℕ → ℕ
rivals_by t = rivals_base + t

-- Of a literal, the rules that the tag decides: proved, refuted, firing, out.
abbrev pub rules_by : ℕ → ℕ
rules_by t = proved_f + t

-- Of a literal, the rules that a rival decided by the tag may add to: countered for +∂, unopposed for −∂.
abbrev pub by_rival_base : ℕ
by_rival_base = 23

abbrev pub by_rival : ℕ → ℕ
by_rival t = by_rival_base + t

-- Of a literal, the rules that a rule decided by the tag may itself add to: unopposed for +∂, countered for −∂.
abbrev pub by_itself_base : ℕ
by_itself_base = 28

abbrev pub by_itself : ℕ → ℕ
by_itself t = by_itself_base - t

-- the fields of the index, which are written once; all others are marks and counts
unfoldable pub in_index : ℕ → Bool
in_index f = (leb size_f f and ltb f beaten_f) or (leb uses_f f and ltb f proved_f)
