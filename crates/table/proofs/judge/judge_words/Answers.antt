-- `table::judge::judge_words` meets its contract: what is known past each test that was not taken. Assumes nothing.
use mathlib.Core.Path.{refl}
use Rattle.table.proofs.Judging.{flag, right_length, judged_4, judged_5, judged_6, judged_7, judged_0}
use Rattle.table.proofs.Legal.{facts_zero}
use Rattle.table.proofs.Pairs.{no_pairs}
use Rattle.table.proofs.judge.judge_words.Goals as goal

pub returns-then-bad_kind : goal.returns-then-bad_kind
returns-then-bad_kind c = judged_4 _ _ _ c.args.layout.small (right_length _ _ _ refl c.args.layout.whole) (flag c.bad_kind.ensures c.if-bad_kind.true)

pub returns-then-out_of_range : goal.returns-then-out_of_range
returns-then-out_of_range c =
    judged_5 _ _ _ c.args.layout.small (right_length _ _ _ refl c.args.layout.whole) (flag c.bad_kind.ensures c.if-bad_kind.false)
    (flag c.out_of_range.ensures c.if-out_of_range.true)

pub unsorted-requires : goal.unsorted-requires
unsorted-requires c = facts_zero _ _ _ (flag c.bad_kind.ensures c.if-bad_kind.false)

pub returns-then-unsorted : goal.returns-then-unsorted
returns-then-unsorted c =
    judged_6 _ _ _ c.args.layout.small (right_length _ _ _ refl c.args.layout.whole) (flag c.bad_kind.ensures c.if-bad_kind.false)
    (flag c.out_of_range.ensures c.if-out_of_range.false) (flag c.unsorted.ensures c.if-unsorted.true)

pub returns-then-layout-eq0 : goal.returns-then-layout-eq0
returns-then-layout-eq0 c =
    judged_0 _ _ _ c.args.layout.small (right_length _ _ _ refl c.args.layout.whole) (flag c.bad_kind.ensures c.if-bad_kind.false)
    (flag c.out_of_range.ensures c.if-out_of_range.false) (flag c.unsorted.ensures c.if-unsorted.false) (no_pairs _ _ c.if-layout-eq0.true)

pub has_cycle-requires : goal.has_cycle-requires
has_cycle-requires c =
    (flag c.out_of_range.ensures c.if-out_of_range.false, flag c.unsorted.ensures c.if-unsorted.false)

pub returns-then-has_cycle : goal.returns-then-has_cycle
returns-then-has_cycle c =
    judged_7 _ _ _ c.args.layout.small (right_length _ _ _ refl c.args.layout.whole) (flag c.bad_kind.ensures c.if-bad_kind.false)
    (flag c.out_of_range.ensures c.if-out_of_range.false) (flag c.unsorted.ensures c.if-unsorted.false)
    (flag c.has_cycle.ensures c.if-has_cycle.true)

pub returns : goal.returns
returns c =
    judged_0 _ _ _ c.args.layout.small (right_length _ _ _ refl c.args.layout.whole) (flag c.bad_kind.ensures c.if-bad_kind.false)
    (flag c.out_of_range.ensures c.if-out_of_range.false) (flag c.unsorted.ensures c.if-unsorted.false)
    (flag c.has_cycle.ensures c.if-has_cycle.false)
