-- `table::judge::judge` meets its contract. Assumes nothing.
use Rattle.table.proofs.Judging.{judged_unmarked, judged_short, judged_by}
use Rattle.table.proofs.judge.judge.Goals as goal

pub returns-then-is_unmarked : goal.returns-then-is_unmarked
returns-then-is_unmarked c = judged_unmarked _ _ c.is_unmarked.ensures c.if-is_unmarked.true

pub returns-then-l-lt10 : goal.returns-then-l-lt10
returns-then-l-lt10 c = judged_short _ _ c.is_unmarked.ensures c.if-is_unmarked.false _ c.layout-l.ensures c.if-l-lt10.true

pub returns : goal.returns
returns c =
    judged_by _ _ c.is_unmarked.ensures c.if-is_unmarked.false _ c.layout-l.ensures _ c.if-l-lt10.false c.judge_layout.ensures
