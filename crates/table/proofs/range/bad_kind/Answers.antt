-- `table::range::bad_kind` meets its contract. Assumes nothing.
use Rattle.table.specs.Refusals.{bad_fact, bad_kind}
use Rattle.table.proofs.Joined.{ored}
use Rattle.table.proofs.range.bad_kind.Goals as goal

pub returns : goal.returns
unfolding bad_kind bad_fact
returns c = ored c.either.ensures c.any_at_least-facts.ensures c.bad_rule.ensures
