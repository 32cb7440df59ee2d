-- `table::accepted::Table::read` meets its contract. Assumes nothing.
use Rattle.table.proofs.Legal.{legal_read}
use Rattle.table.proofs.accepted.Table.read.Goals as goal

pub invariant_of-result : goal.invariant_of-result
invariant_of-result c =
    record { legal = legal_read _ _ _ c.judge.ensures.judgement (c.in_ok-sizes.was) c.layout-layout.ensures }
