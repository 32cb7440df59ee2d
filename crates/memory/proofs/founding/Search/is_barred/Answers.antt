-- `Search::is_barred` meets its contract. Assumes nothing.
use native.Mathlib.Omega.{arith}
use Rattle.memory.proofs.inference.Following.{small_literal}
use Rattle.memory.proofs.founding.Asking.{barred_first, barred_second}
use Rattle.memory.proofs.founding.Search.is_barred.Goals as goal

pub load-requires : goal.load-requires
load-requires c = (omega arith, small_literal _ _ _ c.args.self.table.legal c.requires, c.args.self.ready.invariant.room)

pub is_processed-requires : goal.is_processed-requires
is_processed-requires c = (small_literal _ _ _ c.args.self.table.legal c.requires, omega arith, c.args.self.ready.invariant.room)

pub returns-then-self-eq0 : goal.returns-then-self-eq0
returns-then-self-eq0 c =
    barred_first _ _ _ c.args.self.table.legal c.args.self.ready c.requires c.if-self-eq0.true c.load.ensures

pub returns-else-self-eq0 : goal.returns-else-self-eq0
returns-else-self-eq0 c =
    barred_second _ _ _ c.args.self.table.legal c.args.self.ready c.requires c.if-self-eq0.false c.is_processed.ensures
