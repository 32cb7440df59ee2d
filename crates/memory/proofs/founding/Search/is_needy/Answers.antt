-- `Search::is_needy` meets its contract. Assumes nothing.
use native.Mathlib.Omega.{arith}
use Rattle.memory.proofs.founding.Asking.{small_rule, never_in, needy_first, needy_second}
use Rattle.memory.proofs.founding.Search.is_needy.Goals as goal

pub is_strict_by-requires : goal.is_strict_by-requires
is_strict_by-requires c = (small_rule _ _ _ c.args.self.table.legal c.requires, c.args.self.ready.invariant.room)

pub load-requires : goal.load-requires
load-requires c = (omega arith, small_rule _ _ _ c.args.self.table.legal c.requires, c.args.self.ready.invariant.room)

pub can_support_by-requires : goal.can_support_by-requires
can_support_by-requires c = (small_rule _ _ _ c.args.self.table.legal c.requires, c.args.self.ready.invariant.room)

pub is_live-requires : goal.is_live-requires
is_live-requires c = (small_rule _ _ _ c.args.self.table.legal c.requires, c.args.self.ready.invariant.room, never_in _ _ _ c.args.self.ready _ c.requires)

pub returns-then-self-eq0 : goal.returns-then-self-eq0
returns-then-self-eq0 c =
    needy_first _ _ _ c.args.self.table.legal c.args.self.ready c.requires c.if-self-eq0.true c.is_strict_by.ensures c.load.ensures c.both.ensures

pub returns-else-self-eq0 : goal.returns-else-self-eq0
returns-else-self-eq0 c =
    needy_second _ _ _ c.args.self.table.legal c.args.self.ready c.requires c.if-self-eq0.false c.can_support_by.ensures c.is_live.ensures c.both-else-self-eq0.ensures
