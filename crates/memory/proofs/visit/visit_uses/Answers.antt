-- `memory::visit::visit_uses` meets its contract. The loop's invariant is `Spreading` of proofs/visit/Adding.antt: the uses before the k-th are visited. Assumes nothing.
use Rattle.memory.proofs.visit.Accepted.{asks_wide, visit_wide}
use Rattle.memory.proofs.visit.Adding.{use_asks_small, uses_end_of, uses_next_of, uses_start_of, visit_asks}
use Rattle.memory.proofs.visit.visit_uses.Goals as goal

pub loop-k-init : goal.loop-k-init
loop-k-init c = uses_start_of _ _ _ _ _ c.args.table.legal c.requires.ready c.requires.p_lt_field_size.2

pub load_use-r-requires : goal.load_use-r-requires
load_use-r-requires c =
    use_asks_small _ _ _ _ _ c.args.table.legal c.requires.ready c.requires.p_lt_field_size.2 _ _ c.loop-k.invariant c.loop-k-test.true

pub visit-requires : goal.visit-requires
visit-requires c =
    asks_wide _ _ _ c.from.ensures c.from-in-loop-k.ensures
    (visit_asks _ _ _ _ _ c.args.table.legal c.requires.ready c.requires.p_lt_field_size.2 _ _ c.loop-k.invariant c.loop-k-test.true _ c.load_use-r.ensures)

pub loop-k-preserved : goal.loop-k-preserved
loop-k-preserved c =
    uses_next_of _ _ _ _ _ c.args.table.legal c.requires.ready c.requires.p_lt_field_size.2 _ _ c.loop-k.invariant c.loop-k-test.true _ c.load_use-r.ensures _
    (visit_wide _ _ _ c.from.ensures c.from-in-loop-k.ensures _ c.visit.ensures)

pub returns : goal.returns
returns c = uses_end_of _ _ _ _ _ c.args.table.legal c.requires.ready c.requires.p_lt_field_size.2 _ _ c.loop-k.invariant c.loop-k-test.false
