-- `memory::visit::add` meets its contract. Assumes nothing.
use mathlib.Core.Path.{refl}
use Rattle.memory.proofs.visit.Adding.{added_of, mark_asks, uses_asks}
use Rattle.memory.proofs.visit.add.Goals as goal

pub visit_uses-requires : goal.visit_uses-requires
visit_uses-requires c = let a = uses_asks _ _ _ _ _ _ refl refl c.args.table.legal c.requires.ready in record { ready = a.0; p_lt_field_size = (a.1.0, a.1.1, c.requires.uses_at) }

pub store-requires : goal.store-requires
store-requires c =
    mark_asks _ _ _ _ _ _ refl refl c.args.table.legal c.requires.ready _ _ _ c.from.ensures c.from-2.ensures c.visit_uses.ensures

pub returns : goal.returns
returns c =
    added_of _ _ _ _ _ _ refl refl c.args.table.legal c.requires.ready _ _ _ _ c.from.ensures c.from-2.ensures c.visit_uses.ensures c.store.ensures
