-- `memory::marks::write` meets its contract. Assumes nothing.
use native.Mathlib.Omega.{arith}
use Rattle.memory.proofs.visit.Marks.{wrote_at}
use Rattle.memory.proofs.marks.write.Goals as goal

pub store-requires : goal.store-requires
store-requires c =
    (omega arith, omega (arith, c.requires.1, c.requires.2), c.requires.0.invariant.room)

pub returns : goal.returns
returns c =
    wrote_at _ _ _ (omega (arith, c.requires.1, c.requires.2)) c.requires.0 c.requires.3 c.from.ensures c.from-2.ensures
    c.store.ensures
