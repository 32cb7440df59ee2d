-- `memory::uses::uses_of` meets its contract. Assumes nothing.
use native.Mathlib.Omega.{arith}
use Rattle.table.specs.Format.{theory_in}
use Rattle.memory.proofs.inference.Following.{small_literal}
use Rattle.memory.proofs.uses.Users.{uses_read}
use Rattle.memory.proofs.uses.uses_of.Goals as goal

pub first_use-first-requires : goal.first_use-first-requires
first_use-first-requires c = (small_literal _ _ _ c.args.table.legal c.requires.1, c.requires.0.invariant.room)

pub load-end-requires : goal.load-end-requires
load-end-requires c = (omega arith, small_literal _ _ _ c.args.table.legal c.requires.1, c.requires.0.invariant.room)

pub returns : goal.returns
unfolding theory_in
returns c = uses_read _ _ _ c.requires.0.invariant.index c.requires.1 c.first_use-first.ensures c.load-end.ensures
