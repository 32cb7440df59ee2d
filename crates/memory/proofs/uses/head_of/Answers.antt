-- `memory::uses::head_of` meets its contract. Assumes nothing.
use native.Mathlib.Omega.{arith}
use mathlib.Core.Path.{◌∙◌}
use Rattle.table.specs.Format.{theory_in}
use Rattle.memory.proofs.uses.head_of.Goals as goal

pub load-requires : goal.load-requires
load-requires c = (omega arith, omega (arith, c.requires.2), c.requires.0.invariant.room)

pub returns : goal.returns
unfolding theory_in
returns c = c.load.ensures ∙ c.requires.0.invariant.index.heads _ c.requires.1
