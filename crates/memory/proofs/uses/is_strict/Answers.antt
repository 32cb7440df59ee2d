-- `memory::uses::is_strict` meets its contract. Assumes nothing.
use native.Mathlib.Omega.{arith}
use mathlib.Core.Path.{◌∙◌, ap}
use lib.Dec.{eqb}
use Rattle.table.specs.Format.{theory_in}
use Rattle.memory.proofs.index.Kinds.{strict_number}
use Rattle.memory.proofs.uses.is_strict.Goals as goal

pub is_strict_by-requires : goal.is_strict_by-requires
is_strict_by-requires c = (omega (arith, c.requires.2), c.requires.0.invariant.room)

pub returns : goal.returns
unfolding theory_in
returns c = c.is_strict_by.ensures ∙ ap (λ w. eqb w 0) (c.requires.0.invariant.index.kinds _ c.requires.1) ∙ strict_number _
