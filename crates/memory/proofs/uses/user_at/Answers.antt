-- `memory::uses::user_at` meets its contract. Assumes nothing.
use mathlib.Core.Path.{◌∙◌}
use Rattle.table.specs.Format.{theory_in}
use Rattle.memory.proofs.uses.Users.{use_is, use_small}
use Rattle.memory.proofs.uses.user_at.Goals as goal

pub load_use-requires : goal.load_use-requires
unfolding theory_in
load_use-requires c =
    (use_small _ _ _ c.requires.0.invariant.index c.requires.1 c.requires.2 _ c.requires.3 c.requires.4, c.requires.0.invariant.room)

pub returns : goal.returns
unfolding theory_in
returns c =
    c.load_use.ensures ∙ use_is _ _ _ c.requires.0.invariant.index c.requires.1 c.requires.2 _ c.requires.3 c.requires.4
