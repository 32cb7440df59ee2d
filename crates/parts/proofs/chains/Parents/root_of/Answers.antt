-- `parts::chains::Parents::root_of` meets its contract. The loop's invariant: the atom at hand has the root that is looked for. Assumes nothing.
use Rattle.parts.proofs.Roots.{climb_next}
use Rattle.parts.proofs.chains.Parents.root_of.Goals as goal

pub loop-self-preserved : goal.loop-self-preserved
loop-self-preserved c =
    climb_next _ _ _ _ c.loop-self.invariant c.from-in-loop-self.ensures c.from-in-loop-self-3.ensures c.from-in-loop-self-2.ensures
