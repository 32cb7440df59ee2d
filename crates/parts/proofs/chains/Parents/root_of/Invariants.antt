-- `parts::chains::Parents::root_of` meets its contract. The loop's invariant: the atom at hand has the root that is looked for. Assumes nothing.
use Rattle.parts.proofs.Roots.{Climbing}
use Rattle.parts.proofs.chains.Parents.root_of.Given as goal

abbrev pub invariant-loop-self : goal.invariant-loop-self
invariant-loop-self l = Climbing l.initial.self.of l.atom l.self.of l.a

abbrev pub decreases-loop-self : goal.decreases-loop-self
decreases-loop-self l = l.a
