-- `parts::chains::Parents::flatten` meets its contract. The loop's invariant: the atoms passed have their roots for their parents. Assumes nothing.
use Rattle.parts.proofs.Roots.{FlatTo}
use Rattle.parts.proofs.chains.Parents.flatten.Given as goal

abbrev pub invariant-loop-a : goal.invariant-loop-a
invariant-loop-a l = FlatTo l.initial.self.of l.self.of l.a
