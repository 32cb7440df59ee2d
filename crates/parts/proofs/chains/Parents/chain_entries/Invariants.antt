-- `parts::chains::Parents::chain_entries` meets its contract. The loop's invariant: the entries passed are taken in. Assumes nothing.
use Rattle.parts.specs.Chains.{ChainedBy}
use Rattle.parts.proofs.chains.Parents.chain_entries.Given as goal

abbrev pub invariant-loop-i : goal.invariant-loop-i
invariant-loop-i l = ChainedBy l.table.layout.now l.table.sizes l.i l.self.of
