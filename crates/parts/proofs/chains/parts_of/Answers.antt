-- `parts::chains::parts_of` meets its contract. Assumes nothing.
use Rattle.parts.proofs.Smallest.{words_smallest}
use Rattle.parts.proofs.chains.parts_of.Goals as goal

pub returns : goal.returns
returns c = words_smallest _ _ c.args.table.legal c.chain_entries.ensures c.flatten.ensures
