-- `parts::chains::Parents::chain` meets its contract. Assumes nothing.
use Rattle.parts.proofs.Roots.{chain_right, chain_left}
use Rattle.parts.proofs.chains.Parents.chain.Goals as goal

pub returns-then-x-y : goal.returns-then-x-y
returns-then-x-y c = chain_right _ _ _ _ _ _ _ c.root_of-x.ensures c.root_of-y.ensures c.from.result c.from.ensures c.if-x-y.true

pub returns-else-x-y : goal.returns-else-x-y
returns-else-x-y c = chain_left _ _ _ _ _ _ _ c.root_of-x.ensures c.root_of-y.ensures c.from-else-x-y.result c.from-else-x-y.ensures c.if-x-y.false
