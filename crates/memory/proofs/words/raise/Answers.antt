-- `memory::words::raise` meets its contract.
use Rattle.memory.proofs.index.Growth.{grew_set}
use Rattle.memory.proofs.words.raise.Goals as goal

pub returns-clause-grew : goal.returns-clause-grew
returns-clause-grew c = grew_set _ _ _ _ _ c.requires.0 c.requires.1 c.requires.2 (rw (← c.load-n.ensures) c.store.ensures)
