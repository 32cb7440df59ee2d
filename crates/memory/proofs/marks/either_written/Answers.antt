-- `memory::marks::either_written` meets its contract. Assumes nothing.
use Rattle.memory.proofs.visit.Marks.{either_written_at}
use Rattle.memory.proofs.marks.either_written.Goals as goal

pub returns : goal.returns
returns c = either_written_at _ _ _ c.requires.1 c.load-first.ensures c.load.ensures c.either.ensures
