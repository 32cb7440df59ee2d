-- `memory::marks::is_written` meets its contract. Assumes nothing.
use Rattle.memory.proofs.visit.Marks.{written_at}
use Rattle.memory.proofs.marks.is_written.Goals as goal

pub returns : goal.returns
returns c = written_at _ _ _ c.requires.1 c.load.ensures
