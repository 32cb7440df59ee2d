-- `memory::founding::is_live` meets its contract. Assumes nothing.
use mathlib.Core.Path.{◌∙◌}
use Rattle.memory.specs.Memory.{view}
use Rattle.memory.proofs.deciding.Deciding.{not_out}
use Rattle.memory.proofs.founding.is_live.Goals as goal

pub returns : goal.returns
returns c = c.ne.ensures ∙ not_out (view c.args.mem.now) _ _ c.standing.ensures c.requires.2
