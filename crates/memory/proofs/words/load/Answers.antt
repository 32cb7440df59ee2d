-- `memory::words::load` meets its contract. Assumes nothing.
use mathlib.Core.Path.{sym}
use Rattle.memory.proofs.Views.{view_in}
use Rattle.memory.proofs.words.load.Goals as goal

pub returns : goal.returns
returns c = sym (view_in _ _ _ c.requires.0 c.requires.1)
