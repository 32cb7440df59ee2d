-- `memory::words::load_use` meets its contract. Assumes nothing.
use mathlib.Core.Path.{sym}
use Rattle.memory.proofs.Views.{use_in}
use Rattle.memory.proofs.words.load_use.Goals as goal

pub returns : goal.returns
returns c = sym (use_in _ _ c.requires.0)
