-- `Search::body_size` meets its contract. Assumes nothing.
use native.Mathlib.Omega.{arith}
use mathlib.Core.Path.{◌∙◌}
use Rattle.table.specs.Format.{theory_in}
use Rattle.memory.proofs.founding.Asking.{small_rule}
use Rattle.memory.proofs.founding.Search.body_size.Goals as goal

pub load-requires : goal.load-requires
load-requires c = (omega arith, small_rule _ _ _ c.args.self.table.legal c.requires, c.args.self.ready.invariant.room)

pub returns : goal.returns
unfolding theory_in
returns c = c.load.ensures ∙ c.args.self.ready.invariant.index.sizes _ c.requires
