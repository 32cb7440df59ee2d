-- `content::readers::pair_of` meets its contract. Assumes nothing.
use mathlib.Core.Path.{◌∙◌, ap}
use Rattle.table.specs.Format.{pair_at}
use Rattle.content.proofs.readers.pair_of.Goals as goal

pub returns : goal.returns
returns c = let args = c.args in c.read_pair.ensures ∙ ap (λ b. pair_at b args.s args.i) c.layout.ensures
