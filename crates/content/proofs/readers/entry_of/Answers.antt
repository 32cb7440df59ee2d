-- `content::readers::entry_of` meets its contract. Assumes nothing.
use mathlib.Core.Path.{◌∙◌, ap}
use Rattle.table.specs.Format.{entry_at}
use Rattle.content.proofs.readers.entry_of.Goals as goal

pub returns : goal.returns
returns c = let args = c.args in c.read_entry.ensures ∙ ap (λ b. entry_at b args.s args.i) c.layout.ensures
