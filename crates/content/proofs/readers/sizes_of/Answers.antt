-- `content::readers::sizes_of` meets its contract. Assumes nothing.
use mathlib.Core.Path.{◌∙◌, ap}
use Rattle.table.specs.Format.{sizes_of}
use Rattle.content.proofs.readers.sizes_of.Goals as goal

pub returns : goal.returns
returns c = c.read_sizes.ensures ∙ ap sizes_of c.layout.ensures
