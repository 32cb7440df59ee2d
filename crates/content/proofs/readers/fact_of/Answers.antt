-- `content::readers::fact_of` meets its contract. Assumes nothing.
use mathlib.Core.Path.{◌∙◌, ap}
use Rattle.table.specs.Format.{fact_at}
use Rattle.content.proofs.readers.fact_of.Goals as goal

pub returns : goal.returns
returns c = let args = c.args in c.read_fact.ensures ∙ ap (λ b. fact_at b args.s args.i) c.layout.ensures
