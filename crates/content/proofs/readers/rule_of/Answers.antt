-- `content::readers::rule_of` meets its contract. Assumes nothing.
use mathlib.Core.Path.{◌∙◌, ap}
use Rattle.table.specs.Format.{rule_at}
use Rattle.content.proofs.readers.rule_of.Goals as goal

pub returns : goal.returns
returns c = let args = c.args in c.read_rule.ensures ∙ ap (λ b. rule_at b args.s args.r) c.layout.ensures
