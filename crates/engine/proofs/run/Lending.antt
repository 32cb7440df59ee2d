-- Lines stay in the buffers that were lent, step by step. Assumes nothing.
use mathlib.Core.Path.{refl, ◌∙◌}
use Rattle.engine.specs.declared.lines.Lines.{Lines}
use Rattle.engine.specs.Lines.{Lent}

pub lent_none : {l : Lines} → Lent l l
lent_none = record { table = refl; mem = refl; log = refl }

pub lent_then : {l m n : Lines} → Lent l m → Lent m n → Lent l n
lent_then f g = record { table = g.table ∙ f.table; mem = g.mem ∙ f.mem; log = g.log ∙ f.log }
