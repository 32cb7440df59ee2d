-- `Lines::try_literal` meets its contract. Assumes nothing.
use Rattle.engine.proofs.run.Trying.{tried_by, tried_tags}
use Rattle.engine.proofs.lines.Lines.try_literal.Goals as goal

pub returns-clause-tried : goal.returns-clause-tried
returns-clause-tried c = tried_tags _ c.try_opposites.ensures.tried (tried_by c.try_opposites.ensures.lent.table c.try_opposites-2.ensures.tried)
