-- `Lines::try_both` meets its contract. Assumes nothing.
use Rattle.engine.proofs.run.Trying.{tried_both, tried_by}
use Rattle.engine.proofs.lines.Lines.try_both.Goals as goal

pub returns-clause-tried : goal.returns-clause-tried
returns-clause-tried c = tried_both _ _ c.complement.ensures c.try_literal.ensures.tried (tried_by c.try_literal.ensures.lent.table c.try_literal-2.ensures.tried)
