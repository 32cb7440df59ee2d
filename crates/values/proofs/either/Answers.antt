-- `values::either` meets its contract. Assumes nothing.
use Rattle.logic.specs.Tests.{◌or◌}
use Rattle.values.proofs.either.Goals as goal

pub returns-then-a : goal.returns-then-a
unfolding ◌or◌
returns-then-a c = simp c.if-a.true

pub returns-else-a : goal.returns-else-a
unfolding ◌or◌
returns-else-a c = simp c.if-a.false
