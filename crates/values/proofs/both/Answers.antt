-- `values::both` meets its contract. Assumes nothing.
use Rattle.logic.specs.Tests.{◌and◌}
use Rattle.values.proofs.both.Goals as goal

pub returns-then-a : goal.returns-then-a
unfolding ◌and◌
returns-then-a c = simp c.if-a.true

pub returns-else-a : goal.returns-else-a
unfolding ◌and◌
returns-else-a c = simp c.if-a.false
