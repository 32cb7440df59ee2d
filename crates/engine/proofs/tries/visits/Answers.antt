-- `engine::tries::visits` meets its contract. Assumes nothing.
use Rattle.logic.specs.Tests.{isnt, ◌or◌}
use Rattle.engine.proofs.tries.visits.Goals as goal

pub returns-then-not-definite : goal.returns-then-not-definite
unfolding isnt ◌or◌
returns-then-not-definite c = simp c.if-not-definite.true

pub returns-else-not-definite : goal.returns-else-not-definite
unfolding isnt ◌or◌
returns-else-not-definite c = simp c.if-not-definite.false
