-- `memory::visit::bump_if` meets its contract. Assumes nothing.
use Rattle.memory.proofs.visit.Steps.{raised_no, raised_yes}
use Rattle.memory.proofs.visit.bump_if.Goals as goal

pub returns-then-test : goal.returns-then-test
returns-then-test c =
    raised_yes _ _ _ _ _ c.if-test.true c.requires.0 c.requires.1 c.requires.2 c.bump.ensures

pub returns-else-test : goal.returns-else-test
returns-else-test c = raised_no _ _ _ _ c.if-test.false
