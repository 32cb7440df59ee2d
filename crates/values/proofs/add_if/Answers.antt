-- `values::add_if` meets its contract. Assumes nothing.
use Rattle.std.proofs.Common.{rules, arith}
use Rattle.std.proofs.lemmas.Grind.{common_steps}
use Rattle.logic.specs.Tests.{weigh}
use Rattle.values.proofs.add_if.Goals as goal

pub returns : goal.returns
unfolding weigh
returns c = grind (arith, common_steps)
