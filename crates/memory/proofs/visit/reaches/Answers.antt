-- `memory::visit::reaches` meets its contract. Assumes nothing.
use native.Mathlib.Omega.{arith}
use Rattle.memory.proofs.visit.Steps.{just_reached_read}
use Rattle.memory.proofs.visit.reaches.Goals as goal

pub returns : goal.returns
returns c =
    let args = c.args in
    just_reached_read args.mem.now args.r args.t _ c.requires.0 (omega (arith, c.requires.1)) c.requires.2 c.bump.ensures c.load-size.ensures c.load.ensures
    c.threshold.ensures
