-- `engine::run::run_short` calls itself on a shorter scratch: the scratch's length is the measure.
use Rattle.std.proofs.Common.{length}
use Rattle.engine.proofs.run.+run_short.Given as goal

abbrev pub decreases-run_short : goal.decreases-run_short
decreases-run_short l = length l.scratch.now
