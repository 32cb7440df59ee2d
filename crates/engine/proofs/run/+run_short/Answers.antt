-- `engine::run::run_short` meets its contract. Assumes nothing.
use Rattle.std.proofs.Common.{refl}
use Rattle.engine.proofs.run.Answering.{ran_cut}
use Rattle.engine.proofs.run.+run_short.Goals as goal

pub returns-then-scratch-gt-SCRATCH : goal.returns-then-scratch-gt-SCRATCH
returns-then-scratch-gt-SCRATCH t c = ran_cut c.args.run.reading c.args.run.table c.requires c.run_short.ensures refl
