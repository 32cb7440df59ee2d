-- `engine::run::run` meets its contract. Assumes nothing.
use Rattle.engine.proofs.run.Answering.{ran_refused_of}
use Rattle.engine.proofs.run.run.Goals as goal

pub returns-in-Err : goal.returns-in-Err
returns-in-Err c = ran_refused_of _ _ _ _ _ _ _ c.read.ensures c.in-Err.is c.refuse.ensures
