-- `table::body::body` meets its contract. Assumes nothing.
use Rattle.table.proofs.Bodies.{accepted_body, refused_body}
use Rattle.table.proofs.body.body.Goals as goal

pub returns-in-Ok : goal.returns-in-Ok
returns-in-Ok c = accepted_body _ _ _ _ _ c.in-Ok.ensures.0 c.in-Ok.ensures.1 c.part_of.ensures

pub returns-in-Err : goal.returns-in-Err
returns-in-Err c = refused_body _ _ _ _ c.in-Err.ensures
