-- `engine::tries::write_line` meets its contract. Assumes nothing.
use native.Mathlib.Omega.{arith}
use Rattle.table.proofs.Legal.{limited}
use Rattle.engine.proofs.run.Trying.{room_for, appends_line}
use Rattle.engine.proofs.tries.write_line.Goals as goal

pub write-requires : goal.write-requires
write-requires c = (c.requires.0.ready, (limited _ c.args.table.legal.limits).atoms, c.requires.1, c.requires.2)

pub bounds-log-count : goal.bounds-log-count
bounds-log-count c = (room_for c.args.table _ _ _ _ c.requires.0 c.requires.1 c.requires.2 c.requires.3).0

pub overflow_add-count : goal.overflow_add-count
overflow_add-count c = record { fits = omega (arith, (room_for c.args.table _ _ _ _ c.requires.0 c.requires.1 c.requires.2 c.requires.3).1) }

pub returns : goal.returns
returns c = appends_line c.args.table _ _ _ _ c.requires.0 c.requires.1 c.requires.2 c.requires.3 _ c.write.ensures
