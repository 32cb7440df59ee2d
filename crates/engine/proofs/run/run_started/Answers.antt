-- `engine::run::run_started` meets its contract. Assumes nothing.
use native.Mathlib.Omega.{arith}
use Rattle.std.proofs.Common.{rules}
use Rattle.table.specs.Tables.{theory_said}
use Rattle.engine.proofs.run.Answering.{worked_all, worked_in, worked_of}
use Rattle.engine.proofs.run.Opening.{prepared_lines}
use Rattle.engine.proofs.run.Trying.{atoms_in}
use Rattle.engine.proofs.run.run_started.Goals as goal

pub invariant_of-lines : goal.invariant_of-lines
invariant_of-lines c =
    record { logged = prepared_lines c.prepare.ensures (omega (arith, c.requires.1, atoms_in c.args.run.table)) }

-- the lines stood in the buffers that were lent to the end
pub returns : goal.returns
returns c =
    worked_in
    (worked_all c.args.run.reading {d = theory_said c.args.run.table} _ _ _ c.args.run.paid.size c.args.run.paid.within c.prepare.ensures c.write_initial.ensures.opened
    (worked_of c.args.run.reading _ c.write_initial.ensures.lent.table c.work.ensures.worked))
    (search rules) (search rules)
