-- `engine::run::run_accepted` meets its contract. Assumes nothing.
use native.Mathlib.Omega.{arith}
use Rattle.engine.proofs.answer.Buffers.{short_scratch, full_log}
use Rattle.engine.proofs.run.Answering.{ran, ran_short, size_in, unpaid, worked_none}
use Rattle.engine.proofs.run.run_accepted.Goals as goal

pub returns-then-scratch-lt-SCRATCH : goal.returns-then-scratch-lt-SCRATCH
returns-then-scratch-lt-SCRATCH c =
    ran_short c.args.reading c.args.table (short_scratch c.args.reading _ _ c.args.table.legal _ _ _ c.if-scratch-lt-SCRATCH.true) c.refuse.ensures

pub returns-then-budget-size : goal.returns-then-budget-size
returns-then-budget-size c =
    let paid = size_in c.args.table _ c.size_of-size.ensures in
    ran c.args.reading c.args.table c.if-scratch-lt-SCRATCH.false (unpaid c.args.reading c.args.table _ _ _ paid c.if-budget-size.true)
    (worked_none c.args.reading c.args.table _ _ paid c.if-budget-size.true _ _) c.clear.ensures

pub invariant_of-run : goal.invariant_of-run
invariant_of-run c =
    record { paid = record { size = size_in c.args.table _ c.size_of-size.ensures; within = c.if-budget-size.false } }

pub invariant_of-run-2 : goal.invariant_of-run-2
invariant_of-run-2 c =
    record { paid = record { size = size_in c.args.table _ c.size_of-size.ensures; within = c.if-budget-size.false } }

pub returns : goal.returns
returns c =
    ran c.args.reading c.args.table c.if-scratch-lt-SCRATCH.false (full_log c.args.reading _ _ c.args.table.legal _ _ (omega (arith, c.if-log-from.false))) c.run_started-answer.ensures c.clear-2.ensures
