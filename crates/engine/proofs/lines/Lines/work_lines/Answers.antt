-- `Lines::work_lines` meets its contract. Assumes nothing.
use native.Mathlib.Omega.{arith}
use Rattle.engine.proofs.run.Lending.{lent_none, lent_then}
use Rattle.engine.proofs.run.Tallies.{next_by, stepped_by}
use Rattle.engine.proofs.run.Trying.{atoms_in, lines_most, proper_in}
use Rattle.engine.proofs.run.Worklist.{stands_asks, stands_done, stands_less, stands_next, stands_start, stands_stopped}
use Rattle.engine.proofs.lines.Lines.work_lines.Goals as goal

pub loop-tally-init : goal.loop-tally-init
loop-tally-init c = record { stands = stands_start _ (proper_in c.args.self.now.table) _ c.requires; lent = lent_none }

pub process_next-next-requires : goal.process_next-next-requires
process_next-next-requires c =
    next_by c.loop-tally.invariant.lent.table
    (stands_asks _ (proper_in c.args.self.now.table) _ _ _ _ _ _ _ _ _ c.loop-tally.invariant.stands c.loop-tally-test.true)

pub returns-then-next-tally-clause-lined : goal.returns-then-next-tally-clause-lined
returns-then-next-tally-clause-lined c =
    stands_stopped _ (proper_in c.args.self.now.table) _ _ _ _ _ _ _ _ _ c.loop-tally.invariant.stands c.loop-tally-test.true _ _ _ _
    (stepped_by c.loop-tally.invariant.lent.table c.process_next-next.ensures.stepped) c.if-next-tally.true

pub loop-tally-smaller : goal.loop-tally-smaller
loop-tally-smaller c =
    let table = c.args.self.now.table in
    let proper = proper_in table in
    omega
    (arith, c.loop-tally-test.true, stands_less _ proper _ _ _ _ _ _ _ _ _ c.loop-tally.invariant.stands c.loop-tally-test.true _ _ _ _ (stepped_by c.loop-tally.invariant.lent.table c.process_next-next.ensures.stepped) c.if-next-tally.false, lines_most _ proper _ _ _ c.loop-tally.invariant.stands.reached.logged, atoms_in table)

pub loop-tally-preserved : goal.loop-tally-preserved
loop-tally-preserved c = record {
  stands =
      stands_next _ (proper_in c.args.self.now.table) _ _ _ _ _ _ _ _ _ c.loop-tally.invariant.stands c.loop-tally-test.true _ _ _ _
      (stepped_by c.loop-tally.invariant.lent.table c.process_next-next.ensures.stepped) c.if-next-tally.false;
  lent = lent_then c.loop-tally.invariant.lent c.process_next-next.ensures.lent;
}

pub returns-clause-lined : goal.returns-clause-lined
returns-clause-lined c = stands_done _ (proper_in c.args.self.now.table) _ _ _ _ _ _ _ _ _ c.loop-tally.invariant.stands c.loop-tally-test.false
