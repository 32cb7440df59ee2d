-- `Lines::write_initial` meets its contract. The loop's invariant: the literals passed were tried. Assumes nothing.
use native.Mathlib.Omega.{arith}
use Rattle.engine.proofs.run.Lending.{lent_none, lent_then}
use Rattle.engine.proofs.run.Trying.{atoms_in, few, tried_by}
use Rattle.engine.proofs.run.Opening.{opening_end, opening_next, opening_start}
use Rattle.engine.proofs.lines.Lines.write_initial.Goals as goal

pub overflow_mul-q-end : goal.overflow_mul-q-end
overflow_mul-q-end c = record { fits = omega (arith, (few c.args.self.now.table).atoms) }

pub loop-q-init : goal.loop-q-init
loop-q-init c = record { tried = opening_start _ _ _ c.requires.0 c.requires.1 c.args.self.now.logged; lent = lent_none }

pub loop-q-preserved : goal.loop-q-preserved
loop-q-preserved c = record {
  tried = opening_next _ _ _ c.requires.0 _ c.loop-q.invariant.tried (tried_by c.loop-q.invariant.lent.table c.try_literal.ensures.tried);
  lent = lent_then c.loop-q.invariant.lent c.try_literal.ensures.lent;
}

pub returns-clause-opened : goal.returns-clause-opened
returns-clause-opened c =
    let table = c.args.self.now.table in
    opening_end _ _ _ c.requires.0 _ (omega (arith, atoms_in table)) c.loop-q.invariant.tried
