-- `Lines::write_found` meets its contract. Assumes nothing.
use native.Mathlib.Omega.{arith}
use mathlib.Core.Path.{ap}
use Rattle.engine.proofs.run.Lending.{lent_none, lent_then}
use Rattle.engine.proofs.run.Trying.{atoms_in, few, proper_in}
use Rattle.engine.proofs.run.Rounds.{found_none, found_asks, found_turn, found_all, refuted_by, yields_by}
use Rattle.engine.proofs.lines.Lines.write_found.Goals as goal

pub overflow_mul-q-end : goal.overflow_mul-q-end
overflow_mul-q-end c = record { fits = omega (arith, (few c.args.self.now.table).atoms) }

pub loop-q-init : goal.loop-q-init
loop-q-init c =
    let l = c.args.self.now in record { found = found_none _ (proper_in l.table) _ c.requires.asked.0 _ _ _ c.requires.asked.1 l.logged; lent = lent_none }

pub bounds-outside-q : goal.bounds-outside-q
bounds-outside-q c = omega (arith, c.loop-q-test.true, (few c.args.self.now.table).atoms)

pub refute_if-requires : goal.refute_if-requires
refute_if-requires c =
    let table = c.args.self.now.table in let lent = c.loop-q.invariant.lent in (
      omega (arith, c.loop-q-test.true, ap (λ t. t.sizes.atoms) lent.table),
      omega (arith, c.requires.asked.0),
      λ t. yields_by _ _ _ lent.table
          (found_asks _ (proper_in table) _ c.requires.asked.0 _ _ _ c.requires.asked.1 c.loop-q.invariant.found c.args.outside.now.gone c.requires.set
          (omega (arith, c.loop-q-test.true, atoms_in table)) t),
    )

pub loop-q-preserved : goal.loop-q-preserved
loop-q-preserved c =
    let table = c.args.self.now.table in let lent = c.loop-q.invariant.lent in record {
      found =
          found_turn _ (proper_in table) _ c.requires.asked.0 _ _ _ c.requires.asked.1 c.loop-q.invariant.found c.args.outside.now.gone c.requires.set
          (omega (arith, c.loop-q-test.true, atoms_in table)) (refuted_by lent.table c.refute_if.ensures.refuted);
      lent = lent_then lent c.refute_if.ensures.lent;
    }

pub returns-clause-searched : goal.returns-clause-searched
returns-clause-searched c =
    let table = c.args.self.now.table in
    found_all _ (proper_in table) _ c.requires.asked.0 _ _ _ c.requires.asked.1 (omega (arith, c.loop-q-test.false, atoms_in table)) c.loop-q.invariant.found
