-- `Outside::bar` meets its contract. Assumes nothing.
use native.Mathlib.Omega.{arith}
use mathlib.Core.Path.{◌≡◌, refl, ◌∙◌, ap}
use lib.ListN.{length, get_or}
use Rattle.std.proofs.Common.{rules}
use Rattle.table.specs.Format.{theory_in}
use Rattle.searching.proofs.Leaving.{leaving_none, barring_next, barring_all, room}
use Rattle.searching.proofs.Ends.{orderly}
use Rattle.searching.proofs.outside.Outside.bar.Goals as goal

pub overflow_mul-q-end : goal.overflow_mul-q-end
unfolding theory_in
overflow_mul-q-end c = let t = c.args.search.table in record { fits = omega (arith, (orderly _ _ t.legal).few) }

pub loop-q-init : goal.loop-q-init
loop-q-init c =
    let t = c.args.search.table in
    let words : length c.args.self.now.gone ≡ 1024 = search rules in
    let places : length c.args.self.now.list ≡ 1024 = search rules in
    record {
      barring = leaving_none _ _ _ _ _ c.requires.end words places (orderly _ _ t.legal).few c.requires.gone;
      lost = refl;
    }

pub leave_if-requires : goal.leave_if-requires
unfolding theory_in
leave_if-requires c =
    let t = c.args.search.table in let few = (orderly _ _ t.legal).few in let k = c.loop-q.invariant.barring.leaving in
    (omega (arith, c.loop-q-test.true, few), k.within, room _ _ _ _ _ _ k few _ c.loop-q-test.true)

pub loop-q-preserved : goal.loop-q-preserved
unfolding theory_in
loop-q-preserved c =
    let t = c.args.search.table in
    record {
      barring =
          barring_next _ _ _ _ _ _ _ c.loop-q.invariant.barring (orderly _ _ t.legal).few c.loop-q-test.true _ c.is_barred-barred.ensures _ _ _
          c.leave_if.ensures.leaves;
      lost = c.leave_if.ensures.lost ∙ c.loop-q.invariant.lost;
    }

pub returns : goal.returns
unfolding theory_in
returns c = record {
  barring = barring_all _ _ _ _ _ _ _ _ c.loop-q.auto.q-end c.loop-q-test.false c.loop-q.invariant.barring;
  lost = λ r h. ap (λ l. get_or l r 0) c.loop-q.invariant.lost ∙ c.requires.lost r h;
}
