-- `Outside::tell` meets its contract. Assumes nothing.
use native.Mathlib.Omega.{arith}
use Rattle.table.specs.Format.{theory_in}
use Rattle.searching.proofs.Telling.{next_below, use_within, user_small, telling_start, telling_asks, telling_next, telling_end}
use Rattle.searching.proofs.Ends.{orderly}
use Rattle.searching.proofs.outside.Outside.tell.Goals as goal

pub uses_of-uses-requires : goal.uses_of-uses-requires
unfolding theory_in
uses_of-uses-requires c =
    let t = c.args.search.table in
    (c.args.search.ready, next_below _ _ _ (orderly _ _ t.legal) _ _ _ _ c.requires.1.barring.leaving c.requires.0)

pub loop-k-init : goal.loop-k-init
unfolding theory_in
loop-k-init c =
    let t = c.args.search.table in telling_start _ _ _ (orderly _ _ t.legal) _ _ _ _ _ _ (omega arith) c.requires.0 c.requires.1

pub user_at-r-requires : goal.user_at-r-requires
unfolding theory_in
user_at-r-requires c =
    let t = c.args.search.table in (
      c.args.search.ready,
      next_below _ _ _ (orderly _ _ t.legal) _ _ _ _ c.requires.1.barring.leaving c.requires.0,
      c.uses_of-uses.ensures,
      omega arith,
      c.loop-k-test.true,
    )

pub lose-requires-clause-rule : goal.lose-requires-clause-rule
unfolding theory_in
lose-requires-clause-rule c = user_small _ _ _ _ _ c.uses_of-uses.ensures (omega arith) c.loop-k-test.true c.user_at-r.ensures

pub lose-requires-clause-room : goal.lose-requires-clause-room
unfolding theory_in
lose-requires-clause-room c =
    let t = c.args.search.table in
    telling_asks _ _ _ (orderly _ _ t.legal) _ _ _ _ _ _ _ c.loop-k.invariant _
    (user_small _ _ _ _ _ c.uses_of-uses.ensures (omega arith) c.loop-k-test.true c.user_at-r.ensures)

pub loop-k-preserved : goal.loop-k-preserved
unfolding theory_in
loop-k-preserved c =
    let t = c.args.search.table in
    telling_next _ _ _ (orderly _ _ t.legal) _ _ _ _ _ _ _ c.loop-k.invariant
    (use_within _ _ _ _ _ c.uses_of-uses.ensures (omega arith) c.loop-k-test.true) _ _ _ _ _ _ c.user_at-r.ensures (omega arith)
    c.lose.ensures.lost c.lose.ensures.leaves

pub returns : goal.returns
unfolding theory_in
returns c =
    let t = c.args.search.table in let v = c.requires.1.barring.leaving in (
      c.loop-k.invariant.ahead,
      telling_end _ _ _ (orderly _ _ t.legal) _ _ _ _ _ _ _ c.loop-k.invariant (omega (arith, c.requires.0, v.within, v.places))
          (omega (arith, c.uses_of-uses.ensures.finish, c.loop-k-test.false)),
    )
