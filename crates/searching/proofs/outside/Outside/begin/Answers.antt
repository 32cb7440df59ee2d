-- `Outside::begin` meets its contract. Assumes nothing.
use mathlib.Core.Path.{◌≡◌}
use lib.ListN.{length}
use Rattle.std.proofs.Common.{rules}
use Rattle.table.specs.Format.{theory_in}
use Rattle.searching.proofs.Losing.{lost_none, lost_until, loss_asks}
use Rattle.searching.proofs.Telling.{begin_next}
use Rattle.searching.proofs.Ends.{orderly}
use Rattle.searching.proofs.outside.Outside.begin.Goals as goal

pub loop-r-init : goal.loop-r-init
unfolding theory_in
loop-r-init c =
    let t = c.args.search.table in
    let words : length c.args.self.now.lost ≡ 1024 = search rules in
    lost_none _ _ _ _ _ _ _ (orderly _ _ t.legal) c.requires.barring words c.requires.lost

pub lose-requires-clause-room : goal.lose-requires-clause-room
unfolding theory_in
lose-requires-clause-room c =
    let t = c.args.search.table in loss_asks _ _ _ _ _ _ _ _ _ (orderly _ _ t.legal) c.loop-r.invariant _ c.loop-r-test.true

pub loop-r-preserved : goal.loop-r-preserved
unfolding theory_in
loop-r-preserved c =
    let t = c.args.search.table in
    begin_next _ _ _ (orderly _ _ t.legal) _ _ _ _ _ c.loop-r.invariant c.loop-r-test.true _ _ _ _ c.lose.ensures.lost c.lose.ensures.leaves

pub returns : goal.returns
returns c = lost_until _ _ _ _ _ _ _ _ _ _ c.loop-r.auto.r-end c.loop-r-test.false c.loop-r.invariant
