-- `Outside::find` meets its contract. Assumes nothing.
use native.Mathlib.Omega.{arith}
use Rattle.table.specs.Format.{theory_in}
use Rattle.searching.proofs.Telling.{tell_none}
use Rattle.searching.proofs.Ends.{orderly, search_all}
use Rattle.searching.proofs.outside.Outside.find.Goals as goal

pub loop-next-init : goal.loop-next-init
loop-next-init c = let t = c.args.table in (omega arith, tell_none _ _ _ (orderly _ _ t.legal) _ _ _ _ _ c.begin.ensures)

pub returns : goal.returns
unfolding theory_in
returns c =
    let t = c.args.table in
    search_all _ _ _ _ _ _ _ _ _ t.legal c.loop-next.invariant.0 c.loop-next-test.false c.loop-next.invariant.1
