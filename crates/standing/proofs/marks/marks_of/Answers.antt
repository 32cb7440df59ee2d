-- `standing::marks::marks_of` meets its contract. The loop's invariant: the lines passed are marked. Assumes nothing.
use mathlib.Core.Path.{refl}
use Rattle.standing.proofs.Marking.{lines_all, lines_next, lines_none}
use Rattle.standing.proofs.marks.marks_of.Goals as goal

pub loop-x-init : goal.loop-x-init
loop-x-init c = lines_none c.args.log.now

pub loop-x-preserved : goal.loop-x-preserved
loop-x-preserved c = lines_next c.args.log.now _ _ refl c.loop-x-test.true c.mark.auto.marks c.loop-x.invariant c.mark.ensures

pub returns : goal.returns
returns c = lines_all _ _ c.loop-x-test.false c.loop-x.invariant
