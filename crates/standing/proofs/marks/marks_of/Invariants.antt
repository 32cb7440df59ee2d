-- `standing::marks::marks_of` meets its contract. The loop's invariant: the lines passed are marked. Assumes nothing.
use lib.ListN.{take}
use Rattle.standing.specs.Marks.{Marked}
use Rattle.standing.proofs.marks.marks_of.Given as goal

abbrev pub invariant-loop-x : goal.invariant-loop-x
invariant-loop-x l = Marked (take l.x-index l.log) l.marks
