-- `memory::visit::walk` meets its contract. The loop's invariant is `Walking` of proofs/visit/Walks.antt: of the rule's own pairs those below `i` are notified. Assumes nothing.
use Rattle.memory.proofs.visit.Walks.{Walking}
use Rattle.table.specs.Format.{theory_in}
use Rattle.memory.proofs.visit.walk.Given as goal

abbrev pub invariant-loop-i : goal.invariant-loop-i
invariant-loop-i l = Walking (theory_in l.table l.s) l.t l.r l.initial.mem l.mem l.i
