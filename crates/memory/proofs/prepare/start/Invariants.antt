-- `memory::prepare::start` meets its contract. The loop's invariant: the rules passed were visited for their virtual antecedent. Assumes nothing.
use Rattle.table.specs.Tables.{theory_said}
use Rattle.memory.specs.Indexing.{Started}
use Rattle.memory.proofs.prepare.start.Given as goal

abbrev pub invariant-loop-r : goal.invariant-loop-r
invariant-loop-r l = Started (theory_said l.table) l.r l.initial.mem l.mem
