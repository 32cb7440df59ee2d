-- `memory::visit::visit_uses` meets its contract. The loop's invariant is `Spreading` of proofs/visit/Adding.antt: the uses before the k-th are visited. Assumes nothing.
use Rattle.table.specs.Tables.{theory_said}
use Rattle.memory.proofs.visit.Adding.{Spreading}
use Rattle.memory.proofs.visit.visit_uses.Given as goal

abbrev pub invariant-loop-k : goal.invariant-loop-k
invariant-loop-k l = Spreading (theory_said l.table) l.p l.t l.initial.k l.initial.mem l.mem l.k
