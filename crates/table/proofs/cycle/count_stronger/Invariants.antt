-- `table::cycle::count_stronger` meets its contract. The loop's invariant: the counts are those of the pairs passed. Assumes nothing.
use Rattle.table.specs.Format.{pair_at}
use Rattle.table.proofs.Arrays.{Tally}
use Rattle.table.proofs.cycle.count_stronger.Given as goal

abbrev pub invariant-loop-i : goal.invariant-loop-i
invariant-loop-i l = Tally (λ k. (pair_at l.layout.bytes.now l.layout.sizes k).weaker) l.degree l.i
