-- `table::cycle::find_runs` meets its contract. The loop's invariant: of the pairs from the i-th on, the first of each stronger rule is known. Assumes nothing.
use Rattle.table.specs.Format.{theory_in}
use Rattle.table.proofs.Arrays.{RunsFrom}
use Rattle.table.proofs.cycle.find_runs.Given as goal

abbrev pub invariant-loop-i : goal.invariant-loop-i
invariant-loop-i l = RunsFrom (theory_in l.layout.bytes.now l.layout.sizes) l.first l.i
