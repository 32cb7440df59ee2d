-- `table::body::entries_below` meets its contract. The loop's invariant: the entries passed are counted. Assumes nothing.
use mathlib.Core.Path.{◌≡◌}
use lib.Dec.{ltb}
use Rattle.logic.specs.Tests.{count_below}
use Rattle.table.specs.Format.{entry_at}
use Rattle.table.proofs.body.entries_below.Given as goal

abbrev pub invariant-loop-i : goal.invariant-loop-i
invariant-loop-i l = l.n ≡ count_below l.i (λ j. ltb (entry_at l.table.layout.now l.table.sizes j).rule l.r)
