-- `table::range::any_at_least` meets its contract. The loop's invariant: what the words passed say. Assumes nothing.
use Prim.Native.Nat.{◌+◌}
use mathlib.Core.Path.{◌≡◌}
use lib.Dec.{leb}
use Rattle.logic.specs.Tests.{some}
use Rattle.table.specs.Format.{word}
use Rattle.table.proofs.range.any_at_least.Given as goal

abbrev pub invariant-loop-i : goal.invariant-loop-i
invariant-loop-i l = l.found ≡ some l.i (λ k. leb l.limit (word l.layout.bytes.now (l.base + (l.from + k))))
