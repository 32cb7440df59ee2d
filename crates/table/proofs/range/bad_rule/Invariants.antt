-- `table::range::bad_rule` meets its contract. The loop's invariant: what the words passed say. Assumes nothing.
use Prim.Native.Nat.{◌+◌}
use mathlib.Core.Path.{◌≡◌}
use Rattle.logic.specs.Tests.{some}
use Rattle.table.specs.Format.{word}
use Rattle.table.specs.Refusals.{bad_left}
use Rattle.table.proofs.range.bad_rule.Given as goal

abbrev pub invariant-loop-i : goal.invariant-loop-i
invariant-loop-i l = l.found ≡ some l.i (λ r. bad_left l.edition (word l.layout.bytes.now (5 + (l.from + r))))
