-- `table::order::unsorted` meets its contract. Assumes nothing.
use Prim.Native.Nat.{ℕ, ◌+◌, ◌-◌, ◌≤◌, ◌<◌}
use mathlib.Core.Path.{◌≡◌}
use mathlib.Core.Bool.{false}
use lib.Dec.{T}
use Rattle.table.specs.Refusals.{rises}
use Rattle.table.specs.Keys.{Key}
use Rattle.table.proofs.Sections.{InOrder}
use Rattle.table.proofs.order.unsorted.Given as goal

abbrev pub invariant-loop-i : goal.invariant-loop-i
invariant-loop-i l = (l.found ≡ false) × (1 ≤ l.i) × (0 < l.n → l.i ≤ l.n) × (0 < l.n → Key l.layout.bytes.now l.left l.right (l.i - 1) l.last) × ((j : ℕ) → j + 1 < l.i → T (rises l.layout.bytes.now l.layout.sizes l.k j))

abbrev pub invariant-inspection : goal.invariant-inspection
invariant-inspection l = (l.found ≡ false) × (l.k ≤ 3) × InOrder l.layout.bytes.now l.layout.sizes l.k
