-- `join::pairs::own_end` meets its contract. The loop's invariant: the pairs passed are the rule's. Assumes nothing.
use Prim.Native.Nat.{ℕ, ◌≤◌, ◌<◌}
use mathlib.Core.Path.{◌≡◌}
use Rattle.table.specs.Format.{pair_at}
use Rattle.join.proofs.pairs.own_end.Given as goal

abbrev pub invariant-loop-i : goal.invariant-loop-i
invariant-loop-i l = (j : ℕ) → l.from ≤ j → j < l.i → (pair_at l.table.layout.now l.table.sizes j).stronger ≡ l.rule
