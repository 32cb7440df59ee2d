-- `join::pairs::write_house_pairs` meets its contract. The loop's invariant: the pairs of the rules passed are written. Assumes nothing.
use Prim.Native.Nat.{◌+◌, ◌*◌, ◌≤◌}
use mathlib.Core.Path.{◌≡◌}
use Rattle.table.specs.Format.{theory_in}
use Rattle.joining.specs.Joining.{pairs_under}
use Rattle.join.specs.Written.{HousePairs}
use Rattle.join.proofs.pairs.write_house_pairs.Given as goal

abbrev pub invariant-loop-x : goal.invariant-loop-x
invariant-loop-x l =
    (l.from ≡ pairs_under (theory_in l.house.layout.now l.house.sizes) l.x) × (l.place ≤ l.at + 2 * l.from + 2048 * l.x)
    × HousePairs l.side l.x l.house.layout.now l.house.sizes l.rules.n l.rules.first l.rules.next l.initial.out l.at l.out l.place
