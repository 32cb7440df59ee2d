-- `join::pairs::write_added` meets its contract. The loop's invariant: the pairs passed are written, and the chain has come to the next. Assumes nothing.
use Prim.Native.Nat.{◌+◌, ◌-◌, ◌*◌, ◌≤◌, ◌<◌}
use Rattle.writing.specs.Columns.{word_in}
use Rattle.join.proofs.Chaining.{Reached}
use Rattle.join.proofs.pairs.write_added.Given as goal

abbrev pub invariant-loop-j : goal.invariant-loop-j
invariant-loop-j l =
    (l.j < l.rules.n → l.place ≤ l.at + 2 * l.j) × (l.place ≤ l.at + 2 * l.rules.n) × Reached (λ k. word_in l.side (record { left = l.rule; right = l.later + k })) l.rules.n l.start l.rules.next l.initial.out l.at l.j l.place l.out

abbrev pub decreases-loop-j : goal.decreases-loop-j
decreases-loop-j l = l.rules.n - l.j
