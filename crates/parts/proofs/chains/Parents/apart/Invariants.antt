-- `parts::chains::Parents::apart` meets its contract. The loop's invariant: the atoms passed are their own parents. Assumes nothing.
use Prim.Native.Nat.{ℕ, ◌<◌}
use mathlib.Core.Path.{◌≡◌}
use lib.ListN.{length, get_or}
use Rattle.parts.proofs.chains.Parents.apart.Given as goal

abbrev pub invariant-loop-a : goal.invariant-loop-a
invariant-loop-a l = record { size : length l.of ≡ 512; own : (k : ℕ) → k < l.a → get_or l.of k 0 ≡ k }
