-- What holds of the pairs of an accepted table (`pairs_in_order` in proofs/Pairs.antt).
use Rattle.std.specs.Prelude.{ℕ, ◌≤◌, ◌<◌}
use Rattle.logic.specs.Theory.{Theory}

-- They and the rules are few, they name rules that there are, and they stand in the order of the stronger rules.
pub record PairsInOrder (d : Theory) : Type 0 where
  pub small : d.rules ≤ 1024
  pub few : d.pairs ≤ 2048
  pub strong : (i : ℕ) → i < d.pairs → (d.pair i).stronger < d.rules
  pub weak : (i : ℕ) → i < d.pairs → (d.pair i).weaker < d.rules
  pub rising : (i j : ℕ) → i ≤ j → j < d.pairs → (d.pair i).stronger ≤ (d.pair j).stronger
