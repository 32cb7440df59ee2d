-- The order of an entry as one number (src/order.rt): what its functions say to each other.
use Rattle.std.specs.Prelude.{ℕ, ◌+◌, ◌*◌, ◌<◌, ◌≡◌, List}
use Rattle.table.specs.Format.{word}

-- the left word of the i-th entry of a section, then its right one
pub record Key (b : List ℕ) (left right i r : ℕ) : Type 0 where
  pub whole : r ≡ 65536 * word b (left + i) + word b (right + i)
  pub low : word b (right + i) < 65536
