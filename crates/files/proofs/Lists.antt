-- Laws of lists: what stands at their places. Assumes nothing.
use Prim.Native.Nat.{ℕ, zero, suc, ◌<◌}
use native.Mathlib.Nat.{not-suc-le-zero}
use native.Mathlib.Omega.{arith}
use mathlib.Core.List.{List, [], ◌∷◌}
use lib.Dec.{T}
use lib.ListN.{length, get_or}
use Rattle.logic.proofs.Tests.{and_right}
use Rattle.logic.proofs.Lists.{member_get_d}
use Rattle.logic.proofs.Rising.{rising_from, rising_member}
pub use mathlib.Core.List.{map-map as map_map}

-- a rising list rises from any place to any later one
pub rising_places : (m : ℕ) (l : List ℕ) → T (rising_from m l) → (i j : ℕ) → i < j → j < length l → get_or l i 0 < get_or l j 0
unfolding rising_from
rising_places m [] t i j h k = absurd (not-suc-le-zero k)
rising_places m (x ∷ l) t i zero h k = absurd (not-suc-le-zero h)
rising_places m (x ∷ l) t zero (suc j) h k = rising_member (suc x) l (and_right _ _ t) (get_or l j 0) (member_get_d l j (omega arith))
rising_places m (x ∷ l) t (suc i) (suc j) h k = rising_places (suc x) l (and_right _ _ t) i j (omega arith) (omega arith)
