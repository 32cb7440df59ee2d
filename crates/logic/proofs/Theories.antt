-- What a proper theory has: heads below 2A, and superiority among its rules, so that the test for a cycle agrees with the cycle.
-- Assumes nothing.
use Prim.Native.Nat.{ℕ, ◌*◌, ◌<◌}
use mathlib.Core.Path.{subst}
use mathlib.Core.Logic.{◌↔◌}
use lib.Dec.{T, eqb→eq, ltb→lt}
use Rattle.logic.specs.Theory.{Theory, head_of, superior, proper}
use Rattle.logic.specs.Cycle.{Cycle, cyclic}
use Rattle.logic.proofs.Tests.{and_left, and_right, every_elim, some_elim}
use Rattle.logic.proofs.Cycle.{cyclic_sound, cyclic_complete}

module _ (d : Theory) (p : T (proper d)) where
  pub heads_below : (r : ℕ) → r < d.rules → head_of d r < 2 * d.atoms
  heads_below r b = ltb→lt _ _ (every_elim _ _ (and_right _ _ (and_left _ _ (and_left _ _ p))) r b)

  pub superior_below : (t s : ℕ) → T (superior d t s) → t < d.rules
  unfolding superior
  superior_below t s u =
      let (i, b, v) = some_elim _ _ u in
      subst (λ r. r < d.rules) (eqb→eq _ _ (and_left _ _ v)) (ltb→lt _ _ (and_left _ _ (every_elim _ _ (and_right _ _ p) i b)))

  pub cyclic_agrees : T (cyclic (superior d) d.rules) ↔ Cycle (superior d)
  cyclic_agrees = (cyclic_sound (superior d) d.rules, cyclic_complete (superior d) d.rules superior_below)
