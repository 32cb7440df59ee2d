-- `engine::run::run_apart` meets its contract. Assumes nothing.
use Prim.Native.Nat.{ℕ}
use native.Mathlib.Omega.{arith}
use lib.ListN.{length-replicate}
use Rattle.engine.proofs.run.Trying.{few}
use Rattle.engine.proofs.run.run_apart.Goals as goal

pub run_copied-requires : goal.run_copied-requires
run_copied-requires c =
    (c.requires, omega (arith, length-replicate {A = ℕ} 32768 0), omega (arith, length-replicate {A = ℕ} 2048 0, (few c.args.run.table).atoms))
