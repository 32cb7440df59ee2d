-- `convert::convert::to_old` meets its contract. Assumes nothing.
use native.Mathlib.Omega.{arith}
use mathlib.Core.Path.{refl, sym, ◌∙◌, ap}
use mathlib.Core.List.{List, ◌++◌}
use lib.ListN.{length, drop}
use Prim.Native.Nat.{ℕ}
use Rattle.convert.proofs.Writing.{file_length, wrote_short, wrote_lost, wrote_file}
use Rattle.convert.proofs.convert.to_old.Goals as goal

pub returns-then-out-n : goal.returns-then-out-n
returns-then-out-n c = wrote_short _ _ _ c.if-out-n.true c.refuse.ensures

pub returns-then-has_origin : goal.returns-then-has_origin
returns-then-has_origin c =
    wrote_lost _ _ _ c.if-out-n.false (sym c.has_origin.ensures ∙ c.if-has_origin.true) c.refuse-then-has_origin.ensures

pub overflow_cast-result : goal.overflow_cast-result
overflow_cast-result c = record { fits = omega (arith, file_length _ _ c.args.table.legal) }

pub returns : goal.returns
returns c =
    wrote_file _ _ _ c.if-out-n.false (sym c.has_origin.ensures ∙ c.if-has_origin.false) refl
    (ap (λ (z : List ℕ). z ++ drop (length c.args.table.layout.now) c.args.out.now) c.copy_bytes.ensures)
