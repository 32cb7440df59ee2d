-- `convert::convert::to_two` meets its contract. Assumes nothing.
use native.Mathlib.Omega.{arith}
use native.Mathlib.Numerals.{add-one}
use mathlib.Core.Path.{refl, ap}
use lib.ListN.{length}
use Rattle.std.specs.Prelude.{Ok}
use Rattle.convert.proofs.Writing.{file_length, copied_marked, wrote_short, wrote_file}
use Rattle.convert.proofs.convert.to_two.Goals as goal

pub returns-then-out-n : goal.returns-then-out-n
returns-then-out-n c = wrote_short _ _ _ (omega (arith, c.if-out-n.true)) c.refuse.ensures

pub overflow_cast-result : goal.overflow_cast-result
overflow_cast-result c = record { fits = omega (arith, file_length _ _ c.args.table.legal) }

pub returns : goal.returns
returns c =
    wrote_file _ _ _ (omega (arith, c.if-out-n.false)) refl (ap Ok (add-one (length c.args.table.layout.now)))
    (copied_marked c.args.out.now c.args.table.layout.now (omega (arith, c.if-out-n.false)) c.copy_bytes.ensures (omega arith))
