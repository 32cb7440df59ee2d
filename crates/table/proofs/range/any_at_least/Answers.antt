-- `table::range::any_at_least` meets its contract. The loop's invariant: what the words passed say. Assumes nothing.
use Prim.Native.Nat.{◌+◌}
use native.Mathlib.Omega.{arith}
use mathlib.Core.Path.{ap}
use lib.Dec.{leb}
use Rattle.table.specs.Format.{word}
use Rattle.table.proofs.Reading.{scan_none, scan_next, scan_end}
use Rattle.table.proofs.range.any_at_least.Goals as goal

pub loop-i-init : goal.loop-i-init
loop-i-init c = scan_none (λ k. leb c.args.limit (word c.args.layout.bytes.now (c.args.base + (c.args.from + k))))

pub word_within-w-requires : goal.word_within-w-requires
word_within-w-requires c = omega arith

pub loop-i-preserved : goal.loop-i-preserved
loop-i-preserved c =
    let args = c.args in
    scan_next c.loop-i.i (λ k. leb args.limit (word args.layout.bytes.now (args.base + (args.from + k)))) c.loop-i.invariant
    (ap (leb args.limit) c.word_within-w.ensures) c.either-found.ensures

pub returns : goal.returns
returns c =
    let args = c.args in
    scan_end c.loop-i.i args.n (λ k. leb args.limit (word args.layout.bytes.now (args.base + (args.from + k)))) (omega arith) (omega arith)
    c.loop-i.invariant
