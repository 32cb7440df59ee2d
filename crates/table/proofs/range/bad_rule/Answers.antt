-- `table::range::bad_rule` meets its contract. The loop's invariant: what the words passed say. Assumes nothing.
use Prim.Native.Nat.{◌+◌}
use native.Mathlib.Omega.{arith}
use mathlib.Core.Path.{◌∙◌, ap}
use Rattle.table.specs.Format.{word}
use Rattle.table.specs.Refusals.{bad_left, bad_rule}
use Rattle.table.proofs.Reading.{scan_none, scan_next, scan_end}
use Rattle.table.proofs.range.bad_rule.Goals as goal

pub loop-i-init : goal.loop-i-init
loop-i-init c = scan_none _

pub word_within-w-requires : goal.word_within-w-requires
word_within-w-requires c = omega (arith, c.args.layout.whole)

pub loop-i-preserved : goal.loop-i-preserved
loop-i-preserved c =
    let args = c.args in
    scan_next c.loop-i.i (λ r. bad_left args.edition (word args.layout.bytes.now (5 + (args.layout.sizes.facts + r)))) c.loop-i.invariant
    (c.bad_left.ensures ∙ ap (bad_left args.edition) c.word_within-w.ensures) c.either-found.ensures

pub returns : goal.returns
unfolding bad_rule
returns c =
    let args = c.args in
    scan_end c.loop-i.i args.layout.sizes.rules (λ r. bad_left args.edition (word args.layout.bytes.now (5 + (args.layout.sizes.facts + r)))) (omega arith) (omega arith)
    c.loop-i.invariant
