-- `table::order::unsorted` meets its contract. Assumes nothing.
use native.Mathlib.Omega.{arith}
use mathlib.Core.Path.{refl, ◌∙◌}
use Rattle.table.proofs.Sections.{no_disorder, in_order_next, section_inside, key_on, rises_next, falls_next}
use Rattle.table.proofs.order.unsorted.Goals as goal

pub inspection-init : goal.inspection-init
inspection-init c = (refl, omega arith, λ j h. absurd (omega arith))

pub first_key-last-requires : goal.first_key-last-requires
first_key-last-requires c = (omega (arith, section_inside c.args.layout.sizes c.inspection.k, c.section_from-left.ensures.0, c.section_size-n.ensures, c.span-span.ensures, c.args.layout.whole), omega (arith, section_inside c.args.layout.sizes c.inspection.k, c.section_from-left.ensures.0, c.section_size-n.ensures, c.span-span.ensures, c.args.layout.whole), omega (arith, c.section_from-left.ensures.1), omega (arith, c.section_from-left.ensures.1, c.span-span.ensures))

pub loop-i-init : goal.loop-i-init
loop-i-init c = (c.inspection.invariant.0, omega arith, λ h. omega arith, c.first_key-last.ensures, λ j h. absurd (omega arith))

pub key-next-requires : goal.key-next-requires
key-next-requires c = (omega (arith, section_inside c.args.layout.sizes c.inspection.k, c.section_from-left.ensures.0, c.section_size-n.ensures, c.span-span.ensures, c.args.layout.whole, c.loop-i-test.true), omega (arith, section_inside c.args.layout.sizes c.inspection.k, c.section_from-left.ensures.0, c.section_size-n.ensures, c.span-span.ensures, c.args.layout.whole, c.loop-i-test.true), omega (arith, c.section_from-left.ensures.1), omega (arith, c.section_from-left.ensures.1, c.span-span.ensures), omega (arith, c.loop-i-test.true))

pub loop-i-preserved : goal.loop-i-preserved
loop-i-preserved c = (c.loop-i.invariant.0, omega arith, λ h. omega arith, λ h. key_on c.args.layout.bytes.now c.args.layout.sizes c.requires c.inspection.k c.section_from-left.result c.span-span.result c.section_from-left.ensures.0 c.span-span.ensures c.loop-i.i c.key-next.ensures, rises_next c.args.layout.bytes.now c.args.layout.sizes c.requires c.inspection.k c.section_from-left.result c.span-span.result c.section_from-left.ensures.0 c.span-span.ensures c.loop-i.i c.loop-i.invariant.1 (omega (arith, c.loop-i-test.true, c.section_size-n.ensures)) (c.loop-i.invariant.3 (omega (arith, c.loop-i-test.true))) c.key-next.ensures c.if-next-last.false c.loop-i.invariant.4)

pub inspection-preserved : goal.inspection-preserved
inspection-preserved c = (c.loop-i.invariant.0, omega arith, in_order_next _ _ _ c.inspection.invariant.2 (λ j h. c.loop-i.invariant.4 j (omega (arith, c.section_size-n.ensures))))

pub returns-after-inspection : goal.returns-after-inspection
returns-after-inspection c = c.inspection.invariant.0 ∙ no_disorder _ _ _ c.inspection-test.false c.inspection.invariant.2

pub returns-then-next-last : goal.returns-then-next-last
returns-then-next-last c = falls_next c.args.layout.bytes.now c.args.layout.sizes c.requires c.inspection.k c.section_from-left.result c.span-span.result c.section_from-left.ensures.0 c.span-span.ensures c.loop-i.i c.loop-i.invariant.1 (omega (arith, c.loop-i-test.true, c.section_size-n.ensures)) (c.loop-i.invariant.3 (omega (arith, c.loop-i-test.true))) c.key-next.ensures c.inspection-test.true c.if-next-last.true
