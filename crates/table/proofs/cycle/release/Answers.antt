-- `table::cycle::release` meets its contract. The loop's invariant is `Removing` of proofs/Arrays.antt: the pairs removed are those of the rules taken up before, and this rule's own below `i`. Assumes nothing.
use Prim.Native.Nat.{◌<◌}
use native.Mathlib.Omega.{arith}
use mathlib.Core.Path.{sym, ◌∙◌, ◌≡◌}
use lib.ListN.{length, get_or}
use Rattle.table.specs.Format.{theory_in}
use Rattle.table.proofs.Arrays.{taken_small, removing_start, removing_end, removing_waits, removing_room, removing_next}
use Rattle.table.proofs.Pairs.{strong_read, weak_read, weak_small}
use Rattle.table.proofs.cycle.release.Goals as goal

pub offset_bounds-first-from : goal.offset_bounds-first-from
offset_bounds-first-from c =
    let small : c.from.result < 1024 = taken_small _ _ _ _ _ _ _ c.requires.pairs_in_order.0 c.requires.pairs_in_order.2 c.requires.within.0 (omega arith) c.from.ensures in
    omega (arith, small)

pub bounds-first-from : goal.bounds-first-from
bounds-first-from c =
    let small : c.from.result < 1024 = taken_small _ _ _ _ _ _ _ c.requires.pairs_in_order.0 c.requires.pairs_in_order.2 c.requires.within.0 (omega arith) c.from.ensures in
    omega (arith, small)

pub loop-i-init : goal.loop-i-init
loop-i-init c =
    removing_start _ _ _ (omega arith) _ _ _ _ _ c.requires.pairs_in_order.1 c.requires.pairs_in_order.2 c.told-degree c.told-queue c.requires.within.0 c.requires.within.1 c.from.ensures
    c.from-i.ensures

pub returns-then-p-r : goal.returns-then-p-r
returns-then-p-r c =
    let within : c.args.next < length c.args.queue.now = omega (arith) in (
      c.loop-i.invariant.1.ahead,
      c.loop-i.invariant.1.most,
      removing_end _ _ _ (within) c.requires.pairs_in_order.0 _ _ _ _ c.loop-i.invariant.1 _ c.requires.pairs_in_order.1 c.loop-i.invariant.0
          (λ _ e. c.if-p-r.true (strong_read _ _ _ _ c.pair-p.ensures ∙ e)),
    )

pub lower-last-requires : goal.lower-last-requires
unfolding theory_in
lower-last-requires c =
    let within : c.args.next < length c.args.queue.now = omega (arith) in
    let below : c.loop-i.i < (theory_in c.args.layout.bytes.now c.args.layout.sizes).pairs = (omega arith) in
    let of_rule : ((theory_in c.args.layout.bytes.now c.args.layout.sizes).pair c.loop-i.i).stronger ≡ get_or c.args.queue.now c.args.next 0 = sym (strong_read _ _ _ _ c.pair-p.ensures) ∙ c.if-p-r.false in
    let room : c.loop-i.last < 1024 = omega (arith, removing_room _ _ _ (within) c.requires.pairs_in_order.0 _ _ _ _ c.loop-i.invariant.1 (below) (of_rule), c.requires.pairs_in_order.0.small) in (
      omega (arith, weak_small _ _ c.requires.pairs_in_order.0 _ _ (omega arith) c.pair-p.ensures, c.loop-i.invariant.1.degrees),
      removing_waits _ _ _ (within) c.requires.pairs_in_order.0 _ _ _ _ c.loop-i.invariant.1 (below) (of_rule) _
          (weak_read _ _ _ _ c.pair-p.ensures),
      omega (arith, room, c.loop-i.invariant.1.places),
    )

pub loop-i-preserved : goal.loop-i-preserved
unfolding theory_in
loop-i-preserved c =
    let within : c.args.next < length c.args.queue.now = omega (arith) in
    let below : c.loop-i.i < (theory_in c.args.layout.bytes.now c.args.layout.sizes).pairs = (omega arith) in
    let of_rule : ((theory_in c.args.layout.bytes.now c.args.layout.sizes).pair c.loop-i.i).stronger ≡ get_or c.args.queue.now c.args.next 0 = sym (strong_read _ _ _ _ c.pair-p.ensures) ∙ c.if-p-r.false in (
      omega (arith, c.loop-i.invariant.0),
      removing_next _ _ _ (within) c.requires.pairs_in_order.0 _ _ _ _ c.loop-i.invariant.1 (below) (of_rule) _ _ _ _
          (weak_read _ _ _ _ c.pair-p.ensures) c.lower-last.ensures.0 c.lower-last.ensures.1 (omega (arith, c.loop-i.invariant.1.places)),
    )

pub returns : goal.returns
unfolding theory_in
returns c =
    let within : c.args.next < length c.args.queue.now = omega (arith) in (
      c.loop-i.invariant.1.ahead,
      c.loop-i.invariant.1.most,
      removing_end _ _ _ (within) c.requires.pairs_in_order.0 _ _ _ _ c.loop-i.invariant.1 _ c.requires.pairs_in_order.1 c.loop-i.invariant.0 (λ h _. absurd (omega arith)),
    )
