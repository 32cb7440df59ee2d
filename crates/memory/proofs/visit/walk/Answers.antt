-- `memory::visit::walk` meets its contract. The loop's invariant is `Walking` of proofs/visit/Walks.antt: of the rule's own pairs those below `i` are notified. Assumes nothing.
use Rattle.table.proofs.Pairs.{strong_read, weak_read}
use Rattle.memory.proofs.visit.Walks.{opposite_is, turn_asks, turn_next, walk_end, walk_start}
use native.Mathlib.Omega.{arith}
use mathlib.Core.Path.{◌∙◌, sym}
use Rattle.table.specs.Format.{theory_in}
use Rattle.memory.proofs.visit.walk.Goals as goal

pub loop-i-init : goal.loop-i-init
loop-i-init c =
    walk_start _ _ _ _ _ c.requires.reached.0 c.requires.reached.1 (c.from-first.ensures ∙ c.load-2.ensures)

pub returns-then-from-r : goal.returns-then-from-r
unfolding theory_in
returns-then-from-r c = (
  c.loop-i.invariant.unchanged,
  walk_end _ c.requires.well_formed.0 _ _ _ _ _ c.loop-i.invariant
      (λ _ e. c.if-from-r.true (c.from.ensures ∙ strong_read _ _ _ _ c.read_pair-p.ensures ∙ e)),
)

pub notify-requires : goal.notify-requires
unfolding theory_in
notify-requires c =
    let h = (turn_asks _ c.requires.well_formed.0 _ _ _ _ _ c.loop-i.invariant _ c.requires.well_formed.2 c.requires.well_formed.3 (omega (arith, c.loop-i-test.true, c.from-i-end.ensures))
    (sym (strong_read _ _ _ _ c.read_pair-p.ensures) ∙ sym c.from.ensures ∙ c.if-from-r.false)
    (c.from-in-loop-i.ensures ∙ weak_read _ _ _ _ c.read_pair-p.ensures)) in record { x_lt_field_size = h.0; x_bound = h.1 }

pub loop-i-preserved : goal.loop-i-preserved
unfolding theory_in
loop-i-preserved c =
    turn_next _ c.requires.well_formed.0 _ _ _ _ _ c.loop-i.invariant _ c.requires.well_formed.2 c.requires.well_formed.3 (omega (arith, c.loop-i-test.true, c.from-i-end.ensures))
    (sym (strong_read _ _ _ _ c.read_pair-p.ensures) ∙ sym c.from.ensures ∙ c.if-from-r.false)
    (c.from-in-loop-i.ensures ∙ weak_read _ _ _ _ c.read_pair-p.ensures) c.requires.well_formed.4 _
    (opposite_is _ _ _ _ _ _ _ _ c.requires.reached.1 c.requires.well_formed.1 c.load.ensures c.complement-opposite.ensures c.from-q.ensures) _
    c.notify.ensures

pub returns : goal.returns
unfolding theory_in
returns c =
    (c.loop-i.invariant.unchanged, walk_end _ c.requires.well_formed.0 _ _ _ _ _ c.loop-i.invariant (λ h _. absurd (omega (arith, c.loop-i-test.false, c.from-i-end.ensures))))
