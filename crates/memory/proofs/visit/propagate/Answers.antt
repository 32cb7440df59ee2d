-- `memory::visit::propagate` meets its contract. Assumes nothing.
use native.Mathlib.Omega.{arith}
use Rattle.table.specs.Format.{theory_in}
use Rattle.memory.proofs.visit.Steps.{count_asks, propagate_end, propagate_notified, propagate_walk}
use Rattle.memory.proofs.visit.propagate.Goals as goal

pub count_decided-requires : goal.count_decided-requires
unfolding theory_in
count_decided-requires c =
    let h = (count_asks _ _ _ _ (c.requires.well_formed, c.requires.r_lt_field_size)) in record { r_lt_field_size = h.0; r_bound = h.1 }

pub returns-then-not-count_decided : goal.returns-then-not-count_decided
unfolding theory_in
returns-then-not-count_decided c = propagate_end _ _ _ _ (c.requires.well_formed, c.requires.r_lt_field_size) _ c.count_decided.ensures c.if-not-count_decided.true

pub walk-requires : goal.walk-requires
unfolding theory_in
walk-requires c =
    let h = (propagate_walk _ _ _ _ (c.requires.well_formed, c.requires.r_lt_field_size) _ c.count_decided.ensures 2 c.if-t-eq2.true c.if-not-count_decided.false) in record { well_formed = h.0; reached = h.1.0; r_lt_field_size = h.1.1 }

pub walk-requires-else-t-eq2 : goal.walk-requires-else-t-eq2
unfolding theory_in
walk-requires-else-t-eq2 c =
    let h = (propagate_walk _ _ _ _ (c.requires.well_formed, c.requires.r_lt_field_size) _ c.count_decided.ensures 3 (omega (arith, c.if-t-eq2.false, c.requires.well_formed.3, c.requires.well_formed.4)) c.if-not-count_decided.false) in record { well_formed = h.0; reached = h.1.0; r_lt_field_size = h.1.1 }

pub returns-then-t-eq2 : goal.returns-then-t-eq2
unfolding theory_in
returns-then-t-eq2 c =
    propagate_notified _ _ _ _ (c.requires.well_formed, c.requires.r_lt_field_size) _ c.count_decided.ensures _ c.if-not-count_decided.false c.walk.ensures

pub returns-else-t-eq2 : goal.returns-else-t-eq2
unfolding theory_in
returns-else-t-eq2 c =
    propagate_notified _ _ _ _ (c.requires.well_formed, c.requires.r_lt_field_size) _ c.count_decided.ensures _ c.if-not-count_decided.false c.walk-else-t-eq2.ensures
