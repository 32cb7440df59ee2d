-- `memory::visit::visit` meets its contract. Assumes nothing.
use native.Mathlib.Omega.{arith}
use mathlib.Core.Path.{◌∙◌, ap, sym}
use Rattle.standing.specs.Answers.{meant}
use Rattle.memory.specs.Memory.{view}
use Rattle.memory.proofs.deciding.Deciding.{to_firing, to_out, to_waiting}
use Rattle.memory.proofs.visit.Accepted.{bump_asks, decides_asks, definite_asks, propagate_asks, visit_decided, visit_undecided}
use Rattle.memory.proofs.visit.visit.Goals as goal

pub visit_definite-requires : goal.visit_definite-requires
visit_definite-requires c =
    let h = (definite_asks _ _ c.args.table.legal _ _ _ c.requires c.if-t-lt2.true) in record { well_formed = h.0; r_lt_field_size = h.1 }

pub decides-next-requires : goal.decides-next-requires
decides-next-requires c = decides_asks _ _ c.args.table.legal _ _ _ c.requires c.if-t-lt2.false

pub bump-requires : goal.bump-requires
bump-requires c = bump_asks _ _ c.args.table.legal _ _ _ c.requires

pub propagate-requires : goal.propagate-requires
unfolding meant
propagate-requires c =
    let args = c.args in
    let to = to_firing (view args.mem.now) args.t args.r (sym c.decides-next.ensures ∙ ap meant c.in-Firing.is) in
    let h = propagate_asks _ _ args.table.legal _ _ _ c.requires _ c.bump.ensures 2 to.1 c.if-t-lt2.false to.0 in record { well_formed = h.0; r_lt_field_size = h.1 }

pub propagate-requires-in-Out : goal.propagate-requires-in-Out
unfolding meant
propagate-requires-in-Out c =
    let args = c.args in
    let to = to_out (view args.mem.now) args.t args.r (sym c.decides-next.ensures ∙ ap meant c.in-Out.is) in
    let h = propagate_asks _ _ args.table.legal _ _ _ c.requires _ c.bump.ensures 3 (omega (arith, to.1, c.if-t-lt2.false, c.requires.2)) c.if-t-lt2.false to.0 in record { well_formed = h.0; r_lt_field_size = h.1 }

pub returns-in-Firing : goal.returns-in-Firing
returns-in-Firing c =
    visit_decided _ _ c.args.table.legal _ _ _ c.requires _ c.bump.ensures _ c.propagate.ensures

pub returns-in-Out : goal.returns-in-Out
returns-in-Out c =
    visit_decided _ _ c.args.table.legal _ _ _ c.requires _ c.bump.ensures _ c.propagate-in-Out.ensures

pub returns-in-Waiting : goal.returns-in-Waiting
unfolding meant
returns-in-Waiting c =
    let args = c.args in
    visit_undecided _ _ c.args.table.legal _ _ _ c.requires _ c.bump.ensures c.if-t-lt2.false
    (to_waiting (view args.mem.now) args.t args.r (sym c.decides-next.ensures ∙ ap meant c.in-Waiting.is))
