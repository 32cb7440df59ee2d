-- `memory::prepare::start_rule` meets its contract. Assumes nothing.
use native.Mathlib.Omega.{arith}
use mathlib.Core.Path.{◌∙◌, refl, sym}
use Rattle.logic.proofs.Tests.{of_true}
use Rattle.memory.proofs.visit.Accepted.{bump_asks, definite_asks, propagate_asks, standing_asks, start_decides, visit_decided, visit_undecided}
use Rattle.memory.proofs.index.Starting.{first_asks, second_asks, started_next}
use Rattle.memory.proofs.prepare.start_rule.Goals as goal

pub visit_definite-requires : goal.visit_definite-requires
visit_definite-requires c =
    let h = (definite_asks _ _ c.args.table.legal _ _ _ (first_asks _ _ _ c.requires.0 c.requires.1) (omega arith)) in record { well_formed = h.0; r_lt_field_size = h.1 }

pub bump-requires : goal.bump-requires
bump-requires c =
    bump_asks _ _ c.args.table.legal _ _ _ (second_asks _ _ _ c.requires.0 c.requires.1 c.visit_definite.ensures)

pub standing-requires : goal.standing-requires
standing-requires c =
    standing_asks _ _ c.args.table.legal _ _ _ (second_asks _ _ _ c.requires.0 c.requires.1 c.visit_definite.ensures) _ c.bump.ensures

pub propagate-requires : goal.propagate-requires
propagate-requires c =
    let asks = second_asks _ _ _ c.requires.0 c.requires.1 c.visit_definite.ensures in
    let decides = start_decides _ _ c.args.table.legal _ _ asks _ c.bump.ensures _ c.standing.ensures in
    let h = propagate_asks _ _ c.args.table.legal _ _ _ asks _ c.bump.ensures 2 refl (omega arith) (of_true _ (sym decides ∙ sym c.eq.ensures ∙ c.if-eq.true)) in
    record { well_formed = h.0; r_lt_field_size = h.1 }

pub returns-then-eq : goal.returns-then-eq
returns-then-eq c =
    started_next _ _ _ c.requires.0 c.visit_definite.ensures
    (visit_decided _ _ c.args.table.legal _ _ _ (second_asks _ _ _ c.requires.0 c.requires.1 c.visit_definite.ensures) _ c.bump.ensures _ c.propagate.ensures)

-- a rule that does not fire once it is visited is not decided by it
pub returns-else-eq : goal.returns-else-eq
returns-else-eq c =
    let asks = second_asks _ _ _ c.requires.0 c.requires.1 c.visit_definite.ensures in
    let decides = start_decides _ _ c.args.table.legal _ _ asks _ c.bump.ensures _ c.standing.ensures in
    started_next _ _ _ c.requires.0 c.visit_definite.ensures
    (visit_undecided _ _ c.args.table.legal _ _ _ asks _ c.bump.ensures (omega arith) (sym decides ∙ sym c.eq.ensures ∙ c.if-eq.false))
