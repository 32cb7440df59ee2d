-- `memory::visit::visit_definite` meets its contract. Assumes nothing.
use native.Mathlib.Omega.{arith}
use mathlib.Core.Path.{◌∙◌}
use Rattle.table.specs.Format.{theory_in}
use Rattle.memory.proofs.visit.Steps.{definite_end, definite_small, undecided}
use Rattle.memory.proofs.visit.visit_definite.Goals as goal

pub returns-then-not-reaches : goal.returns-then-not-reaches
unfolding theory_in
returns-then-not-reaches c =
    undecided _ _ _ _ _ (omega (arith, c.requires.well_formed.3)) c.requires.well_formed.2 c.requires.well_formed.1 c.requires.well_formed.4 c.reaches.ensures.0 c.reaches.ensures.1
    c.if-not-reaches.true

pub bump_if-requires : goal.bump_if-requires
unfolding theory_in
bump_if-requires c =
    definite_small _ _ _ _ _ (omega (arith, c.requires.well_formed.3)) c.requires.well_formed.2 c.requires.well_formed.1 c.requires.well_formed.4 c.reaches.ensures.0 c.reaches.ensures.1
    c.if-not-reaches.false (c.from-head.ensures ∙ c.load.ensures) c.is_strict_by-strict.ensures c.requires.well_formed.0 c.requires.well_formed.3

pub returns : goal.returns
unfolding theory_in
returns c =
    definite_end _ _ _ _ _ (omega (arith, c.requires.well_formed.3)) c.requires.well_formed.2 c.requires.well_formed.1 c.requires.well_formed.4 c.reaches.ensures.0 c.reaches.ensures.1
    c.if-not-reaches.false (c.from-head.ensures ∙ c.load.ensures) c.is_strict_by-strict.ensures _ c.requires.well_formed.3 c.bump_if.ensures
