-- `memory::visit::notify` meets its contract. Assumes nothing.
use mathlib.Core.Path.{◌∙◌}
use Rattle.memory.proofs.visit.Steps.{next_small, notified, rival_asks, rival_raised, unnotified}
use Rattle.memory.proofs.visit.notify.Goals as goal

pub returns-then-head-q : goal.returns-then-head-q
returns-then-head-q c = unnotified _ _ _ _ _ (c.from-head.ensures ∙ c.load.ensures) c.if-head-q.true

pub reached_by_rival-turns-requires : goal.reached_by_rival-turns-requires
reached_by_rival-turns-requires c =
    rival_asks c.args.q _ _ _ _ (c.from-head.ensures ∙ c.load.ensures) c.requires.x_lt_field_size.2 c.requires.x_lt_field_size.0 c.requires.x_lt_field_size.3 _ c.bump.ensures c.requires.x_lt_field_size.1 c.requires.x_lt_field_size.4

pub bump_if-requires : goal.bump_if-requires
bump_if-requires c =
    let e = c.from-head.ensures ∙ c.load.ensures in
    next_small _ _ _ _ _ _ c.requires.x_lt_field_size.2 c.requires.x_lt_field_size.3 e (rival_raised c.args.q _ _ _ _ e c.requires.x_lt_field_size.2 c.requires.x_lt_field_size.0 c.requires.x_lt_field_size.3 _ c.bump.ensures) c.requires.x_bound

pub returns : goal.returns
returns c =
    notified _ _ _ _ _ (c.from-head.ensures ∙ c.load.ensures) c.requires.x_lt_field_size.2 c.requires.x_lt_field_size.0 c.requires.x_lt_field_size.3 _ c.bump.ensures c.if-head-q.false _ _
    c.reached_by_rival-turns.ensures c.bump_if.ensures
