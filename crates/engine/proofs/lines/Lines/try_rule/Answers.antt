-- `Lines::try_rule` meets its contract. Assumes nothing.
use Rattle.table.proofs.Legal.{limited}
use Rattle.engine.proofs.run.Users.{head_small, rule_skipped, rule_visited}
use Rattle.engine.proofs.lines.Lines.try_rule.Goals as goal

pub is_strict-requires : goal.is_strict-requires
is_strict-requires c = let lines = c.args.self.now in (lines.logged.ready, c.requires, (limited _ lines.table.legal.limits).rules)

pub head_of-head-requires : goal.head_of-head-requires
head_of-head-requires c = let lines = c.args.self.now in (lines.logged.ready, c.requires, (limited _ lines.table.legal.limits).rules)

pub try_both-requires : goal.try_both-requires
try_both-requires c =
    head_small c.args.self.now.table _ _ c.requires c.head_of-head.ensures

pub returns-then-visits-clause-tried : goal.returns-then-visits-clause-tried
returns-then-visits-clause-tried c =
    rule_visited _ c.args.definite _ _ _ c.visits.ensures c.is_strict.ensures c.if-visits.true _
    c.head_of-head.ensures c.try_both.ensures.tried

pub returns-else-visits-clause-tried : goal.returns-else-visits-clause-tried
returns-else-visits-clause-tried c =
    rule_skipped _ c.args.definite _ _ _ c.visits.ensures c.is_strict.ensures c.if-visits.false _ _ _ c.args.self.now.logged
