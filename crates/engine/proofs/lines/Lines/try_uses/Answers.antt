-- `Lines::try_uses` meets its contract. The loop's invariant: the rules of the uses passed were tried. Assumes nothing.
use native.Mathlib.Omega.{arith}
use mathlib.Core.Path.{ap}
use mathlib.Core.List.{[], ◌∷◌}
use Rattle.logic.specs.Reading.{with_tags}
use Rattle.memory.specs.Layout.{tag_count}
use Rattle.engine.specs.Working.{heads_if}
use Rattle.engine.proofs.run.Lending.{lent_none, lent_then}
use Rattle.engine.proofs.run.Trying.{rules_in, tried_of}
use Rattle.engine.proofs.run.Users.{use_below, using_end, using_next, using_start}
use Rattle.engine.proofs.lines.Lines.try_uses.Goals as goal

pub loop-k-init : goal.loop-k-init
loop-k-init c = record { tried = using_start c.requires.1 c.args.self.now.logged; lent = lent_none }

pub try_rule-requires : goal.try_rule-requires
try_rule-requires c =
    let table = c.args.self.now.table in
    omega
    (arith, rules_in table, use_below c.requires.1 c.loop-k.invariant.tried c.loop-k-test.true c.user_at-r.ensures, ap (λ t. t.sizes.rules) c.loop-k.invariant.lent.table)

pub loop-k-preserved : goal.loop-k-preserved
loop-k-preserved c =
    let lent = c.try_rule.ensures.lent in record {
      tried =
          using_next c.requires.1 c.loop-k.invariant.tried c.loop-k-test.true c.user_at-r.ensures
          (tried_of (λ d. with_tags tag_count (heads_if d c.args.definite (c.user_at-r.result ∷ []))) c.loop-k.invariant.lent.table c.try_rule.ensures.tried);
      lent = lent_then c.loop-k.invariant.lent (record { table = lent.table; mem = lent.mem; log = lent.log });
    }

pub returns-clause-tried : goal.returns-clause-tried
returns-clause-tried c = using_end c.requires.1 c.loop-k.invariant.tried c.loop-k-test.false
