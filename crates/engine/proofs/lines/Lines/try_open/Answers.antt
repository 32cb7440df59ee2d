-- `Lines::try_open` meets its contract. Assumes nothing.
use native.Mathlib.Omega.{arith}
use mathlib.Core.Path.{sym, ◌∙◌}
use Rattle.logic.proofs.Tests.{of_false}
use Rattle.engine.proofs.run.Trying.{few, proper_in, skips, yielded_so, tried_so}
use Rattle.engine.proofs.lines.Lines.try_open.Goals as goal

pub overflow_mul-x : goal.overflow_mul-x
overflow_mul-x c = record { fits = omega (arith, (few c.args.self.now.table).atoms) }

pub overflow_add-x : goal.overflow_add-x
overflow_add-x c = record { fits = omega (arith, (few c.args.self.now.table).atoms) }

pub write_line-requires : goal.write_line-requires
write_line-requires c =
    let l = c.args.self.now in
    (l.logged, omega arith, c.requires.2, yielded_so l.table _ _ _ _ l.logged (omega arith) c.requires.2 (sym c.follows.ensures ∙ c.if-follows.true))

pub returns-then-follows-clause-tried : goal.returns-then-follows-clause-tried
returns-then-follows-clause-tried c =
    let l = c.args.self.now in
    tried_so l.table _ _ _ _ l.logged (omega arith) c.requires.2 (sym c.follows.ensures ∙ c.if-follows.true) c.write_line.ensures

pub returns-else-follows-clause-tried : goal.returns-else-follows-clause-tried
returns-else-follows-clause-tried c =
    skips _ (proper_in c.args.self.now.table) _ _ _ _ c.args.self.now.logged (λ u. absurd (of_false _ (sym c.follows.ensures ∙ c.if-follows.false) u))
