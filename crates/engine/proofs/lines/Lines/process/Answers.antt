-- `Lines::process` meets its contract. Assumes nothing.
use native.Mathlib.Omega.{arith}
use Rattle.engine.proofs.run.Trying.{atoms_in}
use Rattle.engine.proofs.run.Tallies.{cost_asks, cost_due, stepped_stops, stepped_works}
use Rattle.engine.proofs.lines.Lines.process.Goals as goal

pub uses_of-uses-requires : goal.uses_of-uses-requires
uses_of-uses-requires c =
    let table = c.args.self.now.table in
    (c.requires.logged.ready, omega (arith, atoms_in table, c.requires.small))

pub cost-due-requires : goal.cost-due-requires
cost-due-requires c = cost_asks c.args.self.now.table c.requires c.uses_of-uses.ensures

-- what the next line costs is its due
pub returns-then-budget-spent-clause-stepped : goal.returns-then-budget-spent-clause-stepped
returns-then-budget-spent-clause-stepped c =
    stepped_stops (cost_due c.args.self.now.table c.requires c.uses_of-uses.ensures c.cost-due.ensures) c.if-budget-spent.true

pub try_after-requires-clause-line : goal.try_after-requires-clause-line
try_after-requires-clause-line c =
    let table = c.args.self.now.table in
    (omega (arith, atoms_in table, c.requires.small), c.requires.written, c.requires.new)

pub returns-clause-stepped : goal.returns-clause-stepped
returns-clause-stepped c =
    stepped_works (cost_due c.args.self.now.table c.requires c.uses_of-uses.ensures c.cost-due.ensures) c.if-budget-spent.false
    c.try_after.ensures.processed
