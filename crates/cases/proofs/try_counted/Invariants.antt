-- `cases::try_counted`: no more records are counted than are passed.
use Rattle.std.proofs.Common.{◌≤◌}
use Rattle.cases.proofs.try_counted.Given as goal

abbrev pub invariant-loop-number : goal.invariant-loop-number
invariant-loop-number g l = (l.same ≤ l.number-counter) × (l.records ≤ l.number-counter)
