-- The loop's invariant: what is left of the run from here is the run. The measure: each turn adds a line, or one more search was idle, or the
-- loop is left.
use Prim.Native.Nat.{◌+◌, ◌-◌, ◌*◌}
use Rattle.logic.specs.Tests.{weigh}
use Rattle.table.specs.Tables.{theory_said}
use Rattle.engine.specs.Lines.{Lent}
use Rattle.engine.proofs.run.Rounds.{Turns}
use Rattle.engine.proofs.lines.Lines.work.Given as goal

abbrev pub invariant-loop-more : goal.invariant-loop-more
invariant-loop-more l = record {
  turns : Turns l.reading (theory_said l.initial.self.table) l.budget l.initial.self.mem.now l.initial.self.log.now l.initial.self.count l.self.mem.now l.self.log.now l.self.count l.tally l.idle l.more;
  lent : Lent l.initial.self l.self;
}

abbrev pub decreases-loop-more : goal.decreases-loop-more
decreases-loop-more l = (4 * (theory_said l.initial.self.table).atoms - l.self.count) * 3 + (2 - l.idle) + weigh l.more 1
