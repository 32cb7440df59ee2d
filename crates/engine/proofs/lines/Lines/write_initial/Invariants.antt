-- The loop's invariant: the literals passed were tried.
use Rattle.logic.specs.Tests.{upto}
use Rattle.logic.specs.Reading.{with_tags}
use Rattle.table.specs.Tables.{theory_said}
use Rattle.engine.specs.Working.{Tried}
use Rattle.engine.specs.Lines.{Lent}
use Rattle.memory.specs.Layout.{tag_count}
use Rattle.engine.proofs.lines.Lines.write_initial.Given as goal

abbrev pub invariant-loop-q : goal.invariant-loop-q
invariant-loop-q l = record {
  tried : Tried (theory_said l.initial.self.table) (with_tags tag_count (upto l.q)) l.initial.self.mem.now l.initial.self.log.now 0 l.self.mem.now l.self.log.now l.self.count;
  lent : Lent l.initial.self l.self;
}
