-- The loop's invariant: the rules of the uses passed were tried.
use Rattle.table.specs.Tables.{theory_said}
use Rattle.engine.specs.Lines.{Lent}
use Rattle.engine.proofs.run.Users.{Using}
use Rattle.engine.proofs.lines.Lines.try_uses.Given as goal

abbrev pub invariant-loop-k : goal.invariant-loop-k
invariant-loop-k l = record {
  tried : Using (theory_said l.initial.self.table) l.definite l.p l.initial.self.mem.now l.initial.self.log.now l.initial.self.count l.uses.first l.self.mem.now l.self.log.now l.self.count l.k;
  lent : Lent l.initial.self l.self;
}
