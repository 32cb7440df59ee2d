-- The loop's invariant: what was found of the literals passed is written.
use Rattle.table.specs.Tables.{theory_said}
use Rattle.engine.specs.Lines.{Lent}
use Rattle.engine.proofs.run.Rounds.{FoundUpTo}
use Rattle.engine.proofs.lines.Lines.write_found.Given as goal

abbrev pub invariant-loop-q : goal.invariant-loop-q
invariant-loop-q l = record {
  found : FoundUpTo (theory_said l.initial.self.table) l.i l.q l.initial.self.mem.now l.initial.self.log.now l.initial.self.count l.self.mem.now l.self.log.now l.self.count;
  lent : Lent l.initial.self l.self;
}
