-- The loop's invariant: what is left of the run from here is what was left at the start. The measure is the number of lines that there
-- can be, less those processed.
use Prim.Native.Nat.{◌-◌, ◌*◌}
use Rattle.table.specs.Tables.{theory_said}
use Rattle.engine.specs.Lines.{Lent}
use Rattle.engine.proofs.run.Worklist.{Stands}
use Rattle.memory.specs.Layout.{tag_count}
use Rattle.engine.proofs.lines.Lines.work_lines.Given as goal

abbrev pub invariant-loop-tally : goal.invariant-loop-tally
invariant-loop-tally l = record {
  stands : Stands (theory_said l.initial.self.table) l.budget l.initial.self.mem.now l.initial.self.log.now l.initial.self.count l.initial.tally l.self.mem.now l.self.log.now l.self.count l.tally;
  lent : Lent l.initial.self l.self;
}

abbrev pub decreases-loop-tally : goal.decreases-loop-tally
decreases-loop-tally l = tag_count * l.initial.self.table.sizes.atoms - l.tally.worked
