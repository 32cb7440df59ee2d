-- `standing::standings::standings_of` meets its contract. The loop's invariant: what the entries passed say of each rule. Assumes nothing.
use mathlib.Core.Path.{refl}
use native.Mathlib.Omega.{arith}
use Rattle.standing.proofs.Marking.{some_marked_next, some_marked_none}
use Rattle.standing.proofs.Bodies.{lacks, lacks_read, refutes, refutes_read, stood}
use Rattle.standing.proofs.standings.standings_of.Goals as goal

pub loop-i-init : goal.loop-i-init
loop-i-init c =
    let args = c.args in
    record {
      plus = some_marked_none (λ r. lacks args.layout.now args.s r args.marks.now) 1024;
      minus = some_marked_none (λ r. refutes args.layout.now args.s r args.marks.now) 1024;
    }

pub loop-i-preserved : goal.loop-i-preserved
loop-i-preserved c =
    let args = c.args in let i = c.loop-i.i in
    record {
      plus =
          some_marked_next (λ r. lacks args.layout.now args.s r args.marks.now) i _ _
          (λ r. lacks_read args.layout.now args.s r args.marks.now i c.read_entry-e.ensures c.has_line-proved.ensures refl)
          c.loop-i.invariant.plus c.mark.auto.marks c.mark.ensures;
      minus =
          some_marked_next (λ r. refutes args.layout.now args.s r args.marks.now) i _ _
          (λ r. refutes_read args.layout.now args.s r args.marks.now i c.read_entry-e.ensures c.has_line.ensures refl)
          c.loop-i.invariant.minus c.mark-in-loop-i.auto.marks c.mark-in-loop-i.ensures;
    }

pub returns : goal.returns
returns c = stood c.args.layout.now c.args.s c.args.marks.now (omega arith) c.loop-i.invariant.plus c.loop-i.invariant.minus
