-- `standing::stands::standing_by` meets its contract. The loop's invariant: what the entries passed say. Assumes nothing.
use native.Mathlib.Omega.{arith}
use mathlib.Core.Path.{◌≡◌, refl, ◌∙◌, ap}
use Rattle.logic.specs.Tests.{some}
use Rattle.logic.proofs.Tests.{some_next}
use Rattle.standing.proofs.Bodies.{lacks, lacks_read, refutes, refutes_read, standing_read}
use Rattle.standing.proofs.stands.standing_by.Goals as goal

pub loop-i-init : goal.loop-i-init
unfolding some
loop-i-init c = record { plus = refl; minus = refl }

pub loop-i-preserved : goal.loop-i-preserved
loop-i-preserved c =
    let args = c.args in
    record {
      plus =
          some_next (lacks args.table.layout.now args.table.sizes args.rule args.marks.now) c.loop-i.i c.loop-i.invariant.plus
          (lacks_read _ _ _ _ _ c.entry-e.ensures c.has_line-proved.ensures (rw c.from.ensures at c.both.ensures)) c.either-lacking.ensures;
      minus =
          some_next (refutes args.table.layout.now args.table.sizes args.rule args.marks.now) c.loop-i.i c.loop-i.invariant.minus
          (refutes_read _ _ _ _ _ c.entry-e.ensures c.has_line.ensures (rw c.from.ensures at c.both-in-loop-i.ensures)) c.either-refuted.ensures;
    }

pub returns : goal.returns
returns c =
    let args = c.args in
    let i : c.loop-i.i ≡ args.table.sizes.entries = omega arith in
    standing_read args.table.layout.now args.table.sizes args.rule args.marks.now
    (c.loop-i.invariant.plus ∙ ap (λ n. some n (lacks args.table.layout.now args.table.sizes args.rule args.marks.now)) i)
    (c.loop-i.invariant.minus ∙ ap (λ n. some n (refutes args.table.layout.now args.table.sizes args.rule args.marks.now)) i) c.first_fit.ensures
