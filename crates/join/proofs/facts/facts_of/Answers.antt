-- `join::facts::facts_of` meets its contract. The loop's invariant: the facts passed are marked. Assumes nothing.
use native.Mathlib.Omega.{arith}
use mathlib.Core.Path.{◌≡◌, ◌∙◌, ap, subst}
use mathlib.Core.Bool.{true}
use lib.Dec.{eqb}
use Rattle.logic.specs.Tests.{some}
use Rattle.logic.proofs.Tests.{and_true}
use Rattle.table.specs.Format.{fact_at, theory_in}
use Rattle.standing.specs.Marks.{MarkedBy}
use Rattle.standing.proofs.Marking.{some_marked_next, some_marked_none}
use Rattle.join.proofs.facts.facts_of.Goals as goal

pub loop-i-init : goal.loop-i-init
loop-i-init c =
    let args = c.args in some_marked_none (λ q k. eqb (fact_at args.table.layout.now args.table.sizes k).0 q) 1024

pub loop-i-preserved : goal.loop-i-preserved
loop-i-preserved c =
    let args = c.args in
    some_marked_next (λ q k. eqb (fact_at args.table.layout.now args.table.sizes k).0 q) c.loop-i.i _ true
    (λ q. and_true _ true tt ∙ ap (λ x. eqb x.0 q) c.fact.ensures) c.loop-i.invariant c.mark.auto.marks c.mark.ensures

pub returns : goal.returns
unfolding theory_in
returns c =
    let args = c.args in
    subst (λ n. MarkedBy (λ q. some n (λ k. eqb (fact_at args.table.layout.now args.table.sizes k).0 q)) 1024 c.loop-i.marks)
    (let e : c.loop-i.i ≡ args.table.sizes.facts = omega arith in e) c.loop-i.invariant
