-- `report::support::supported_by` meets its contract. The loop's invariant: what the rules passed say of each literal.
use native.Mathlib.Omega.{arith}
use mathlib.Core.Path.{◌≡◌, ◌∙◌, ap}
use mathlib.Core.Bool.{not}
use Rattle.logic.specs.Tests.{◌and◌}
use Rattle.logic.specs.Standing.{is_out}
use Rattle.table.specs.Format.{theory_in}
use Rattle.standing.proofs.Marking.{some_marked_next, some_marked_none}
use Rattle.report.specs.Printing.{live_supporter}
use Rattle.report.proofs.Supporters.{stands, live_supporter_read, all_supported}
use Rattle.report.proofs.support.supported_by.Goals as goal
use Rattle.report.proofs.support.supported_by.Goals.{then-can_support, else-can_support}

pub loop-r-init : goal.loop-r-init
loop-r-init c = some_marked_none _ 1024

pub loop-r-preserved : goal.loop-r-preserved
unfolding ◌and◌
loop-r-preserved c =
    let args = c.args in
    let stand = stands args.lacking.now args.refuted.now in
    let test : c.if-can_support.mark ≡ (c.can_support.result and not c.is_out-out.result) =
    elim c.if-can_support.branch [ then-can_support w ↦ simp (w.if-can_support.true) w.mark-is | else-can_support w ↦ simp (w.if-can_support.false) (w.mark-is ∙ w.if-can_support.false) ]
    in
    some_marked_next (live_supporter (theory_in args.table.layout.now args.table.sizes) stand) c.loop-r.r _ _
    (live_supporter_read args.table.layout.now args.table.sizes stand c.loop-r.r c.rule-rule.ensures c.can_support.ensures
    (c.is_out-out.ensures ∙ ap is_out c.standing_at.ensures) test)
    c.loop-r.invariant c.mark.auto.marks c.mark.ensures

pub returns : goal.returns
returns c =
    let args = c.args in
    all_supported args.table.layout.now args.table.sizes (stands args.lacking.now args.refuted.now) (omega arith) c.loop-r.invariant
