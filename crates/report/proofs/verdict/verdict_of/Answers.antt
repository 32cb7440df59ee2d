-- `report::verdict::verdict_of` meets its contract. Assumes nothing.
use mathlib.Core.Path.{◌∙◌, ap}
use Rattle.logic.specs.Reading.{tagged_by}
use Rattle.standing.specs.Marks.{marked}
use Rattle.report.proofs.Verdicts.{verdict_by_lem}
use Rattle.report.proofs.verdict.verdict_of.Goals as goal

pub returns : goal.returns
returns c =
    let args = c.args in
    c.first_fit.ensures
    ∙ verdict_by_lem (tagged_by 4 (marked args.marks.now)) (marked args.supported.now) args.q.0 _ c.requires c.complement-n.ensures
    c.has_line-proved.ensures c.has_line-opposed.ensures c.has_line-refuted.ensures c.has_line-unopposed.ensures
    (c.is_marked-for_it.ensures ∙ ap (marked args.supported.now) c.from.ensures) (c.is_marked-against_it.ensures ∙ ap (marked args.supported.now) c.from-2.ensures) c.both-clash.ensures c.both-split.ensures
    c.both.ensures c.both-idle.ensures
