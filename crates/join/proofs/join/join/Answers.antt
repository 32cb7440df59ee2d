-- `join::join::join` meets its contract. Assumes nothing.
use mathlib.Core.Path.{◌∙◌, refl, ap}
use Rattle.std.specs.Prelude.{Err}
use Rattle.std.proofs.lemmas.Result.{err_from_is_err_and}
use Rattle.join.proofs.Calling.{joined_by, house_refused, tour_refused, both_accepted}
use Rattle.join.proofs.join.join.Goals as goal

pub returns-in_err-host : goal.returns-in_err-host
returns-in_err-host c =
    let args = c.args in let (_, p, q) = err_from_is_err_and c.from_residual.result c.from_residual.ensures.1 in
    joined_by args.edition args.house.now args.tour.now args.out.now _
    (house_refused args.edition args.house.now args.tour.now args.out.now _ c.in_err-host.ensures (p ∙ ap Err q, refl))

pub returns-in_err-guest : goal.returns-in_err-guest
returns-in_err-guest c =
    let args = c.args in let (_, p, q) = err_from_is_err_and c.from_residual-in_err-guest.result c.from_residual-in_err-guest.ensures.1 in
    joined_by args.edition args.house.now args.tour.now args.out.now _
    (tour_refused args.edition args.house.now args.tour.now args.out.now _ _ c.in_ok-host.ensures.0 c.in_err-guest.ensures (p ∙ ap Err q, refl))

pub returns : goal.returns
returns c =
    let args = c.args in let (h, f) = c.in_ok-host.ensures in let (k, g) = c.in_ok-guest.ensures in
    joined_by args.edition args.house.now args.tour.now args.out.now _
    (both_accepted args.edition args.house.now args.tour.now args.out.now _ _ _ _ h k f g c.join_tables.ensures)
