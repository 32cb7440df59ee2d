-- `convert::convert::convert` meets its contract. Assumes nothing.
use mathlib.Core.Path.{◌∙◌, refl, ap}
use Rattle.std.specs.Prelude.{Err}
use Rattle.std.proofs.lemmas.Result.{err_from_is_err_and}
use Rattle.convert.proofs.Converting.{converted_not, converted_two, converted_old}
use Rattle.convert.proofs.convert.convert.Goals as goal

pub returns-in_err-accepted : goal.returns-in_err-accepted
returns-in_err-accepted c =
    let args = c.args in let (_, p, q) = err_from_is_err_and c.from_residual.result c.from_residual.ensures.1 in
    converted_not args.edition args.table.now args.out.now _ _ (λ i. (c.type_inv.table i).fits) _ c.in_err-accepted.ensures (p ∙ ap Err q, refl)

pub returns-in-Old : goal.returns-in-Old
returns-in-Old c =
    let args = c.args in let (g, k) = c.in_ok-accepted.ensures in
    converted_two args.edition args.table.now args.out.now _ _ (λ i. (c.type_inv.table i).fits) _ _ g k c.in-Old.is c.to_two.ensures

pub returns-in-Two : goal.returns-in-Two
returns-in-Two c =
    let args = c.args in let (g, k) = c.in_ok-accepted.ensures in
    converted_old args.edition args.table.now args.out.now _ _ (λ i. (c.type_inv.table i).fits) _ _ g k c.in-Two.is c.to_old.ensures
