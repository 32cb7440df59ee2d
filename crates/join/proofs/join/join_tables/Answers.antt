-- `join::join::join_tables` meets its contract. Assumes nothing.
use native.Mathlib.Omega.{arith}
use mathlib.Core.Path.{◌∙◌, refl, ap}
use Rattle.std.specs.Prelude.{Err}
use Rattle.std.proofs.lemmas.Result.{err_from_is_err_and}
use Rattle.files.specs.Contents.{content_in}
use Rattle.joining.specs.Joining.{joined}
use Rattle.writing.proofs.Filing.{mark_small, span_small, file_bytes}
use Rattle.join.proofs.Calling.{atoms_differ, sizes_large, output_short, file_whole}
use Rattle.join.proofs.join.join_tables.Goals as goal

pub returns-then-house-tour : goal.returns-then-house-tour
returns-then-house-tour c =
    let args = c.args in let house = args.house in let tour = args.tour in
    atoms_differ args.edition house.layout.now house.sizes tour.layout.now tour.sizes args.out.now c.if-house-tour.true c.refuse.ensures

pub returns-in_err-sizes : goal.returns-in_err-sizes
returns-in_err-sizes c =
    let args = c.args in let house = args.house in let tour = args.tour in
    let (_, p, q) = err_from_is_err_and c.from_residual.result c.from_residual.ensures.1 in let (e, f) = c.in_err-sizes.ensures in
    sizes_large args.edition house.layout.now house.sizes tour.layout.now tour.sizes args.out.now c.if-house-tour.false f (p ∙ ap Err (q ∙ e), refl)

pub overflow_add-bytes : goal.overflow_add-bytes
overflow_add-bytes c = record { fits = omega (arith, mark_small c.args.edition c.mark_bytes.ensures) }

pub overflow_add-bytes-2 : goal.overflow_add-bytes-2
overflow_add-bytes-2 c =
    let (_, small) = c.in_ok-sizes.ensures in record { fits = omega (arith, mark_small c.args.edition c.mark_bytes.ensures, span_small _ small c.span.ensures) }

pub returns-then-out-bytes : goal.returns-then-out-bytes
returns-then-out-bytes c =
    let args = c.args in let house = args.house in let tour = args.tour in let (known, small) = c.in_ok-sizes.ensures in
    output_short args.edition house.layout.now house.sizes tour.layout.now tour.sizes args.out.now c.if-house-tour.false _ known small
    (file_bytes args.edition (joined (content_in house.layout.now house.sizes) (content_in tour.layout.now tour.sizes)) _ known c.mark_bytes.ensures c.span.ensures)
    c.if-out-bytes.true c.refuse-then-out-bytes.ensures

pub overflow_cast-result : goal.overflow_cast-result
overflow_cast-result c =
    let (_, small) = c.in_ok-sizes.ensures in record { fits = omega (arith, mark_small c.args.edition c.mark_bytes.ensures, span_small _ small c.span.ensures) }

pub returns : goal.returns
returns c =
    let args = c.args in let house = args.house in let tour = args.tour in let (known, small) = c.in_ok-sizes.ensures in
    file_whole args.edition house.layout.now house.sizes tour.layout.now tour.sizes args.out.now c.if-house-tour.false _ known small
    (file_bytes args.edition (joined (content_in house.layout.now house.sizes) (content_in tour.layout.now tour.sizes)) _ known c.mark_bytes.ensures c.span.ensures)
    c.if-out-bytes.false c.write_file.ensures
