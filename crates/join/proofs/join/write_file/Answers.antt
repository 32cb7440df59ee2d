-- `join::join::write_file` meets its contract. Assumes nothing.
use native.Mathlib.Omega.{arith}
use mathlib.Core.Path.{ap}
use Rattle.files.specs.Contents.{content_in}
use Rattle.joining.specs.Joining.{joined}
use Rattle.writing.proofs.Filing.{mark_small, span_small, file_written}
use Rattle.join.proofs.join.write_file.Goals as goal

pub write_sizes-requires : goal.write_sizes-requires
write_sizes-requires c = omega (arith, mark_small c.args.edition c.begin-from.ensures.0)

pub overflow_add-left : goal.overflow_add-left
overflow_add-left c = record { fits = omega (arith, mark_small c.args.edition c.begin-from.ensures.0) }

pub overflow_add-right : goal.overflow_add-right
overflow_add-right c =
    record { fits = omega (arith, span_small _ c.requires.1 c.span.ensures, mark_small c.args.edition c.begin-from.ensures.0) }

pub write_side-requires : goal.write_side-requires
write_side-requires c = (omega (arith, mark_small c.args.edition c.begin-from.ensures.0), ap (λ z. z.facts) c.requires.0)

pub write_side-requires-2 : goal.write_side-requires-2
write_side-requires-2 c =
    (omega (arith, mark_small c.args.edition c.begin-from.ensures.0, span_small _ c.requires.1 c.span.ensures), ap (λ z. z.facts) c.requires.0)

pub returns : goal.returns
returns c =
    let args = c.args in let house = args.both.house in let tour = args.both.tour in
    file_written args.edition (joined (content_in house.layout.now house.sizes) (content_in tour.layout.now tour.sizes)) args.out.now args.sizes _ _ _ c.requires.0 c.span.ensures
    c.begin-from.ensures c.write_sizes.ensures c.write_side.ensures c.write_side-2.ensures
