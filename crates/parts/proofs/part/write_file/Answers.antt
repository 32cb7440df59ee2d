-- `parts::part::write_file` meets its contract. Assumes nothing.
use native.Mathlib.Omega.{arith}
use Rattle.writing.proofs.Filing.{mark_small, span_small, file_written}
use Rattle.parting.specs.Parting.{part_of}
use Rattle.parts.specs.Kept.{content_said}
use Rattle.parts.proofs.Rows.{part_fits}
use Rattle.parts.proofs.part.write_file.Goals as goal

pub write_sizes-requires : goal.write_sizes-requires
write_sizes-requires c = omega (arith, mark_small c.args.edition c.begin-from.ensures.0)

pub overflow_add-left : goal.overflow_add-left
overflow_add-left c = record { fits = omega (arith, mark_small c.args.edition c.begin-from.ensures.0) }

pub overflow_add-right : goal.overflow_add-right
overflow_add-right c =
    let p = c.args.part in let small = part_fits p.table.layout.now p.table.sizes p.atom p.table.legal c.requires in
    record { fits = omega (arith, mark_small c.args.edition c.begin-from.ensures.0, span_small _ small c.span.ensures) }

pub write_side-requires : goal.write_side-requires
write_side-requires c = omega (arith, mark_small c.args.edition c.begin-from.ensures.0)

pub write_side-requires-2 : goal.write_side-requires-2
write_side-requires-2 c =
    let p = c.args.part in let small = part_fits p.table.layout.now p.table.sizes p.atom p.table.legal c.requires in
    omega (arith, mark_small c.args.edition c.begin-from.ensures.0, span_small _ small c.span.ensures)

pub returns : goal.returns
returns c =
    let p = c.args.part in
    file_written c.args.edition (part_of (content_said p.table) p.atom) c.args.out.now c.args.sizes _ _ _ c.requires c.span.ensures c.begin-from.ensures
    c.write_sizes.ensures c.write_side.ensures c.write_side-2.ensures
