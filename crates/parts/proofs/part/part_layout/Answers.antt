-- `parts::part::part_layout` meets its contract. Assumes nothing.
use native.Mathlib.Omega.{arith}
use Rattle.writing.proofs.Filing.{mark_small, span_small, file_bytes}
use Rattle.parting.specs.Parting.{part_of}
use Rattle.parts.specs.Kept.{content_said}
use Rattle.parts.proofs.Rows.{part_fits}
use Rattle.parts.proofs.Calling.{output_short, file_whole}
use Rattle.parts.proofs.part.part_layout.Goals as goal

pub overflow_add-bytes : goal.overflow_add-bytes
overflow_add-bytes c = record { fits = omega (arith, mark_small c.args.edition c.mark_bytes.ensures) }

pub overflow_add-bytes-2 : goal.overflow_add-bytes-2
overflow_add-bytes-2 c =
    let args = c.args in let t = args.table in let small = part_fits t.layout.now t.sizes args.atom t.legal c.sizes-sizes.ensures in
    record { fits = omega (arith, mark_small args.edition c.mark_bytes.ensures, span_small _ small c.span.ensures) }

pub returns-then-out-bytes : goal.returns-then-out-bytes
returns-then-out-bytes c =
    let args = c.args in let t = args.table in
    output_short args.edition t.layout.now t.sizes args.atom args.out.now (omega arith)
    (file_bytes args.edition (part_of (content_said t) args.atom) _ c.sizes-sizes.ensures c.mark_bytes.ensures c.span.ensures) c.if-out-bytes.true
    c.refuse-then-out-bytes.ensures

pub overflow_cast-result : goal.overflow_cast-result
overflow_cast-result c =
    let args = c.args in let t = args.table in let small = part_fits t.layout.now t.sizes args.atom t.legal c.sizes-sizes.ensures in
    record { fits = omega (arith, mark_small args.edition c.mark_bytes.ensures, span_small _ small c.span.ensures) }

pub returns : goal.returns
returns c =
    let args = c.args in let t = args.table in
    file_whole args.edition t.layout.now t.sizes args.atom args.out.now (omega arith)
    (file_bytes args.edition (part_of (content_said t) args.atom) _ c.sizes-sizes.ensures c.mark_bytes.ensures c.span.ensures) c.if-out-bytes.false
    c.write_file.ensures
