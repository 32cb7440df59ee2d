-- `table::body::part_of` meets its contract. Assumes nothing.
use mathlib.Core.Path.{refl}
use native.Mathlib.Omega.{arith}
use Rattle.table.proofs.Bodies.{read_bound, read_grows, part_read, part_none}
use Rattle.table.proofs.Legal.{whole_length}
use Rattle.table.proofs.body.part_of.Goals as goal

pub overflow_mul-start : goal.overflow_mul-start
overflow_mul-start c = omega (arith, read_bound _ _ _ c.entries_below.ensures)

pub overflow_add-start : goal.overflow_add-start
overflow_add-start c = omega (arith, read_bound _ _ _ c.entries_below.ensures)

pub overflow_mul-end : goal.overflow_mul-end
overflow_mul-end c = omega (arith, read_bound _ _ _ c.entries_below.ensures, read_bound _ _ _ c.entries_below-then-r-n.ensures, read_grows _ _ _ c.entries_below.ensures c.entries_below-then-r-n.ensures)

pub overflow_add-end : goal.overflow_add-end
overflow_add-end c = omega (arith, read_bound _ _ _ c.entries_below.ensures, read_bound _ _ _ c.entries_below-then-r-n.ensures, read_grows _ _ _ c.entries_below.ensures c.entries_below-then-r-n.ensures)

pub slice_bounds-result-count : goal.slice_bounds-result-count
slice_bounds-result-count c = omega (arith, read_bound _ _ _ c.entries_below.ensures, read_bound _ _ _ c.entries_below-then-r-n.ensures, read_grows _ _ _ c.entries_below.ensures c.entries_below-then-r-n.ensures)

pub slice_bounds-result-start : goal.slice_bounds-result-start
slice_bounds-result-start c = omega (arith, read_bound _ _ _ c.entries_below.ensures, read_bound _ _ _ c.entries_below-then-r-n.ensures, read_grows _ _ _ c.entries_below.ensures c.entries_below-then-r-n.ensures)

pub slice_bounds-result-end : goal.slice_bounds-result-end
slice_bounds-result-end c = omega (arith, whole_length _ _ c.args.table.legal.whole, read_bound _ _ _ c.entries_below.ensures, read_bound _ _ _ c.entries_below-then-r-n.ensures, read_grows _ _ _ c.entries_below.ensures c.entries_below-then-r-n.ensures)

pub returns-then-r-n : goal.returns-then-r-n
returns-then-r-n c = part_read _ _ _ _ _ _ c.if-r-n.true c.span.ensures c.entries_below.ensures c.entries_below-then-r-n.ensures refl

pub returns-else-r-n : goal.returns-else-r-n
returns-else-r-n c = part_none _ _ _ c.if-r-n.false
