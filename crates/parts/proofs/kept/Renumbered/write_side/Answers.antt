-- `parts::kept::Renumbered::write_side` meets its contract. Assumes nothing.
use native.Mathlib.Omega.{arith}
use Rattle.table.proofs.Legal.{limited}
use Rattle.parts.specs.declared.kept.Section.TheVariants.{Facts, Rules, Entries}
use Rattle.parts.specs.Kept.{content_said, size_of}
use Rattle.parts.proofs.Rows.{sections_written, rows_few}
use Rattle.parts.proofs.kept.Renumbered.write_side.Goals as goal

pub write_kept-at-requires-2 : goal.write_kept-at-requires-2
unfolding size_of
write_kept-at-requires-2 c =
    let p = c.args.self.now.part in let t = p.table in let few = limited t.sizes t.legal.limits in
    omega (arith, few.facts, c.write_kept-at.ensures.0, rows_few t.layout.now t.sizes p.atom Facts)

pub write_kept-at-requires-3 : goal.write_kept-at-requires-3
unfolding size_of
write_kept-at-requires-3 c =
    let p = c.args.self.now.part in let t = p.table in let few = limited t.sizes t.legal.limits in
    omega (
      arith,
      few.facts,
      few.rules,
      c.write_kept-at.ensures.0,
      rows_few t.layout.now t.sizes p.atom Facts,
      c.write_kept-at-2.ensures.0,
      rows_few t.layout.now t.sizes p.atom Rules,
    )

pub write_kept-requires : goal.write_kept-requires
unfolding size_of
write_kept-requires c =
    let p = c.args.self.now.part in let t = p.table in let few = limited t.sizes t.legal.limits in
    omega (
      arith,
      few.facts,
      few.rules,
      few.entries,
      c.write_kept-at.ensures.0,
      rows_few t.layout.now t.sizes p.atom Facts,
      c.write_kept-at-2.ensures.0,
      rows_few t.layout.now t.sizes p.atom Rules,
      c.write_kept-at-3.ensures.0,
      rows_few t.layout.now t.sizes p.atom Entries,
    )

pub returns : goal.returns
returns c =
    let p = c.args.self.now.part in
    sections_written (content_said p.table) p.atom c.args.side c.args.out.now c.args.at c.write_kept-at.ensures c.write_kept-at-2.ensures
    c.write_kept-at-3.ensures c.write_kept.ensures
