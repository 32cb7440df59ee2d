-- `parts::kept::Renumbered::write_kept` meets its contract. The loop's invariant: the rows passed are written. Assumes nothing.
use native.Mathlib.Omega.{arith}
use Rattle.writing.proofs.Picking.{nothing_put, next_put, put_room, all_put}
use Rattle.parts.proofs.Rows.{row_word, rows_put, section_short}
use Rattle.parts.proofs.kept.Renumbered.write_kept.Goals as goal

pub loop-i-init : goal.loop-i-init
loop-i-init c =
    let p = c.args.self.now.part in let t = p.table in nothing_put (row_word t.layout.now t.sizes p.atom c.args.side c.args.section) c.args.out.now c.args.at _

pub put_if-place-requires : goal.put_if-place-requires
put_if-place-requires c =
    let p = c.args.self.now.part in let t = p.table in
    omega (
      arith,
      put_room (row_word t.layout.now t.sizes p.atom c.args.side c.args.section) c.args.out.now c.args.at _ c.loop-i.i c.loop-i.invariant,
      section_short t.layout.now t.sizes p.atom c.args.section t.legal,
    )

pub loop-i-preserved : goal.loop-i-preserved
loop-i-preserved c =
    let p = c.args.self.now.part in let t = p.table in
    next_put (row_word t.layout.now t.sizes p.atom c.args.side c.args.section) c.args.out.now c.args.at _ c.loop-i.i c.loop-i.invariant c.keeps.ensures
    c.word-word.ensures c.put_if-place.ensures

pub returns : goal.returns
returns c =
    let p = c.args.self.now.part in let t = p.table in
    rows_put t.layout.now t.sizes p.atom c.args.side c.args.section c.args.out.now c.args.at
    (all_put (row_word t.layout.now t.sizes p.atom c.args.side c.args.section) c.args.out.now c.args.at _ c.loop-i.i _ (omega arith) (omega arith)
    c.loop-i.invariant)
