-- `report::sheet::Sheet::put_atoms` meets its contract. The loop's invariant: the lines of the atoms passed are put.
use Prim.Native.Nat.{◌*◌}
use native.Mathlib.Omega.{arith}
use mathlib.Core.Path.{◌≡◌, ◌∙◌, ap}
use Rattle.logic.specs.Theory.{atom}
use Rattle.report.specs.Text.{meant}
use Rattle.report.proofs.Lengths.{verdicts_by, line_room, lines_none, lines_next}
use Rattle.report.proofs.sheet.Sheet.put_atoms.Goals as goal

pub loop-a-init : goal.loop-a-init
loop-a-init c = lines_none _ c.args.self.now.bytes c.args.self.now.length

pub put_atom-requires : goal.put_atom-requires
put_atom-requires c =
    let args = c.args in
    let f = verdicts_by args.marks.now args.supported.now in
    let a : atom (2 * c.loop-a.a) ≡ c.loop-a.a = omega arith in
    omega
    (arith, line_room f c.loop-a.a args.self.now.length c.loop-a.self.length (meant c.verdict_of-v.result) c.requires.0 (omega arith) c.loop-a.invariant.end (c.verdict_of-v.ensures ∙ ap f a))

pub loop-a-preserved : goal.loop-a-preserved
loop-a-preserved c =
    let args = c.args in
    let f = verdicts_by args.marks.now args.supported.now in
    let a : atom (2 * c.loop-a.a) ≡ c.loop-a.a = omega arith in
    lines_next f c.loop-a.a (omega arith) c.loop-a.invariant (c.verdict_of-v.ensures ∙ ap f a) c.put_atom.ensures
