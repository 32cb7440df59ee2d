-- `report::sheet::Sheet::put_atoms` meets its contract. The loop's invariant: the lines of the atoms passed are put.
use Rattle.report.specs.Sheet.{atom_lines}
use Rattle.report.specs.Printing.{Put}
use Rattle.report.proofs.Lengths.{verdicts_by}
use Rattle.report.proofs.sheet.Sheet.put_atoms.Given as goal

abbrev pub invariant-loop-a : goal.invariant-loop-a
invariant-loop-a l =
    Put l.initial.self.bytes l.initial.self.length (atom_lines (verdicts_by l.marks l.supported) l.a) l.self.bytes l.self.length
