-- `report::sheet::Sheet::put_run` meets its contract.
use native.Mathlib.Omega.{arith}
use Rattle.report.proofs.Lengths.{put_run_parts}
use Rattle.report.proofs.sheet.Sheet.put_run.Goals as goal

pub returns : goal.returns
returns c =
    let args = c.args in
    put_run_parts args.table.layout.now args.table.sizes args.table.legal args.most args.log.now args.c c.marks_of-marks.result
    c.supported_of-supported.result c.requires.0 (omega arith) c.marks_of-marks.ensures c.supported_of-supported.ensures c.put_count.ensures
    c.put_atoms.ensures c.put_spent.ensures
