-- `report::sheet::Sheet::put_spent` meets its contract.
use native.Mathlib.Omega.{arith}
use Rattle.report.specs.Sheet.{spent_line}
use Rattle.report.proofs.Puts.{put_put}
use Rattle.report.proofs.sheet.Sheet.put_spent.Goals as goal

pub returns : goal.returns
unfolding spent_line
returns c =
    put_put (omega arith)
    (put_put (omega arith) (put_put (omega arith) (put_put (omega arith) c.put.ensures c.put_number.ensures) c.put-2.ensures) c.put_number-2.ensures)
    c.put-3.ensures
