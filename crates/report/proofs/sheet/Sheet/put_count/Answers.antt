-- `report::sheet::Sheet::put_count` meets its contract.
use native.Mathlib.Omega.{arith}
use mathlib.Core.Path.{ap}
use Rattle.report.specs.Text.{decimal}
use Rattle.report.specs.Sheet.{count_line}
use Rattle.report.proofs.Puts.{put_put, put_same}
use Rattle.report.proofs.sheet.Sheet.put_count.Goals as goal

pub returns : goal.returns
unfolding count_line
returns c =
    put_put (omega arith) (put_put (omega arith) c.put.ensures (put_same (ap decimal c.from.ensures) c.put_number.ensures)) c.put-2.ensures
