-- `report::sheet::Sheet::put_refused` meets its contract.
use native.Mathlib.Omega.{arith}
use mathlib.Core.Path.{ap}
use Rattle.report.specs.Text.{decimal}
use Rattle.report.specs.Sheet.{refused_sheet}
use Rattle.report.proofs.Puts.{put_put, put_same}
use Rattle.report.proofs.Running.{number_length}
use Rattle.report.proofs.sheet.Sheet.put_refused.Goals as goal

pub put_number-requires : goal.put_number-requires
put_number-requires c = omega (arith, number_length c.args.why c.from.ensures)

pub put-requires-2 : goal.put-requires-2
put-requires-2 c = omega (arith, number_length c.args.why c.from.ensures)

pub returns : goal.returns
unfolding refused_sheet
returns c =
    put_put (omega arith) (put_put (omega arith) c.put.ensures (put_same (ap decimal c.from.ensures) c.put_number.ensures)) c.put-2.ensures
