-- `report::sheet::Sheet::put_number` meets its contract.
use native.Mathlib.Omega.{arith}
use Rattle.report.proofs.Puts.{put_decimal_one, put_decimal_more}
use Rattle.report.proofs.sheet.Sheet.+put_number.Goals as goal

pub returns-then-n-lt10 : goal.returns-then-n-lt10
returns-then-n-lt10 t c = put_decimal_one c.if-n-lt10.true c.put_digit.ensures

pub returns : goal.returns
returns t c = put_decimal_more c.if-n-lt10.false (omega arith) c.put_number.ensures c.put_digit-2.ensures
