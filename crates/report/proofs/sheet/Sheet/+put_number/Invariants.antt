-- `report::sheet::Sheet::put_number` calls itself on a smaller number, which is the measure.
use Rattle.report.proofs.sheet.Sheet.+put_number.Given as goal

abbrev pub decreases-put_number : goal.decreases-put_number
decreases-put_number l = l.n
