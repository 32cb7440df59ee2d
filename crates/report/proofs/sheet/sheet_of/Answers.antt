-- `report::sheet::sheet_of` meets its contract. Assumes nothing.
use Rattle.report.proofs.Running.{printed}
use Rattle.report.proofs.sheet.sheet_of.Goals as goal

pub returns : goal.returns
returns c = printed c.args.table.now c.put_sheet.new.self.bytes c.put_sheet.new.self.length c.put_sheet.ensures
