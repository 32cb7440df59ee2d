-- `console::fly_stands` meets its contract.
use Rattle.console.proofs.Telling.{stands_known, stands_unknown}
use Rattle.console.proofs.fly_stands.Goals as goal

pub returns-in-Some : goal.returns-in-Some
returns-in-Some c = let args = c.args in stands_known args.table.now args.rule args.log.now c.in-Some.ensures c.from.ensures c.stands.ensures

pub returns-in-None : goal.returns-in-None
returns-in-None c = let args = c.args in stands_unknown args.table.now args.rule args.log.now c.in-None.ensures c.from-in-None.ensures
