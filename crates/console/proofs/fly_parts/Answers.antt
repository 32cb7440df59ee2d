-- `console::fly_parts` meets its contract.
use Rattle.parts.specs.Calls.{Listed}
use Rattle.console.proofs.Telling.{written_known, written_unknown}
use Rattle.console.proofs.fly_parts.Goals as goal

pub returns-in-Some : goal.returns-in-Some
returns-in-Some c = let args = c.args in written_known (λ e. Listed e args.table.now args.list.now) _ args.list.now c.in-Some.ensures c.listing_number.ensures c.parts.ensures

pub returns-in-None : goal.returns-in-None
returns-in-None c = let args = c.args in written_unknown (λ e. Listed e args.table.now args.list.now) _ args.list.now c.in-None.ensures c.from.ensures
