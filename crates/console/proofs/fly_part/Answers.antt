-- `console::fly_part` meets its contract.
use Rattle.writing.specs.Answers.{numbers_of}
use Rattle.parts.specs.Calls.{Parted}
use Rattle.console.proofs.Telling.{written_known, written_unknown}
use Rattle.console.proofs.fly_part.Goals as goal

pub returns-in-Some : goal.returns-in-Some
returns-in-Some c = let args = c.args in written_known (λ e. Parted e args.table.now args.atom args.out.now) _ args.out.now c.in-Some.ensures c.from.ensures c.part.ensures

pub returns-in-None : goal.returns-in-None
unfolding numbers_of
returns-in-None c = let args = c.args in written_unknown (λ e. Parted e args.table.now args.atom args.out.now) _ args.out.now c.in-None.ensures c.not_written.ensures
