-- `console::fly_convert` meets its contract.
use Rattle.writing.specs.Answers.{numbers_of}
use Rattle.convert.specs.Conversion.{Converted}
use Rattle.console.proofs.Telling.{written_known, written_unknown}
use Rattle.console.proofs.fly_convert.Goals as goal

pub returns-in-Some : goal.returns-in-Some
returns-in-Some c = let args = c.args in written_known (λ e. Converted e args.table.now args.out.now) _ args.out.now c.in-Some.ensures c.from.ensures c.convert.ensures

pub returns-in-None : goal.returns-in-None
unfolding numbers_of
returns-in-None c = let args = c.args in written_unknown (λ e. Converted e args.table.now args.out.now) _ args.out.now c.in-None.ensures c.not_written.ensures
