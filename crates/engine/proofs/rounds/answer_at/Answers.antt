-- `engine::rounds::answer_at` meets its contract. Assumes nothing.
use mathlib.Core.Path.{sym, ap}
use mathlib.Core.Bool.{cond}
use Rattle.engine.specs.declared.answer.Answer.TheVariants.{Stopped, Finished}
use Rattle.engine.specs.Working.{counts_at}
use Rattle.engine.proofs.rounds.answer_at.Goals as goal

pub returns-then-finished : goal.returns-then-finished
returns-then-finished c = let k = counts_at c.args.lines c.args.tally in sym (ap (λ b. cond b (Finished k) (Stopped k)) c.if-finished.true)

pub returns-else-finished : goal.returns-else-finished
returns-else-finished c = let k = counts_at c.args.lines c.args.tally in sym (ap (λ b. cond b (Finished k) (Stopped k)) c.if-finished.false)
