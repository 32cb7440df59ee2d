-- `engine::run::run_copied` meets its contract. Assumes nothing.
use Prim.Native.Nat.{◌≤◌, ◌<◌}
use mathlib.Core.Path.{subst}
use lib.ListN.{length}
use Rattle.engine.proofs.answer.Buffers.{short_log}
use Rattle.engine.proofs.run.Answering.{lines_written, lines_inside, worked_copied, ran, ran_short}
use Rattle.engine.proofs.run.run_copied.Goals as goal

pub returns-then-log-lines : goal.returns-then-log-lines
returns-then-log-lines c =
    ran_short c.args.run.reading c.args.run.table
    (short_log c.args.run.reading _ _ c.args.run.table.legal _ _ _ c.requires.0
    (subst (λ n. length c.args.log.now < n) (lines_written c.args.run.reading c.args.run.table _ c.run_started-answer.ensures _ c.from-lines.ensures) c.if-log-lines.true))
    c.refuse.ensures

pub copy_words-requires : goal.copy_words-requires
copy_words-requires c =
    (lines_inside c.args.run.reading c.args.run.table _ c.run_started-answer.ensures _ c.from-lines.ensures, c.if-log-lines.false)

pub returns : goal.returns
returns c =
    ran c.args.run.reading c.args.run.table c.requires.0
    (subst (λ n. n ≤ length c.args.log.now) (lines_written c.args.run.reading c.args.run.table _ c.run_started-answer.ensures _ c.from-lines.ensures) c.if-log-lines.false)
    (worked_copied c.args.run.reading c.args.run.table _ c.run_started-answer.ensures _ c.from-lines.ensures _ _ _ c.copy_words.ensures)
    c.clear.ensures
