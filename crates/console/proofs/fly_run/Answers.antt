-- `console::fly_run` meets its contract.
use mathlib.Core.Path.{sym, ◌∙◌}
use Rattle.console.proofs.Telling.{ran_known, ran_unread, ran_unknown}
use Rattle.console.proofs.fly_run.Goals as goal
use Rattle.console.proofs.fly_run.Goals.{in_default-via-in-Some+in_default, in_default-via-in_default}

pub returns-in-Some-Some : goal.returns-in-Some-Some
returns-in-Some-Some c =
    let args = c.args in
    ran_known args.table.now _ args.budget args.log.now args.scratch.now _ _ c.in-Some-Some.ensures c.in-Some-Some.ensures' c.from.ensures c.run.ensures

pub returns-in_default : goal.returns-in_default
returns-in_default c =
    let args = c.args in
    elim c.in_default.branch [
      | in_default-via-in-Some+in_default w ↦
          ran_unread args.table.now _ args.budget args.log.now args.scratch.now w.in_default.ensures w.in_default.ensures' c.from-in_default.ensures
      | in_default-via-in_default w ↦ ran_unknown args.table.now _ args.budget args.log.now args.scratch.now (sym w.in_default.is-0 ∙ c.told_by.ensures) c.from-in_default.ensures
    ]
