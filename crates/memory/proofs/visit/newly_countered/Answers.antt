-- `memory::visit::newly_countered` meets its contract. Assumes nothing.
use mathlib.Core.Path.{sym, ◌∙◌}
use Rattle.memory.specs.Memory.{view}
use Rattle.memory.proofs.deciding.Deciding.{not_out}
use Rattle.memory.proofs.visit.Steps.{countered_not, countered_now}
use Rattle.memory.proofs.visit.newly_countered.Goals as goal

pub returns-then-load-ne1 : goal.returns-then-load-ne1
returns-then-load-ne1 c = countered_not (view c.args.mem.now) _ (λ e. c.if-load-ne1.true (c.load.ensures ∙ e))

pub returns : goal.returns
returns c =
    let words = view c.args.mem.now in
    c.ne.ensures ∙ not_out words _ _ c.standing.ensures c.requires.2 ∙ countered_now words _ (sym c.load.ensures ∙ c.if-load-ne1.false)
