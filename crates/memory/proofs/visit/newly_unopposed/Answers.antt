-- `memory::visit::newly_unopposed` meets its contract. Assumes nothing.
use mathlib.Core.Path.{sym, ◌∙◌}
use Rattle.memory.specs.Memory.{view}
use Rattle.memory.proofs.deciding.Deciding.{is_firing}
use Rattle.memory.proofs.visit.Steps.{unopposed_not, unopposed_now}
use Rattle.memory.proofs.visit.newly_unopposed.Goals as goal

pub returns-then-load : goal.returns-then-load
returns-then-load c = unopposed_not (view c.args.mem.now) _ (λ e. c.if-load.true (c.load.ensures ∙ e ∙ sym c.load-2.ensures))

pub returns : goal.returns
returns c =
    let words = view c.args.mem.now in
    c.eq.ensures ∙ is_firing words _ _ c.standing.ensures ∙ unopposed_now words _ (sym c.load.ensures ∙ c.if-load.false ∙ c.load-2.ensures)
