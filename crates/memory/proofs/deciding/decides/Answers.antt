-- `memory::deciding::decides` meets its contract. Assumes nothing.
use native.Mathlib.Omega.{arith}
use mathlib.Core.Path.{◌∙◌, sym}
use Rattle.memory.specs.Memory.{view}
use Rattle.memory.proofs.deciding.Deciding.{decided_already, fires_by_it, out_by_it, waits}
use Rattle.memory.proofs.deciding.decides.Goals as goal

pub returns-then-ne : goal.returns-then-ne
returns-then-ne c = decided_already (view c.args.mem.now) _ _ _ c.standing.ensures (sym c.ne.ensures ∙ c.if-ne.true)

pub returns-then-t-eq2 : goal.returns-then-t-eq2
returns-then-t-eq2 c =
    c.standing-then-t-eq2.ensures
    ∙ fires_by_it (view c.args.mem.now) _ _ (waits _ c.standing.ensures (sym c.ne.ensures ∙ c.if-ne.false)) c.if-t-eq2.true

pub returns-else-t-eq2 : goal.returns-else-t-eq2
returns-else-t-eq2 c =
    c.standing-else-t-eq2.ensures
    ∙ out_by_it (view c.args.mem.now) _ _ (waits _ c.standing.ensures (sym c.ne.ensures ∙ c.if-ne.false)) (omega (arith, c.requires.2, c.requires.3))
