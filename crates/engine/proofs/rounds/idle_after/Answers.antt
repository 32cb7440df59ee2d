-- `engine::rounds::idle_after` meets its contract. Assumes nothing.
use Prim.Native.Nat.{suc}
use native.Mathlib.Numerals.{add-one}
use native.Mathlib.Omega.{arith}
use mathlib.Core.Path.{sym, ◌∙◌, ap}
use mathlib.Core.Bool.{cond}
use Rattle.logic.proofs.Tests.{of_true}
use Rattle.engine.proofs.rounds.idle_after.Goals as goal

pub returns-then-not-made : goal.returns-then-not-made
returns-then-not-made c =
    let args = c.args in
    sym (ap (λ b. cond b (cond args.same (suc args.idle) 0) args.idle) c.if-not-made.true)

pub overflow_add-result : goal.overflow_add-result
overflow_add-result c =
    record { fits = omega (arith, c.requires (of_true c.args.made c.if-not-made.false)) }

-- where a search was made
pub returns-then-same : goal.returns-then-same
returns-then-same c =
    let args = c.args in
    add-one args.idle ∙ sym (ap (λ b. cond b (suc args.idle) 0) c.if-same.true)
    ∙ sym (ap (λ b. cond b (cond args.same (suc args.idle) 0) args.idle) c.if-not-made.false)

pub returns-else-same : goal.returns-else-same
returns-else-same c =
    let args = c.args in
    sym (ap (λ b. cond b (suc args.idle) 0) c.if-same.false)
    ∙ sym (ap (λ b. cond b (cond args.same (suc args.idle) 0) args.idle) c.if-not-made.false)
