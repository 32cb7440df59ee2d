-- `memory::charging::charge` meets its contract. Assumes nothing.
use Prim.Native.Nat.{◌≤◌}
use native.Mathlib.Omega.{arith}
use mathlib.Core.Bool.{Bool, true, false}
use Rattle.std.specs.Int.{from_bool}
use mathlib.Core.Path.{◌∙◌, sym}
use Rattle.memory.specs.Memory.{view}
use Rattle.memory.proofs.index.Kinds.{one_if}
use Rattle.memory.proofs.deciding.Deciding.{decided_now, undecided_yet}
use Rattle.memory.proofs.charging.Costing.{read_decided, read_definite, read_undecided}
use Rattle.memory.proofs.charging.charge.Goals as goal

one_small : (b : Bool) → from_bool b ≤ 1
one_small true = omega arith
one_small false = omega arith

pub returns-then-t-lt2 : goal.returns-then-t-lt2
returns-then-t-lt2 c =
    (read_definite (view c.args.mem.now) _ _ c.if-t-lt2.true c.is_strict_by.ensures (c.from.ensures ∙ one_if _), omega (arith, c.from.ensures, one_small c.is_strict_by.result))

pub returns-then-eq : goal.returns-then-eq
returns-then-eq c =
    let words = view c.args.mem.now in
    (read_undecided words _ _ c.if-t-lt2.false (undecided_yet words _ _ _ c.decides.ensures (sym c.eq.ensures ∙ c.if-eq.true)), omega arith)

pub returns-else-eq : goal.returns-else-eq
returns-else-eq c =
    let words = view c.args.mem.now in
    (read_decided words _ _ c.if-t-lt2.false (decided_now words _ _ _ c.decides.ensures (sym c.eq.ensures ∙ c.if-eq.false)) c.charge_decided.ensures.0, c.charge_decided.ensures.1)
