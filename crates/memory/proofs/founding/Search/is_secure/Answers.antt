-- `Search::is_secure` meets its contract. Assumes nothing.
use Prim.Native.Nat.{ℕ, ◌*◌, ◌<◌}
use native.Mathlib.Omega.{arith}
use mathlib.Core.Path.{◌≡◌, sym, subst}
use mathlib.Core.List.{List}
use Rattle.logic.specs.Theory.{complement}
use Rattle.logic.proofs.Literals.{complement_below}
use Rattle.table.specs.declared.format.Sizes.{Sizes}
use Rattle.table.specs.Refusals.{Legal}
use Rattle.memory.specs.Layout.{field_size}
use Rattle.memory.proofs.inference.Following.{small_literal}
use Rattle.memory.proofs.founding.Asking.{secure_first, secure_second}
use Rattle.memory.proofs.founding.Search.is_secure.Goals as goal

other_small : (b : List ℕ) (s : Sizes) (q n : ℕ) → Legal b s → q < 2 * s.atoms → n ≡ complement q → n < field_size
other_small b s q n l h e = small_literal b s n l (subst (λ z. z < 2 * s.atoms) (sym e) (complement_below q s.atoms h))

pub returns-then-self-eq0 : goal.returns-then-self-eq0
returns-then-self-eq0 c = secure_first _ _ _ c.args.self.table.legal c.args.self.ready c.requires c.if-self-eq0.true

pub is_processed-requires : goal.is_processed-requires
is_processed-requires c =
    (other_small _ _ _ _ c.args.self.table.legal c.requires c.other-n.ensures, omega arith, c.args.self.ready.invariant.room)

pub load-requires : goal.load-requires
load-requires c =
    (omega arith, other_small _ _ _ _ c.args.self.table.legal c.requires c.other-n.ensures, c.args.self.ready.invariant.room)

pub returns : goal.returns
returns c =
    secure_second _ _ _ c.args.self.table.legal c.args.self.ready c.requires c.if-self-eq0.false c.other-n.ensures c.is_processed.ensures c.load.ensures
    c.either.ensures
