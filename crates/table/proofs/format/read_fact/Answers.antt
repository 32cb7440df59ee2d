-- `table::format::read_fact` meets its contract. Assumes nothing.
use Prim.Native.Nat.{ℕ}
use mathlib.Core.Path.{ap}
use Rattle.table.specs.declared.format.Literal.{Literal}
use Rattle.table.proofs.Reading.{right_read}
use Rattle.table.proofs.format.read_fact.Goals as goal

pub returns : goal.returns
returns c =
    let literal : ℕ → Literal = λ q. record { 0 = q } in
    ap literal (right_read _ _ 0 _ _ _ c.span-right.ensures c.section_word.ensures)
