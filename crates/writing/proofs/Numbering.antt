-- The numbers of an answer determine it. Assumes nothing.
use native.Mathlib.Omega.{arith}
use mathlib.Core.Path.{◌≡◌, refl, sym, ◌∙◌, ap}
use mathlib.Core.Bool.{cond}
use lib.Dec.{eqb, eqb→eq}
use Rattle.logic.proofs.Tests.{cond_false}
use Rattle.table.specs.Refusals.{number_of}
use Rattle.table.proofs.Numbers.{number_range, numbered, numbered_back}
use Rattle.writing.specs.declared.answer.WrittenNumbers.{WrittenNumbers}
use Rattle.std.specs.Prelude.{Ok, Err}
use Rattle.writing.specs.Answers.{Written, numbers_of}

-- the answer that has these numbers
answer_in : WrittenNumbers → Written
answer_in n = cond (eqb n.refused 0) (Ok n.bytes) (Err (numbered n.refused))

answer_back : (a : Written) → answer_in (numbers_of a) ≡ a
unfolding answer_in numbers_of
answer_back (Err n) = cond_false (eqb (number_of n) 0) _ _ (λ t. absurd (omega (arith, eqb→eq (number_of n) 0 t, (number_range n).0))) ∙ ap Err (numbered_back n)
answer_back (Ok n) = refl

-- two answers with the same numbers are one
pub one_answer : (a z : Written) → numbers_of a ≡ numbers_of z → a ≡ z
one_answer a z e = sym (answer_back a) ∙ ap answer_in e ∙ answer_back z
