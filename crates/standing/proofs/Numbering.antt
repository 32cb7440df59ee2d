-- The numbers of an answer determine it. Assumes nothing.
use native.Mathlib.Omega.{arith}
use mathlib.Core.Path.{◌≡◌, refl, sym, ◌∙◌, ap}
use mathlib.Core.Bool.{cond}
use mathlib.Core.List.{[], ◌∷◌}
use lib.Dec.{eqb, eqb→eq}
use lib.ListN.{get_or}
use Rattle.std.specs.Prelude.{Result, Ok, Err}
use Rattle.logic.specs.Standing.{standing_number}
use Rattle.logic.proofs.Tests.{cond_false}
use Rattle.table.specs.declared.judge.Refusal.{Refusal}
use Rattle.table.specs.Refusals.{number_of}
use Rattle.table.proofs.Numbers.{number_range, numbered, numbered_back}
use Rattle.standing.specs.declared.answer.Standing.{Standing}
use Rattle.standing.specs.declared.answer.Standing.TheVariants.{Firing, Out, Waiting}
use Rattle.standing.specs.declared.answer.StandingNumbers.{StandingNumbers}
use Rattle.standing.specs.Answers.{meant, numbers_of}

-- the answer that has these numbers
answer_in : StandingNumbers → Result Standing Refusal
answer_in n = cond (eqb n.refused 0) (Ok (get_or (Firing ∷ Out ∷ Waiting ∷ []) n.standing Firing)) (Err (numbered n.refused))

answer_back : (a : Result Standing Refusal) → answer_in (numbers_of a) ≡ a
unfolding answer_in numbers_of meant standing_number
answer_back (Err n) = cond_false (eqb (number_of n) 0) _ _ (λ t. absurd (omega (arith, eqb→eq (number_of n) 0 t, (number_range n).0))) ∙ ap Err (numbered_back n)
answer_back (Ok Firing) = refl
answer_back (Ok Out) = refl
answer_back (Ok Waiting) = refl

-- two answers with the same numbers are one
pub one_answer : (a z : Result Standing Refusal) → numbers_of a ≡ numbers_of z → a ≡ z
one_answer a z e = sym (answer_back a) ∙ ap answer_in e ∙ answer_back z
