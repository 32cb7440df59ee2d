-- The numbers of each answer, and that they determine it. Assumes nothing.
use Prim.Native.Nat.{ℕ}
use native.Mathlib.Omega.{arith}
use mathlib.Core.Path.{◌≡◌, refl, sym, ◌∙◌, ap}
use mathlib.Core.Bool.{cond}
use mathlib.Core.List.{List}
use lib.Dec.{eqb, eqb→eq}
use lib.ListN.{length}
use Rattle.logic.specs.Theory.{Theory}
use Rattle.table.specs.Refusals.{Judgement}
use Rattle.table.specs.Refusals.{number_of}
use Rattle.logic.proofs.Tests.{cond_false}
use Rattle.table.proofs.Numbers.{number_range, numbered, numbered_back}
use Rattle.engine.specs.declared.answer.Numbers.{Numbers}
use Rattle.engine.specs.declared.answer.Answer.{Answer}
use Rattle.engine.specs.declared.answer.Answer.TheVariants.{Refused, Stopped, Finished}
use Rattle.engine.specs.declared.reading.Reading.{Reading}
use Rattle.engine.specs.Readings.{run_of}
use Rattle.engine.specs.Answers.{numbers_of, call_judgement, answer_to, Ran}

-- the answer that has these numbers
answer_in : Numbers → Answer
answer_in n =
    cond (eqb n.refused 0)
    (cond (eqb n.finished 0) (Stopped (record { lines = n.lines; worked = n.worked; spent = n.spent }))
    (Finished (record { lines = n.lines; worked = n.worked; spent = n.spent })))
    (Refused (numbered n.refused))

answer_back : (a : Answer) → answer_in (numbers_of a) ≡ a
unfolding answer_in numbers_of
answer_back (Refused n) = cond_false (eqb (number_of n) 0) _ _ (λ t. absurd (omega (arith, eqb→eq (number_of n) 0 t, (number_range n).0))) ∙ ap Refused (numbered_back n)
answer_back (Stopped c) = refl
answer_back (Finished c) = refl

-- two answers with the same numbers are one
pub one_answer : (a z : Answer) → numbers_of a ≡ numbers_of z → a ≡ z
one_answer a z e = sym (answer_back a) ∙ ap answer_in e ∙ answer_back z

-- a run's answer by its contract
pub answer_is : {m : Reading} {j : Judgement} {d : Theory} {log log' scratch scratch' : List ℕ} {budget : ℕ} {a : Answer} → Ran m j d budget log log' scratch scratch' (numbers_of a)
    → a ≡ answer_to (call_judgement j m d budget (length scratch) (length log)) (run_of m d budget)
answer_is r = one_answer _ _ r.answer
