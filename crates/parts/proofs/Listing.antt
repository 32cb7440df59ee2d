-- The number of an answer to a call for the list determines it. Assumes nothing.
use Prim.Native.Nat.{ℕ}
use native.Mathlib.Omega.{arith}
use mathlib.Core.Path.{◌≡◌, refl, sym, ◌∙◌, ap}
use mathlib.Core.Bool.{cond}
use Rattle.std.specs.Prelude.{Ok, Err}
use lib.Dec.{eqb, eqb→eq}
use Rattle.logic.proofs.Tests.{cond_false}
use Rattle.table.specs.Refusals.{number_of}
use Rattle.table.proofs.Numbers.{number_range, numbered, numbered_back}
use Rattle.parts.specs.Answers.{Listing, listing_number}

-- the answer that has this number
answer_at : ℕ → Listing
answer_at n = cond (eqb n 0) (Ok tt) (Err (numbered n))

answer_back : (a : Listing) → answer_at (listing_number a) ≡ a
unfolding answer_at listing_number
answer_back (Err n) = cond_false (eqb (number_of n) 0) _ _ (λ t. absurd (omega (arith, eqb→eq (number_of n) 0 t, (number_range n).0))) ∙ ap Err (numbered_back n)
answer_back (Ok _) = refl

-- two answers with the same number are one
pub one_listing : (a z : Listing) → listing_number a ≡ listing_number z → a ≡ z
one_listing a z e = sym (answer_back a) ∙ ap answer_at e ∙ answer_back z
