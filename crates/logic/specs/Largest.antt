-- The largest list of numbers below n in which each fits, by a test of what a number needs of the list.
use Rattle.std.specs.Prelude.{ℕ, zero, suc, Bool, List}
use Rattle.logic.specs.Tests.{upto, pick}

module _ (fits : List ℕ → ℕ → Bool) where
  -- n times, what does not fit is taken out of the list
  unfoldable pub prune : ℕ → List ℕ → List ℕ
  prune zero l = l
  prune (suc n) l = prune n (pick l (fits l))

  -- what is left of the numbers below n when that was done n times (proofs/Largest.antt: each of it fits, and it holds every set in which
  -- each fits)
  unfoldable pub largest : ℕ → List ℕ
  largest n = prune n (upto n)
