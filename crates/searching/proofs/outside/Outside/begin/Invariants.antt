-- `Outside::begin` meets its contract. The loop's invariant: the rules below `r` have lost their virtual antecedent. Assumes nothing.
use mathlib.Core.Bool.{false}
use Rattle.searching.specs.Leaving.{ReachedIn}
use Rattle.searching.proofs.outside.Outside.begin.Given as goal

abbrev pub invariant-loop-r : goal.invariant-loop-r
invariant-loop-r l = ReachedIn l.search l.r (λ _ _. false) l.self
