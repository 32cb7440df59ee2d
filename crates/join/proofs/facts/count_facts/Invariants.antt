-- `join::facts::count_facts` meets its contract. The loop's invariant: the facts passed are counted. Assumes nothing.
use mathlib.Core.Path.{◌≡◌}
use Rattle.logic.specs.Tests.{◌or◌, count_below}
use Rattle.standing.specs.Marks.{marked}
use Rattle.join.proofs.facts.count_facts.Given as goal

abbrev pub invariant-loop-q : goal.invariant-loop-q
invariant-loop-q l = l.count ≡ count_below l.q (λ z. marked l.both.house_facts.now z or marked l.both.tour_facts.now z)
