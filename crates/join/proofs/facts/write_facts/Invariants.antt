-- `join::facts::write_facts` meets its contract. The loop's invariant: the facts passed are written. Assumes nothing.
use Rattle.logic.specs.Tests.{◌or◌}
use Rattle.standing.specs.Marks.{marked}
use Rattle.files.specs.Contents.{fact_row}
use Rattle.writing.specs.Columns.{word_in}
use Rattle.writing.proofs.Picking.{Put}
use Rattle.join.proofs.facts.write_facts.Given as goal

abbrev pub invariant-loop-q : goal.invariant-loop-q
invariant-loop-q l =
    Put (λ z. word_in l.side (fact_row z)) l.initial.out l.at (λ z. marked l.both.house_facts.now z or marked l.both.tour_facts.now z) l.q l.place l.out
