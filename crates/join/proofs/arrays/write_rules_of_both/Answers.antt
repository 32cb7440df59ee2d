-- `join::arrays::write_rules_of_both` meets its contract. Assumes nothing.
use native.Mathlib.Omega.{arith}
use Rattle.table.proofs.Legal.{limited}
use Rattle.join.proofs.Rowing.{words_after, column_words}
use Rattle.join.proofs.arrays.write_rules_of_both.Goals as goal

pub write_entries-requires-2 : goal.write_entries-requires-2
write_entries-requires-2 c =
    let h = limited _ c.args.house.legal.limits in let k = limited _ c.args.tour.legal.limits in (omega (arith, c.requires, h.rules, k.rules, h.entries), h.rules)

pub returns : goal.returns
returns c =
    let args = c.args in
    let one = column_words args.side _ _ args.out.now args.at c.from.ensures c.write_rules.ensures in
    let two = column_words args.side _ _ _ _ c.from-2.ensures c.write_rules-2.ensures in
    let three = column_words args.side _ _ _ _ c.from-3.ensures c.write_entries.ensures in
    let four = column_words args.side _ _ _ _ c.from-4.ensures c.write_entries-2.ensures in
    words_after args.out.now args.at _ _ (words_after args.out.now args.at _ _ one two) (words_after _ _ _ _ three four)
