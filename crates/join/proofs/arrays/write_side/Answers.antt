-- `join::arrays::write_side` meets its contract. Assumes nothing.
use native.Mathlib.Omega.{arith}
use mathlib.Core.Path.{◌∙◌}
use Rattle.table.proofs.Legal.{limited}
use Rattle.join.proofs.Assembling.{side_words, facts_few, rules_room}
use Rattle.join.proofs.arrays.write_side.Goals as goal

pub write_rules_of_both-pairs-requires : goal.write_rules_of_both-pairs-requires
write_rules_of_both-pairs-requires c = omega (arith, facts_few _ _ _ _ c.args.both.house.legal c.requires.1)

pub write_house_pairs-last-requires : goal.write_house_pairs-last-requires
write_house_pairs-last-requires c =
    let both = c.args.both in
    omega (
      arith,
      facts_few _ _ _ _ both.house.legal c.requires.1,
      rules_room _ _ _ _ c.args.side both.house.legal both.tour.legal _ _ c.write_rules_of_both-pairs.ensures,
    )

pub write_pairs-requires : goal.write_pairs-requires
write_pairs-requires c =
    let both = c.args.both in (
      omega (
        arith,
        facts_few _ _ _ _ both.house.legal c.requires.1,
        rules_room _ _ _ _ c.args.side both.house.legal both.tour.legal _ _ c.write_rules_of_both-pairs.ensures,
        c.write_house_pairs-last.ensures.0,
      ),
      omega (arith, (limited _ both.house.legal.limits).rules),
      omega arith,
      omega arith,
    )

pub returns : goal.returns
returns c =
    let args = c.args in let both = args.both in let house = both.house in let tour = both.tour in let heads = c.by_head-rules.ensures in
    side_words house.layout.now house.sizes tour.layout.now tour.sizes args.side house.legal tour.legal both.house_facts.now both.tour_facts.now both.house_marked both.tour_marked
    args.out.now _ _ _ args.at (c.from.ensures ∙ c.requires.1) c.write_facts.ensures c.write_rules_of_both-pairs.ensures heads.0 heads.1 c.write_house_pairs-last.ensures.1
    c.from-end.ensures c.write_pairs.ensures
