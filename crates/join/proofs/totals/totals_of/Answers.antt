-- `join::totals::totals_of` meets its contract. Assumes nothing.
use native.Mathlib.Omega.{arith}
use mathlib.Core.Path.{refl}
use Rattle.table.proofs.Legal.{limited}
use Rattle.join.proofs.Counting.{counts_few, added_most, totals_are}
use Rattle.join.proofs.totals.totals_of.Goals as goal

pub added_pairs-added-requires : goal.added_pairs-added-requires
added_pairs-added-requires c = counts_few _ _ c.args.both.tour.legal c.head_counts-counts.ensures

pub overflow_add-result-4 : goal.overflow_add-result-4
overflow_add-result-4 c =
    let house = c.args.both.house in let tour = c.args.both.tour in
    record {
      fits =
          omega (
            arith,
            (limited _ house.legal.limits).pairs,
            (limited _ tour.legal.limits).pairs,
            added_most house.layout.now house.sizes tour.layout.now tour.sizes house.legal tour.legal c.head_counts-counts.ensures c.added_pairs-added.ensures,
          );
    }

pub returns : goal.returns
returns c =
    let both = c.args.both in let house = both.house in let tour = both.tour in
    totals_are house.layout.now house.sizes tour.layout.now tour.sizes house.legal tour.legal both.house_marked both.tour_marked c.head_counts-counts.ensures c.added_pairs-added.ensures
    refl c.count_facts.ensures c.from.ensures c.from-2.ensures c.from-3.ensures c.from-4.ensures c.from-5.ensures c.from-6.ensures
