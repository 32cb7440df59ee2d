-- `join::totals::joined_sizes` meets its contract. Assumes nothing.
use mathlib.Core.Path.{refl}
use Rattle.join.proofs.Calling.{too_many, few_enough, sized}
use Rattle.join.proofs.totals.joined_sizes.Goals as goal

pub returns-then-too_large : goal.returns-then-too_large
returns-then-too_large c =
    let house = c.args.both.house in let tour = c.args.both.tour in
    (refl, too_many house.layout.now house.sizes tour.layout.now tour.sizes house.legal c.totals_of-n.ensures c.too_large.ensures c.if-too_large.true)

pub sizes_of-requires : goal.sizes_of-requires
sizes_of-requires c =
    let house = c.args.both.house in let tour = c.args.both.tour in
    let (_, f, r, e, p) = few_enough house.layout.now house.sizes tour.layout.now tour.sizes house.legal c.totals_of-n.ensures c.too_large.ensures c.if-too_large.false in (f, r, e, p)

pub returns : goal.returns
returns c =
    let house = c.args.both.house in let tour = c.args.both.tour in
    sized house.layout.now house.sizes tour.layout.now tour.sizes house.legal c.totals_of-n.ensures _ c.too_large.ensures c.if-too_large.false c.sizes_of.ensures
