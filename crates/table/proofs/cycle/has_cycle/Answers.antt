-- `table::cycle::has_cycle` meets its contract. The table is in order by what is required, and its pairs go through `table_start` and `table_end` of proofs/Pairs.antt. Assumes nothing.
use Prim.Native.Nat.{◌≤◌}
use native.Mathlib.Omega.{arith}
use lib.ListN.{get_or-replicate}
use Rattle.table.specs.Format.{theory_in}
use Rattle.table.specs.Pairs.{PairsInOrder}
use Rattle.table.proofs.Pairs.{ordered, table_start, table_end}
use Rattle.table.proofs.cycle.has_cycle.Goals as goal

pub count_stronger-requires : goal.count_stronger-requires
count_stronger-requires c =
    let in_order : PairsInOrder (theory_in c.args.layout.bytes.now c.args.layout.sizes) = ordered _ _ c.args.layout.small c.requires.0 c.requires.1 in
    (in_order, λ w h. get_or-replicate 1024 w 0 0 h)

pub find_runs-requires : goal.find_runs-requires
find_runs-requires c =
    let in_order : PairsInOrder (theory_in c.args.layout.bytes.now c.args.layout.sizes) = ordered _ _ c.args.layout.small c.requires.0 c.requires.1 in
    in_order

pub start-end-requires : goal.start-end-requires
unfolding theory_in
start-end-requires c =
    let in_order : PairsInOrder (theory_in c.args.layout.bytes.now c.args.layout.sizes) = ordered _ _ c.args.layout.small c.requires.0 c.requires.1 in
    let small : c.args.layout.sizes.rules ≤ 1024 = (in_order).small in
    small

pub released-all-requires : goal.released-all-requires
unfolding theory_in
released-all-requires c =
    let in_order : PairsInOrder (theory_in c.args.layout.bytes.now c.args.layout.sizes) = ordered _ _ c.args.layout.small c.requires.0 c.requires.1 in
    let small : c.args.layout.sizes.rules ≤ 1024 = (in_order).small in
    record {
      pairs_in_order = (
        in_order,
        c.find_runs.ensures,
        table_start _ _ (in_order) _ c.start-end.new.queue c.start-end.result c.start-end.ensures.1 c.count_stronger.ensures,
      );
      within = omega (arith, small, c.start-end.ensures.0);
    }

pub returns : goal.returns
returns c =
    let in_order : PairsInOrder (theory_in c.args.layout.bytes.now c.args.layout.sizes) = ordered _ _ c.args.layout.small c.requires.0 c.requires.1 in
    table_end _ _ (in_order) _ _ _ (omega (arith, c.released-all.ensures.0, c.released-all.auto.queue, c.start-end.auto.queue))
    c.released-all.ensures.1
