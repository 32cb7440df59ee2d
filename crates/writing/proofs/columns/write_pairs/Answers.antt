-- `writing::columns::write_pairs` meets its contract. The loop's invariant: the column of the pairs passed is written. Assumes nothing.
use Prim.Native.Nat.{◌+◌}
use native.Mathlib.Omega.{arith}
use mathlib.Core.Path.{◌∙◌, ap}
use Rattle.table.specs.Format.{pair_at}
use Rattle.table.proofs.Legal.{ranged, stronger_below, weaker_below}
use Rattle.files.specs.Contents.{later_pair, pair_row}
use Rattle.writing.specs.Columns.{word_in}
use Rattle.writing.proofs.Appending.{column_none, column_next, number_fits}
use Rattle.writing.proofs.columns.write_pairs.Goals as goal

pub loop-i-init : goal.loop-i-init
loop-i-init c =
    let args = c.args in
    column_none args.side (λ i. pair_row (later_pair args.first (pair_at args.table.layout.now args.table.sizes (args.from + i)))) args.out.now args.at

pub overflow_add-first : goal.overflow_add-first
overflow_add-first c =
    let l = c.args.table.legal in
    record {
      fits =
          number_fits _ _ _ l c.requires.1 (stronger_below _ _ (ranged _ _ l.ranges) (c.args.from + c.loop-i.i) (omega (arith, c.loop-i-test.true, c.requires.3)))
          (ap (λ x. x.stronger) c.pair-pair.ensures);
    }

pub overflow_add-first-in-loop-i : goal.overflow_add-first-in-loop-i
overflow_add-first-in-loop-i c =
    let l = c.args.table.legal in
    record {
      fits =
          number_fits _ _ _ l c.requires.1 (weaker_below _ _ (ranged _ _ l.ranges) (c.args.from + c.loop-i.i) (omega (arith, c.loop-i-test.true, c.requires.3)))
          (ap (λ x. x.weaker) c.pair-pair.ensures);
    }

pub loop-i-preserved : goal.loop-i-preserved
loop-i-preserved c =
    let args = c.args in
    column_next args.side (λ i. pair_row (later_pair args.first (pair_at args.table.layout.now args.table.sizes (args.from + i)))) args.out.now args.at c.loop-i.i c.loop-i.invariant
    (c.word_in.ensures ∙ ap (λ x. word_in args.side (pair_row (later_pair args.first x))) c.pair-pair.ensures) c.put_word.ensures
