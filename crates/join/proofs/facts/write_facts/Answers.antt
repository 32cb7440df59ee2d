-- `join::facts::write_facts` meets its contract. The loop's invariant: the facts passed are written. Assumes nothing.
use native.Mathlib.Omega.{arith}
use Rattle.files.specs.Contents.{fact_row}
use Rattle.writing.specs.Columns.{word_in}
use Rattle.writing.proofs.Picking.{nothing_put, next_put, put_room, all_put}
use Rattle.table.proofs.Legal.{limited}
use Rattle.join.proofs.facts.write_facts.Goals as goal

pub overflow_mul-q-end : goal.overflow_mul-q-end
overflow_mul-q-end c = record { fits = omega (arith, (limited _ c.args.both.house.legal.limits).atoms) }

pub loop-q-init : goal.loop-q-init
loop-q-init c = let args = c.args in nothing_put (λ z. word_in args.side (fact_row z)) args.out.now args.at _

pub put_if-place-requires : goal.put_if-place-requires
put_if-place-requires c =
    omega (
      arith,
      put_room (λ z. word_in c.args.side (fact_row z)) c.args.out.now c.args.at _ c.loop-q.q c.loop-q.invariant,
      c.requires,
      c.loop-q-test.true,
      (limited _ c.args.both.house.legal.limits).atoms,
    )

pub loop-q-preserved : goal.loop-q-preserved
loop-q-preserved c =
    let args = c.args in
    next_put (λ z. word_in args.side (fact_row z)) args.out.now args.at _ c.loop-q.q c.loop-q.invariant c.in_either.ensures c.word_in-word.ensures c.put_if-place.ensures

pub returns : goal.returns
returns c =
    let args = c.args in
    (all_put (λ z. word_in args.side (fact_row z)) args.out.now args.at _ c.loop-q.q _ (omega arith) (omega arith) c.loop-q.invariant).1
