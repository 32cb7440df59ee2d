-- `join::pairs::write_added` meets its contract. The loop's invariant: the pairs passed are written, and the chain has come to the next. Assumes nothing.
use Prim.Native.Nat.{◌+◌, ◌<◌}
use native.Mathlib.Omega.{arith}
use mathlib.Core.Path.{refl, sym, subst}
use lib.ListN.{get_or}
use Rattle.writing.specs.Columns.{word_in}
use Rattle.join.proofs.Chaining.{reached_first, reached_next, reached_all}
use Rattle.join.proofs.pairs.write_added.Goals as goal

pub loop-j-init : goal.loop-j-init
loop-j-init c =
    let args = c.args in let rules = args.rules.now in (
      (λ h. omega arith),
      omega arith,
      reached_first (λ k. word_in args.side (record { left = args.rule; right = args.later + k })) rules.n args.start rules.next args.out.now args.at,
    )

pub loop-j-preserved : goal.loop-j-preserved
loop-j-preserved c =
    let args = c.args in let rules = args.rules.now in let taken = c.loop-j-test.true in
    let on : c.loop-j.j < get_or rules.next c.from.result 0 = subst (λ k. c.loop-j.j < get_or rules.next k 0) (sym c.from.ensures) (rules.rises c.loop-j.j taken) in (
      (λ h. omega (arith, c.loop-j.invariant.0 taken, on)),
      omega (arith, c.loop-j.invariant.0 taken, taken),
      reached_next (λ k. word_in args.side (record { left = args.rule; right = args.later + k })) rules.n args.start rules.next args.out.now args.at c.loop-j.j
          taken c.word_in.ensures c.put_word.ensures c.from.ensures refl c.loop-j.invariant.2,
    )

pub returns : goal.returns
returns c =
    let args = c.args in let rules = args.rules.now in (
      c.loop-j.invariant.1,
      reached_all (λ k. word_in args.side (record { left = args.rule; right = args.later + k })) rules.n args.start rules.next args.out.now args.at c.loop-j.j
          c.loop-j-test.false c.loop-j.invariant.2,
    )
