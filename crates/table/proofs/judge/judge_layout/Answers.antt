-- `table::judge::judge_layout` meets its contract. Assumes nothing.
use mathlib.Core.Path.{◌∙◌, ap}
use Prim.Native.Nat.{◌+◌, ◌*◌}
use Rattle.table.proofs.Judging.{over_atoms, over_facts_or_rules, over_entries_or_pairs, within, wrong_length_lem, by_sizes, judged_2, judged_3}
use Rattle.table.proofs.judge.judge_layout.Goals as goal

pub returns-then-sizes-gt-MAX_ATOMS : goal.returns-then-sizes-gt-MAX_ATOMS
returns-then-sizes-gt-MAX_ATOMS c = by_sizes _ _ c.read_sizes-sizes.ensures (judged_2 _ _ _ (over_atoms _ c.if-sizes-gt-MAX_ATOMS.true))

pub returns-then-either : goal.returns-then-either
returns-then-either c = by_sizes _ _ c.read_sizes-sizes.ensures (judged_2 _ _ _ (over_facts_or_rules _ c.either.ensures c.if-either.true))

pub returns-then-either-2 : goal.returns-then-either-2
returns-then-either-2 c = by_sizes _ _ c.read_sizes-sizes.ensures (judged_2 _ _ _ (over_entries_or_pairs _ c.either-2.ensures c.if-either-2.true))

pub returns-then-bytes-span : goal.returns-then-bytes-span
returns-then-bytes-span c =
    by_sizes _ _ c.read_sizes-sizes.ensures
    (judged_3 _ _ _ (within _ c.if-sizes-gt-MAX_ATOMS.false c.either.ensures c.if-either.false c.either-2.ensures c.if-either-2.false)
    (wrong_length_lem _ _ _ c.span.ensures c.if-bytes-span.true))

pub invariant_of-judge_words : goal.invariant_of-judge_words
invariant_of-judge_words c =
    record {
      small = within _ c.if-sizes-gt-MAX_ATOMS.false c.either.ensures c.if-either.false c.either-2.ensures c.if-either-2.false;
      whole = c.if-bytes-span.false ∙ ap (λ k. 10 + 4 * k) c.span.ensures;
    }
