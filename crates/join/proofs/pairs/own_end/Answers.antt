-- `join::pairs::own_end` meets its contract. The loop's invariant: the pairs passed are the rule's. Assumes nothing.
use Prim.Native.Nat.{ℕ, ◌+◌, ◌≤◌, ◌<◌}
use native.Mathlib.Omega.{arith}
use mathlib.Core.Path.{◌≡◌, sym, ◌∙◌, ap, subst}
use mathlib.Core.List.{List}
use Rattle.table.specs.declared.format.Sizes.{Sizes}
use Rattle.table.specs.Refusals.{Legal}
use Rattle.table.specs.Format.{pair_at, theory_in}
use Rattle.joining.specs.Joining.{pairs_under}
use Rattle.joining.proofs.Pairing.{under_most, under_next}
use Rattle.join.proofs.pairs.own_end.Goals as goal

-- where the pairs passed are the rule's and the next is not, the rule's pairs end
ends : (b : List ℕ) (s : Sizes) (x from i : ℕ) → Legal b s → from ≡ pairs_under (theory_in b s) x → from ≤ i → i ≤ s.pairs
    → ((j : ℕ) → from ≤ j → j < i → (pair_at b s j).stronger ≡ x) → (i < s.pairs → (pair_at b s i).stronger ≡ x → ⊥) → i ≡ pairs_under (theory_in b s) (x + 1)
ends b s x from i l e f g h n = under_next b s l x i (subst (λ k. k ≤ i) e f) g (λ j k. h j (subst (λ z. z ≤ j) (sym e) k)) n

pub returns-then-from-rule : goal.returns-then-from-rule
returns-then-from-rule c =
    let args = c.args in let table = args.table in
    ends table.layout.now table.sizes args.rule args.from c.loop-i.i table.legal c.requires c.loop-i.auto.i (omega arith) c.loop-i.invariant
    (λ _ e. c.if-from-rule.true (c.from.ensures ∙ ap (λ p. p.stronger) c.pair.ensures ∙ e))

pub returns : goal.returns
returns c =
    let args = c.args in let table = args.table in
    ends table.layout.now table.sizes args.rule args.from c.from-end.result table.legal c.requires
    (omega (arith, c.requires, under_most table.layout.now table.sizes args.rule)) (omega arith) (λ j h k. c.loop-i.invariant j h (omega arith)) (λ h _. omega (arith, h))
