-- `join::pairs::write_house_pairs` meets its contract. The loop's invariant: the pairs of the rules passed are written. Assumes nothing.
use Prim.Native.Nat.{ℕ, ◌+◌, ◌≤◌}
use native.Mathlib.Omega.{arith}
use mathlib.Core.Path.{◌≡◌, refl, sym, ◌∙◌, ap}
use mathlib.Core.List.{List}
use lib.ListN.{get_or}
use Rattle.logic.specs.Theory.{complement, head_of}
use Rattle.table.specs.declared.format.Sizes.{Sizes}
use Rattle.table.specs.Format.{theory_in}
use Rattle.table.specs.Refusals.{Legal}
use Rattle.table.proofs.Legal.{limited}
use Rattle.joining.specs.Joining.{pairs_under}
use Rattle.joining.proofs.Pairing.{under_none, under_grows, under_most}
use Rattle.join.proofs.Rowing.{rows_none, rows_next, rows_all}
use borrow.Author.Rules.{rules}
use Rattle.join.proofs.pairs.write_house_pairs.Goals as goal

-- the pairs of a rule
module _ (b : List ℕ) (s : Sizes) (l : Legal b s) {x r : ℕ} (told : r ≡ x) where
  bounds : {from to : ℕ} → from ≡ pairs_under (theory_in b s) x → to ≡ pairs_under (theory_in b s) (r + 1) → (from ≤ to) × (to ≤ s.pairs) × (s.pairs ≤ 2048) × (s.rules ≤ 1024)
  bounds e f = (
    omega (arith, e, f ∙ ap (λ z. pairs_under (theory_in b s) (z + 1)) told, under_grows (theory_in b s) x),
    omega (arith, f, under_most b s (r + 1)),
    (limited s l.limits).pairs,
    (limited s l.limits).rules,
  )

pub loop-x-init : goal.loop-x-init
loop-x-init c =
    let args = c.args in let house = args.house in let rules = args.rules.now in (
      sym (under_none (theory_in house.layout.now house.sizes)),
      omega arith,
      rows_none args.side house.layout.now house.sizes house.legal rules.n rules.first rules.next args.out.now args.at,
    )

pub own_end-to-requires : goal.own_end-to-requires
own_end-to-requires c =
    c.loop-x.invariant.0 ∙ ap (pairs_under (theory_in c.args.house.layout.now c.args.house.sizes)) (sym c.from-rule.ensures)

pub write_pairs-requires : goal.write_pairs-requires
write_pairs-requires c =
    let house = c.args.house in
    let (grows, most, few, rules) = bounds house.layout.now house.sizes house.legal c.from-rule.ensures c.loop-x.invariant.0 c.own_end-to.ensures in
    (omega (arith, c.requires, c.loop-x.invariant.1, grows, most, few, rules, c.loop-x-test.true), omega arith, grows, most)

pub overflow_sub-after : goal.overflow_sub-after
overflow_sub-after c =
    let house = c.args.house in (bounds house.layout.now house.sizes house.legal c.from-rule.ensures c.loop-x.invariant.0 c.own_end-to.ensures).0

pub overflow_mul-after : goal.overflow_mul-after
overflow_mul-after c =
    let house = c.args.house in
    let (_, most, few, _) = bounds house.layout.now house.sizes house.legal c.from-rule.ensures c.loop-x.invariant.0 c.own_end-to.ensures in record { fits = omega (arith, most, few) }

pub overflow_add-after : goal.overflow_add-after
overflow_add-after c =
    let house = c.args.house in
    let (grows, most, few, rules) = bounds house.layout.now house.sizes house.legal c.from-rule.ensures c.loop-x.invariant.0 c.own_end-to.ensures in
    record { fits = omega (arith, c.requires, c.loop-x.invariant.1, grows, most, few, rules, c.loop-x-test.true) }

pub write_added-place-requires : goal.write_added-place-requires
write_added-place-requires c =
    let house = c.args.house in
    let (grows, most, few, rules) = bounds house.layout.now house.sizes house.legal c.from-rule.ensures c.loop-x.invariant.0 c.own_end-to.ensures in
    (omega (arith, c.requires, c.loop-x.invariant.1, grows, most, few, rules, c.loop-x-test.true), rules)

pub loop-x-preserved : goal.loop-x-preserved
loop-x-preserved c =
    let args = c.args in let house = args.house in let rules = args.rules.now in
    let x = c.loop-x.x in let told = c.from-rule.ensures in
    let d = theory_in house.layout.now house.sizes in
    let (grows, _, _, _) = bounds house.layout.now house.sizes house.legal told c.loop-x.invariant.0 c.own_end-to.ensures in
    let ends = c.own_end-to.ensures ∙ ap (λ r. pairs_under d (r + 1)) told in (
      ends,
      omega (arith, c.write_added-place.ensures.0, c.loop-x.invariant.1, rules.few, grows),
      rows_next args.side house.layout.now house.sizes house.legal rules.n rules.first rules.next args.out.now args.at x
          c.loop-x-test.true c.loop-x.invariant.0 ends c.loop-x.invariant.2 c.write_pairs.ensures refl
          (ap (λ q. get_or rules.first q 0) (c.against.ensures.value ∙ ap (λ r. complement (head_of d r)) told)) c.write_added-place.ensures.1,
    )

pub returns : goal.returns
returns c =
    let args = c.args in let house = args.house in let rules = args.rules.now in
    let few : pairs_under (theory_in house.layout.now house.sizes) c.loop-x.x ≤ house.sizes.pairs = under_most house.layout.now house.sizes c.loop-x.x in (
      omega (arith, c.loop-x.invariant.1, c.loop-x.invariant.0, few, c.loop-x.auto.x-end, (limited _ house.legal.limits).pairs, (limited _ house.legal.limits).rules),
      rows_all args.side house.layout.now house.sizes house.legal rules.n rules.first rules.next args.out.now args.at c.loop-x.x
          c.loop-x.auto.x-end c.loop-x-test.false c.loop-x.invariant.2,
    )
