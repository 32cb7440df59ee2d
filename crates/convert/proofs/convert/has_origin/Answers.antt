-- `convert::convert::has_origin` meets its contract. Assumes nothing.
use Rattle.std.proofs.Common.{rules, ◌≡◌, ℕ, ◌<◌, Bool, true, false, length, get_or, arith, MatchBool, subst, ap}
use Rattle.std.specs.List.{HoldsAt, AllWithin, range_with_len}
use Rattle.std.proofs.lemmas.Iterator.{cases_from_any, YieldsList-from_range}
use Rattle.std.proofs.lemmas.List.FromFn.{get_or-range_with_len, length-range_with_len}
use borrow.Author.Tests.{tests}
use lib.Dec.{T, ltb}
use Rattle.logic.specs.Tests.{some}
use Rattle.logic.proofs.Tests.{some_found, some_none}
use Rattle.table.specs.Format.{origin_number, rule_at}
use Rattle.convert.specs.Conversion.{has_origin}
use Rattle.convert.proofs.convert.has_origin.Goals as goal

some_from_any : (r : Bool) (n : ℕ) (p : ℕ → Bool) → MatchBool r ((k : ℕ) × (k < length (range_with_len 0 n)) × HoldsAt (λ i. T (p i)) (range_with_len 0 n) k) (AllWithin (λ i. T (p i) → ⊥) (range_with_len 0 n) 0 (length (range_with_len 0 n)))
    → r ≡ some n p
some_from_any true n p (k, l, h) = some_found n p (get_or (range_with_len 0 n) k 0) (omega (arith, length-range_with_len 0 n, get_or-range_with_len 0 n k 0)) (h 0)
some_from_any false n p h = some_none n p (λ k l t. h k 0 (omega arith) (omega (arith, length-range_with_len 0 n)) (let e : k ≡ get_or (range_with_len 0 n) k 0 = omega (arith, get_or-range_with_len 0 n k 0 l) in subst (λ i. T (p i)) e t))

pub returns : goal.returns
unfolding has_origin
returns c =
    let n = c.args.table.sizes.rules in
    let p = λ (r : ℕ). ltb 0 (origin_number (rule_at c.args.table.layout.now c.args.table.sizes r).origin) in
    some_from_any c.any.result n p (cases_from_any _ _ _ (λ r. T (p r)) (λ r. T (p r) → ⊥) c.any.ensures.ran (YieldsList-from_range 0 n n (ap (λ e. record { start = 0; end = e }) c.from.ensures) (omega arith)) (λ x q k. search (rules, tests)) (λ x q k. search (rules, tests)))
