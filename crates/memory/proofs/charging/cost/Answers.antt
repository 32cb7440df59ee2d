-- `memory::charging::cost` meets its contract: there are at most 4,096 uses, and a charge is at most 65,536. Assumes nothing.
use Rattle.std.proofs.Common.{ℕ, ◌+◌, ◌-◌, ◌*◌, ◌%◌, ap, ◌∙◌, refl, arith, rules}
use Rattle.std.proofs.lemmas.Iterator.{YieldsList-from_range, YieldsList-from_map}
use Rattle.std.proofs.lemmas.Iterator.Adapters.{fits_from_length, at_most_from_yields_List}
use Rattle.std.proofs.lemmas.Iterator.Consumers.{YieldsList-at, sum_from_yields_List}
use Rattle.std.proofs.lemmas.List.FromFn.{length-range_with_len}
use Rattle.memory.specs.Layout.{tag_count, uses_size}
use Rattle.memory.specs.Memory.{view, use_at}
use Rattle.memory.specs.Deciding.{charge_by}
use Rattle.memory.proofs.charging.Costing.{range_total}
use Rattle.memory.proofs.charging.cost.Goals as goal

pub sum-charges-requires-clause-fits : goal.sum-charges-requires-clause-fits
sum-charges-requires-clause-fits c =
    let uses = c.args.uses in
    fits_from_length _ _ uses_size _
    (at_most_from_yields_List (YieldsList-at c.map.ensures.source (YieldsList-from_range uses.first uses.end _ refl refl))
    (omega (arith, length-range_with_len uses.first (uses.end - uses.first), c.requires.within)))
    c.map.ensures.closure (omega arith) (λ x r q k. search rules)

pub overflow_add-result : goal.overflow_add-result
overflow_add-result c =
    let uses = c.args.uses in
    let run = c.sum-charges.ensures.runs tt in
    omega (
      arith,
      run.3,
      fits_from_length _ _ uses_size (65536 * uses_size + 1)
          (at_most_from_yields_List (YieldsList-at c.map.ensures.source (YieldsList-from_range uses.first uses.end _ refl refl))
          (omega (arith, length-range_with_len uses.first (uses.end - uses.first), c.requires.within)))
          c.map.ensures.closure (omega arith) (λ x r q k. search rules) run.0 run.0.seen run.1,
    )

pub returns : goal.returns
returns c =
    let uses = c.args.uses in
    let charge : ℕ → ℕ = λ k. charge_by (view c.args.mem.now) (c.args.x % tag_count) (use_at c.args.mem.now k) in
    ap (1 +◌)
    (sum_from_yields_List c.map.result _ c.sum-charges.ensures.ran
    (YieldsList-from_map _ charge (YieldsList-at c.map.ensures.source (YieldsList-from_range uses.first uses.end _ refl refl)) c.map.ensures.closure (λ x r q k. search rules))
    ∙ range_total charge uses.first _)
