-- `Lines::search_if` meets its contract. Assumes nothing.
use native.Mathlib.Omega.{arith}
use mathlib.Core.Path.{refl}
use Rattle.logic.proofs.Tests.{of_true, of_false}
use Rattle.engine.proofs.lines.Lines.search_if.Goals as goal

pub returns-then-not-test-clause-searched : goal.returns-then-not-test-clause-searched
returns-then-not-test-clause-searched c =
    let test = c.args.test in
    record { made = λ t. absurd (of_false test c.if-not-test.true t); none = λ _. (refl, refl, refl, refl) }

pub search-requires : goal.search-requires
search-requires c = let asks = c.requires (of_true c.args.test c.if-not-test.false) in (asks.search, asks.held)

pub overflow_add-result : goal.overflow_add-result
overflow_add-result c = record { fits = omega (arith, (c.requires (of_true c.args.test c.if-not-test.false)).small) }

pub returns-clause-searched : goal.returns-clause-searched
returns-clause-searched c = record { made = λ _. (c.search.ensures.searched, refl); none = λ n. absurd (n (of_true c.args.test c.if-not-test.false)) }
