-- `engine::rounds::searches_next` meets its contract. Assumes nothing.
use Prim.Native.Nat.{◌-◌}
use mathlib.Core.Path.{◌∙◌, ap}
use lib.Dec.{leb, ltb}
use Rattle.logic.specs.Tests.{◌and◌}
use Rattle.engine.proofs.run.Rounds.{three_tests}
use Rattle.engine.proofs.rounds.searches_next.Goals as goal

pub returns : goal.returns
returns c =
    let args = c.args in
    three_tests (leb args.lines args.tally.worked) _ (leb args.start (args.budget - args.tally.spent))
    (c.both-due.ensures ∙ ap (λ n. leb args.lines args.tally.worked and ltb args.idle n) c.search_count.ensures) c.both.ensures
