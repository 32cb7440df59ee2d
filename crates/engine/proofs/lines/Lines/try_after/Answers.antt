-- `Lines::try_after` meets its contract. Assumes nothing.
use Prim.Native.Nat.{◌/◌, ◌%◌}
use lib.Dec.{ltb}
use Rattle.logic.specs.Reading.{heads, visited, with_tags}
use Rattle.memory.specs.Layout.{tag_count}
use Rattle.engine.specs.Working.{family_if}
use Rattle.engine.proofs.run.Opening.{processed}
use Rattle.engine.proofs.run.Trying.{next_coherent, proper_in, tried_of}
use Rattle.engine.proofs.lines.Lines.try_after.Goals as goal

pub add-requires-clause-ready : goal.add-requires-clause-ready
add-requires-clause-ready c =
    let lines = c.args.self.now in
    (lines.logged.ready, c.requires.line.0, c.requires.line.1, c.requires.line.2, next_coherent _ (proper_in lines.table) _ _ _ _ lines.logged c.requires.line.1)

pub returns-clause-processed : goal.returns-clause-processed
returns-clause-processed c =
    let x = c.args.x in
    processed _ c.add.ensures c.try_both.ensures.tried
    (tried_of (λ d. with_tags tag_count (heads d (visited d (family_if (ltb (x % tag_count) 2)) (x / tag_count)))) c.try_both.ensures.lent.table c.try_uses.ensures.tried)
