-- `Lines::try_opposites` meets its contract. Assumes nothing.
use native.Mathlib.Omega.{arith}
use mathlib.Core.Path.{ap}
use Rattle.engine.proofs.run.Trying.{few, first_open, first_written, second_open, opposed, tried_by, tried_on}
use Rattle.engine.proofs.lines.Lines.try_opposites.Goals as goal

pub either_written-requires : goal.either_written-requires
either_written-requires c =
    (omega (arith, (few c.args.self.now.table).atoms), c.requires.1, c.args.self.now.logged.ready.invariant.room)

pub returns-then-either_written-clause-tried : goal.returns-then-either_written-clause-tried
returns-then-either_written-clause-tried c =
    opposed c.args.self.now.table c.requires.0 c.requires.1 c.requires.2 c.args.self.now.logged c.either_written.ensures c.if-either_written.true

pub try_open-requires : goal.try_open-requires
try_open-requires c = (
  c.requires.0,
  omega (arith, c.requires.1),
  first_open c.args.self.now.table c.requires.0 c.requires.1 c.requires.2 c.args.self.now.logged c.either_written.ensures c.if-either_written.false,
)

pub try_open-requires-then-self-count : goal.try_open-requires-then-self-count
try_open-requires-then-self-count c = (
  omega (arith, ap (λ t. t.sizes.atoms) c.try_open.ensures.lent.table),
  omega (arith, c.requires.1),
  second_open c.args.self.now.table c.requires.0 c.requires.1 c.requires.2 c.args.self.now.logged c.either_written.ensures c.if-either_written.false
      c.try_open.ensures.tried c.if-self-count.true,
)

pub returns-then-self-count-clause-tried : goal.returns-then-self-count-clause-tried
returns-then-self-count-clause-tried c = tried_on _ c.try_open.ensures.tried (tried_by c.try_open.ensures.lent.table c.try_open-then-self-count.ensures.tried)

pub returns-else-self-count-clause-tried : goal.returns-else-self-count-clause-tried
returns-else-self-count-clause-tried c =
    first_written c.args.self.now.table c.requires.0 c.requires.1 c.requires.2 c.args.self.now.logged c.try_open.ensures.tried c.if-self-count.false
