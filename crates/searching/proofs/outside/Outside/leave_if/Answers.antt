-- `Outside::leave_if` meets its contract. Assumes nothing.
use native.Mathlib.Omega.{arith}
use mathlib.Core.Path.{◌≡◌}
use lib.ListN.{length}
use Rattle.std.proofs.Common.{rules}
use Rattle.searching.proofs.Leaving.{leave_more, leave_not, leave_again}
use Rattle.searching.proofs.outside.Outside.leave_if.Goals as goal
use Rattle.searching.proofs.outside.Outside.leave_if.Goals.{else-test-via-then-test+else-self-q-eq0, else-test-via-else-test}

pub returns-then-self-q-eq0-clause-leaves : goal.returns-then-self-q-eq0-clause-leaves
returns-then-self-q-eq0-clause-leaves c =
    let places : length c.args.self.now.list ≡ 1024 = search rules in
    leave_more _ _ _ _ _ c.if-test.true c.if-self-q-eq0.true (omega (arith, places, c.requires.2 c.if-self-q-eq0.true))

pub returns-else-test-clause-leaves : goal.returns-else-test-clause-leaves
returns-else-test-clause-leaves c =
    let places : length c.args.self.now.list ≡ 1024 = search rules in
    elim c.else-test.branch [
      | else-test-via-then-test+else-self-q-eq0 w ↦ leave_again _ _ _ _ _ w.if-self-q-eq0.false (omega (arith, places, c.requires.1))
      | else-test-via-else-test w ↦ leave_not _ _ _ _ _ w.if-test.false (omega (arith, places, c.requires.1))
    ]
