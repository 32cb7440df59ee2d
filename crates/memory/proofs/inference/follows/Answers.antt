-- `memory::inference::follows` meets its contract: each tag's test is its inference rule (proofs/inference/Following.antt). Assumes nothing.
use native.Mathlib.Omega.{arith}
use Rattle.logic.specs.Reading.{system_of}
use Rattle.memory.proofs.inference.Following.{follows_0, follows_1, follows_2, follows_3, test_asks}
use Rattle.memory.proofs.inference.follows.Goals as goal

pub definitely-requires : goal.definitely-requires
definitely-requires c = test_asks _ _ _ _ c.args.table.legal c.requires

pub not_definitely-requires : goal.not_definitely-requires
not_definitely-requires c = test_asks _ _ _ _ c.args.table.legal c.requires

pub defeasibly-requires : goal.defeasibly-requires
defeasibly-requires c = test_asks _ _ _ _ c.args.table.legal c.requires

pub not_defeasibly-requires : goal.not_defeasibly-requires
not_defeasibly-requires c = test_asks _ _ _ _ c.args.table.legal c.requires

pub returns-in-0 : goal.returns-in-0
unfolding system_of
returns-in-0 c = follows_0 _ _ _ _ c.args.table.legal c.requires c.in-0.is c.definitely.ensures

pub returns-in-1 : goal.returns-in-1
unfolding system_of
returns-in-1 c = follows_1 _ _ _ _ c.args.table.legal c.requires c.in-1.is c.not_definitely.ensures

pub returns-in-2 : goal.returns-in-2
unfolding system_of
returns-in-2 c = follows_2 _ _ _ _ c.args.table.legal c.requires c.in-2.is c.defeasibly.ensures

pub returns-in_default : goal.returns-in_default
unfolding system_of
returns-in_default c = follows_3 _ _ _ _ c.args.table.legal c.requires (omega arith) c.not_defeasibly.ensures
