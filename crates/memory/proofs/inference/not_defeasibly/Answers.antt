-- `memory::inference::not_defeasibly` meets its contract. Assumes nothing.
use Rattle.memory.specs.Memory.{view}
use Rattle.memory.proofs.inference.Following.{not_defeasibly_beaten, not_defeasibly_open, not_defeasibly_refuted, not_defeasibly_unsupported}
use Rattle.memory.proofs.inference.not_defeasibly.Goals as goal

pub returns-then-not-is_processed : goal.returns-then-not-is_processed
returns-then-not-is_processed c = not_defeasibly_open (view c.args.mem.now) _ c.is_processed.ensures c.if-not-is_processed.true

pub returns-then-load : goal.returns-then-load
returns-then-load c =
    not_defeasibly_unsupported (view c.args.mem.now) _ c.is_processed.ensures c.if-not-is_processed.false c.load.ensures
    c.load-2.ensures c.if-load.true

pub returns-then-is_processed : goal.returns-then-is_processed
returns-then-is_processed c =
    not_defeasibly_refuted (view c.args.mem.now) _ c.is_processed.ensures c.if-not-is_processed.false c.load.ensures
    c.load-2.ensures c.if-load.false c.other-n.ensures c.is_processed-2.ensures c.if-is_processed.true

pub returns : goal.returns
returns c =
    not_defeasibly_beaten (view c.args.mem.now) _ c.is_processed.ensures c.if-not-is_processed.false c.load.ensures
    c.load-2.ensures c.if-load.false c.other-n.ensures c.is_processed-2.ensures c.if-is_processed.false c.load-3.ensures
