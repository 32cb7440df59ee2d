-- `memory::inference::defeasibly` meets its contract. Assumes nothing.
use Rattle.memory.specs.Memory.{view}
use Rattle.memory.proofs.inference.Following.{defeasibly_countered, defeasibly_definite, defeasibly_opposed, defeasibly_unsupported}
use Rattle.memory.proofs.inference.defeasibly.Goals as goal

pub returns-then-is_processed : goal.returns-then-is_processed
returns-then-is_processed c = defeasibly_definite (view c.args.mem.now) _ c.is_processed.ensures c.if-is_processed.true

pub returns-then-load-eq0 : goal.returns-then-load-eq0
returns-then-load-eq0 c =
    defeasibly_unsupported (view c.args.mem.now) _ c.is_processed.ensures c.if-is_processed.false c.load.ensures c.if-load-eq0.true

pub returns-then-not-is_processed : goal.returns-then-not-is_processed
returns-then-not-is_processed c =
    defeasibly_opposed (view c.args.mem.now) _ c.is_processed.ensures c.if-is_processed.false c.load.ensures c.if-load-eq0.false
    c.other-n.ensures c.is_processed-2.ensures c.if-not-is_processed.true

pub returns : goal.returns
returns c =
    defeasibly_countered (view c.args.mem.now) _ c.is_processed.ensures c.if-is_processed.false c.load.ensures c.if-load-eq0.false
    c.other-n.ensures c.is_processed-2.ensures c.if-not-is_processed.false c.load-2.ensures c.load-3.ensures
