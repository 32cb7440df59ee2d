-- `memory::prepare::prepare` meets its contract. Assumes nothing.
use mathlib.Core.Path.{refl}
use Rattle.memory.proofs.index.Starting.{cleared_kept, cleared_low, prepared}
use Rattle.memory.proofs.Views.{kept_then}
use Rattle.memory.specs.Layout.{memory_size}
use Rattle.memory.proofs.prepare.prepare.Goals as goal

pub fill-requires : goal.fill-requires
fill-requires c =
    cleared_low memory_size refl c.args.mem.now c.clear.new.mem c.requires c.clear.ensures

pub returns : goal.returns
returns c =
    prepared _ _ c.start.ensures
    (kept_then (cleared_kept memory_size refl c.args.mem.now c.clear.new.mem c.requires c.clear.ensures) c.fill.ensures.kept)
