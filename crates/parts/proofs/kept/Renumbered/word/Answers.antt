-- `parts::kept::Renumbered::word` meets its contract. Assumes nothing.
use native.Mathlib.Omega.{arith}
use Rattle.parts.specs.Kept.{size_of}
use Rattle.parts.proofs.Sections.{entry_small, pair_small}
use Rattle.parts.proofs.kept.Renumbered.word.Goals as goal

pub number-requires : goal.number-requires
unfolding size_of
number-requires c =
    let t = c.args.self.now.part.table in entry_small t.layout.now t.sizes t.legal c.args.i (rw c.in-Entries.is at c.requires) c.entry-entry.ensures

pub number-requires-in-Pairs : goal.number-requires-in-Pairs
unfolding size_of
number-requires-in-Pairs c =
    let t = c.args.self.now.part.table in omega (arith, pair_small t.layout.now t.sizes t.legal c.args.i (rw c.in-Pairs.is at c.requires) c.pair-pair.ensures)

pub number-requires-in-Pairs-2 : goal.number-requires-in-Pairs-2
unfolding size_of
number-requires-in-Pairs-2 c =
    let t = c.args.self.now.part.table in omega (arith, pair_small t.layout.now t.sizes t.legal c.args.i (rw c.in-Pairs.is at c.requires) c.pair-pair.ensures)
