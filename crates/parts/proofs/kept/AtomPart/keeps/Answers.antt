-- `parts::kept::AtomPart::keeps` meets its contract. Assumes nothing.
use native.Mathlib.Omega.{arith}
use Rattle.parts.specs.Kept.{size_of}
use Rattle.parts.proofs.Sections.{fact_small, entry_small, pair_small}
use Rattle.parts.proofs.kept.AtomPart.keeps.Goals as goal

pub has_literal-requires : goal.has_literal-requires
unfolding size_of
has_literal-requires c =
    let t = c.args.self.now.table in fact_small t.layout.now t.sizes t.legal c.args.i (rw c.in-Facts.is at c.requires) c.fact.ensures

pub has_rule-requires : goal.has_rule-requires
unfolding size_of
has_rule-requires c = rw c.in-Rules.is at c.requires

pub has_rule-requires-in-Entries : goal.has_rule-requires-in-Entries
unfolding size_of
has_rule-requires-in-Entries c =
    let t = c.args.self.now.table in omega (arith, entry_small t.layout.now t.sizes t.legal c.args.i (rw c.in-Entries.is at c.requires) c.entry.ensures)

pub has_rule-requires-in-Pairs : goal.has_rule-requires-in-Pairs
unfolding size_of
has_rule-requires-in-Pairs c =
    let t = c.args.self.now.table in omega (arith, pair_small t.layout.now t.sizes t.legal c.args.i (rw c.in-Pairs.is at c.requires) c.pair-pair.ensures)

pub has_rule-requires-in-Pairs-2 : goal.has_rule-requires-in-Pairs-2
unfolding size_of
has_rule-requires-in-Pairs-2 c =
    let t = c.args.self.now.table in omega (arith, pair_small t.layout.now t.sizes t.legal c.args.i (rw c.in-Pairs.is at c.requires) c.pair-pair.ensures)
