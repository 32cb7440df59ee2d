-- `parts::kept::AtomPart::sizes` meets its contract. Assumes nothing.
use Rattle.parts.specs.declared.kept.Section.TheVariants.{Facts, Rules, Entries, Pairs}
use Rattle.parts.specs.Kept.{size_of}
use Rattle.parts.proofs.Rows.{count_is}
use Rattle.parts.proofs.kept.AtomPart.sizes.Goals as goal

pub returns : goal.returns
unfolding size_of
returns c =
    let p = c.args.self.now in let b = p.table.layout.now in let s = p.table.sizes in
    λ k. record {
      atoms = s.atoms;
      facts = count_is b s p.atom Facts c.count_kept.ensures k;
      rules = count_is b s p.atom Rules c.count_kept-2.ensures k;
      entries = count_is b s p.atom Entries c.count_kept-3.ensures k;
      pairs = count_is b s p.atom Pairs c.count_kept-4.ensures k;
    }
