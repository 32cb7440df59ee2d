-- `parts::kept::Renumbered::write_kept` meets its contract. The loop's invariant: the rows passed are written. Assumes nothing.
use Rattle.parts.proofs.Rows.{PutTo}
use Rattle.parts.proofs.kept.Renumbered.write_kept.Given as goal

abbrev pub invariant-loop-i : goal.invariant-loop-i
invariant-loop-i l = PutTo l.self.part.table.layout.now l.self.part.table.sizes l.self.part.atom l.side l.section l.initial.out l.at l.i l.place l.out
