-- `parts::chains::Parents::chain_entries` meets its contract. The loop's invariant: the entries passed are taken in. Assumes nothing.
use native.Mathlib.Omega.{arith}
use Rattle.parts.proofs.Smallest.{head_read, literal_read, head_atom_below, literal_atom_below, chained_none, chained_next}
use Rattle.parts.proofs.chains.Parents.chain_entries.Goals as goal

pub loop-i-init : goal.loop-i-init
loop-i-init c = chained_none c.args.table.layout.now c.args.table.sizes c.requires

pub chain-requires : goal.chain-requires
chain-requires c =
    let t = c.args.table in let b = t.layout.now in let s = t.sizes in let i = c.loop-i.i in (
      head_atom_below b s t.legal i (omega arith) (head_read b s i c.entry-entry.ensures c.from.ensures c.rule-rule.ensures c.atom.ensures),
      literal_atom_below b s t.legal i (omega arith) (literal_read b s i c.entry-entry.ensures c.atom-in-loop-i.ensures),
    )

pub loop-i-preserved : goal.loop-i-preserved
loop-i-preserved c =
    let b = c.args.table.layout.now in let s = c.args.table.sizes in let i = c.loop-i.i in
    chained_next b s i (head_read b s i c.entry-entry.ensures c.from.ensures c.rule-rule.ensures c.atom.ensures)
    (literal_read b s i c.entry-entry.ensures c.atom-in-loop-i.ensures) c.loop-i.invariant c.chain.ensures
