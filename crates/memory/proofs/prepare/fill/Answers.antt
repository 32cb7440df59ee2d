-- `memory::prepare::fill` meets its contract. Assumes nothing.
use Rattle.memory.proofs.index.Filling.{blank_facts, low_2, low_3, room_1, room_5, room_6, ruled_3, started_none, unpaired_3, uses_5, uses_6}
use Rattle.memory.proofs.prepare.fill.Goals as goal

pub mark_facts-requires : goal.mark_facts-requires
mark_facts-requires c =
    (room_1 _ _ c.args.table.legal c.requires c.add_rules.ensures, blank_facts _ _ c.args.table.legal c.requires c.add_rules.ensures)

pub add_entries-requires : goal.add_entries-requires
add_entries-requires c =
    low_2 _ _ c.args.table.legal c.requires c.add_rules.ensures c.mark_facts.ensures

pub count_pairs-requires : goal.count_pairs-requires
count_pairs-requires c = (
  low_3 _ _ c.args.table.legal c.requires c.add_rules.ensures c.mark_facts.ensures c.add_entries.ensures,
  ruled_3 _ _ c.args.table.legal c.requires c.add_rules.ensures c.mark_facts.ensures c.add_entries.ensures,
  unpaired_3 _ _ c.args.table.legal c.requires c.add_rules.ensures c.mark_facts.ensures c.add_entries.ensures,
)

pub begin_uses-requires : goal.begin_uses-requires
begin_uses-requires c = (
  room_5 _ _ c.args.table.legal c.requires c.add_rules.ensures c.mark_facts.ensures c.add_entries.ensures
      c.count_pairs.ensures c.mark_firsts.ensures,
  uses_5 _ _ c.args.table.legal c.requires c.add_rules.ensures c.mark_facts.ensures c.add_entries.ensures
      c.count_pairs.ensures c.mark_firsts.ensures,
)

pub place_uses-requires : goal.place_uses-requires
place_uses-requires c = (
  room_6 _ _ c.args.table.legal c.requires c.add_rules.ensures c.mark_facts.ensures c.add_entries.ensures
      c.count_pairs.ensures c.mark_firsts.ensures c.begin_uses.ensures,
  uses_6 _ _ c.args.table.legal c.requires c.add_rules.ensures c.mark_facts.ensures c.add_entries.ensures
      c.count_pairs.ensures c.mark_firsts.ensures c.begin_uses.ensures,
)

pub returns : goal.returns
returns c =
    started_none _ _ c.args.table.legal c.requires c.add_rules.ensures c.mark_facts.ensures c.add_entries.ensures
    c.count_pairs.ensures c.mark_firsts.ensures c.begin_uses.ensures c.place_uses.ensures
