-- `writing::columns::write_rules` meets its contract. The loop's invariant: the column of the rules passed is written. Assumes nothing.
use Rattle.table.specs.Format.{rule_at}
use Rattle.files.specs.Contents.{rule_row}
use Rattle.writing.proofs.Appending.{column_none, column_next, left_word}
use Rattle.writing.proofs.columns.write_rules.Goals as goal

pub loop-i-init : goal.loop-i-init
loop-i-init c =
    let args = c.args in
    column_none args.side (λ i. rule_row (rule_at args.layout.now args.s i)) args.out.now args.at

pub loop-i-preserved : goal.loop-i-preserved
loop-i-preserved c =
    let args = c.args in
    column_next args.side (λ i. rule_row (rule_at args.layout.now args.s i)) args.out.now args.at c.loop-i.i c.loop-i.invariant
    (left_word args.side c.read_rule-rule.ensures c.left_of.ensures c.word_in.ensures) c.put_word.ensures
