-- The marked cases give what specs/Cases.antt states, by computation. (The prover takes modules by name, so a wrong definition is
-- refused here first.) Assumes nothing.
use lib.Dec.{T}
use Rattle.logic.specs.Tests.{◌and◌, ◌or◌, isnt, every, some, every_of, some_of, empty, total, weigh, upto, pick}
use Rattle.logic.specs.Theory.{is_strict, can_support, strict_for, supporter, attacker, superior}
use Rattle.logic.specs.Inference.{all_have, one_has, follows}
use Rattle.logic.specs.Worklist.{put, grow, toll_from, step_from, step_if, proceed, run}
use Rattle.logic.specs.Reading.{visits, heads, decides, with_tags, system_of, searches_of}
use Rattle.logic.specs.Largest.{prune, largest}
use Rattle.logic.specs.Cycle.{cyclic}
use Rattle.logic.specs.Cases.{same_list}
use Rattle.table.specs.Editions.{layout_of, unmarked}
use Rattle.table.specs.Format.{word, left_in, right_in, kind_of, kind_meant, body_in, theory_in}
use Rattle.table.specs.Refusals.{truncated, oversize, wrong_length, bad_fact, bad_left, bad_rule, bad_kind, out_of_range, section_from, section_size, left_from, rises, disorder, cycle, judged, judgement_of}
use Rattle.engine.specs.Answers.{numbers_of, with_buffers, answer_to, log_after}
use Rattle.report.specs.Text.{digits, decimal, word_of}
use Rattle.report.specs.Sheet.{atom_line, atom_lines, count_line, spent_line, run_sheet, refused_sheet, sheet_by}
use Rattle.report.specs.Cases.{bytes_of, row, verdicts_of, words_of, same_numbers, gives_by, gives, all_give, case_one, rows, case_one_sheet, cases_hold}

pub cases_hold_lem : T cases_hold
unfolding ◌and◌ ◌or◌ isnt every some every_of some_of empty total weigh upto pick is_strict can_support strict_for supporter attacker superior all_have one_has follows put grow toll_from step_from step_if proceed run visits heads decides with_tags system_of searches_of prune largest cyclic same_list layout_of unmarked word left_in right_in kind_of kind_meant body_in theory_in truncated oversize wrong_length bad_fact bad_left bad_rule bad_kind out_of_range section_from section_size left_from rises disorder cycle judged judgement_of numbers_of with_buffers answer_to log_after digits decimal word_of atom_line atom_lines count_line spent_line run_sheet refused_sheet sheet_by bytes_of row verdicts_of words_of same_numbers gives_by gives all_give case_one rows case_one_sheet cases_hold
cases_hold_lem = tt
