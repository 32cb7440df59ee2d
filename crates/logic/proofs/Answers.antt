-- The rows of specs/Cases.antt give the answers that they state, by computation. (The prover takes modules by name, so a wrong
-- definition is refused here first.) Assumes nothing.
use lib.Dec.{T}
use Rattle.logic.specs.Tests.{◌and◌, ◌or◌, isnt, every, some, every_of, some_of, empty, total, weigh, upto, pick}
use Rattle.logic.specs.Theory.{is_strict, can_support, strict_for, supporter, attacker, superior}
use Rattle.logic.specs.Inference.{all_have, one_has, follows}
use Rattle.logic.specs.Unfounded.{unfounded}
use Rattle.logic.specs.Largest.{prune, largest}
use Rattle.logic.specs.Worklist.{put, grow, toll_from, step_from, step_if, proceed, run}
use Rattle.logic.specs.Reading.{visits, heads, decides, with_tags, system_of, searches_of}
use Rattle.logic.specs.Cases.{rule, over, theory, row, both, same_list, place_of, verdicts_of, gives, all_give, rows, searched_rows, cases_hold}

pub cases_hold_lem : T cases_hold
unfolding ◌and◌ ◌or◌ isnt every some every_of some_of empty total weigh upto pick is_strict can_support strict_for supporter attacker superior all_have one_has follows put grow proceed run visits heads decides with_tags system_of searches_of toll_from step_from step_if prune largest unfounded rule over theory row both same_list place_of verdicts_of gives all_give rows searched_rows cases_hold
cases_hold_lem = tt
