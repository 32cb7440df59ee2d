-- `standing::stands::stands` meets its contract. Assumes nothing.
use Rattle.standing.proofs.Answering.{answer_accepted}
use Rattle.standing.proofs.stands.stands.Goals as goal

pub returns : goal.returns
returns c =
    let args = c.args in
    answer_accepted _ args.table.now args.rule args.log.now c.stands_in.result c.in_ok-accepted.ensures.0 c.in_ok-accepted.ensures.1 c.stands_in.ensures
