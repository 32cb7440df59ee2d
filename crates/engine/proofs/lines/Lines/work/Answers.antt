-- `Lines::work` meets its contract. Assumes nothing.
use Rattle.engine.proofs.run.Lending.{lent_none, lent_then}
use Rattle.engine.proofs.run.Trying.{lines_most, proper_in}
use Rattle.engine.proofs.run.Worklist.{lined_by, reached_by}
use Rattle.engine.proofs.run.Rounds.{opened_reached, turns_start, turns_asks, one_of_two, turns_next, turns_less, turns_end, searched_by}
use Rattle.engine.proofs.lines.Lines.work.Goals as goal

pub loop-more-init : goal.loop-more-init
loop-more-init c =
    let l = c.args.self.now in record {
      turns =
          turns_start c.args.reading _ (proper_in l.table) c.args.budget (opened_reached l.logged c.requires.opened.1 c.requires.paid.1) c.requires.opened.0 c.requires.paid.0 c.requires.paid.1;
      lent = lent_none;
    }

pub work_lines-quiet-requires : goal.work_lines-quiet-requires
work_lines-quiet-requires c = reached_by c.loop-more.invariant.lent.table c.loop-more.invariant.turns.reached

pub searches_next-more-requires : goal.searches_next-more-requires
searches_next-more-requires c = c.work_lines-quiet.ensures.lined.reached.within

pub search_if-tally-requires : goal.search_if-tally-requires
search_if-tally-requires c =
    let i = c.loop-more.invariant in
    λ u. turns_asks c.args.reading _ (proper_in c.args.self.now.table) c.args.budget _ _ _ _ _ _ _ _ _ i.turns c.args.start c.requires.paid.0 _ _ _ _ (lined_by i.lent.table c.work_lines-quiet.ensures.lined) _ c.searches_next-more.ensures u
    c.ranges.budget.fits

pub idle_after-idle-requires : goal.idle_after-idle-requires
idle_after-idle-requires c =
    let i = c.loop-more.invariant in
    one_of_two c.args.reading _ (proper_in c.args.self.now.table) c.args.budget _ _ _ _ _ _ _ _ _ i.turns c.args.start c.requires.paid.0 _ _ _ _ (lined_by i.lent.table c.work_lines-quiet.ensures.lined) _ c.searches_next-more.ensures

pub loop-more-smaller : goal.loop-more-smaller
loop-more-smaller c =
    let table = c.args.self.now.table in let p = proper_in table in let i = c.loop-more.invariant in
    let lent = lent_then i.lent c.work_lines-quiet.ensures.lent in
    let lined = lined_by i.lent.table c.work_lines-quiet.ensures.lined in
    let searched = searched_by lent.table c.search_if-tally.ensures.searched in
    let turned =
    turns_next c.args.reading _ p c.args.budget _ _ _ _ _ _ _ _ _ i.turns c.args.start c.requires.paid.0 _ _ _ _ lined _ c.searches_next-more.ensures searched c.idle_after-idle.ensures in
    turns_less c.args.reading _ p c.args.budget _ _ _ _ _ _ _ _ _ i.turns c.args.start c.requires.paid.0 _ _ _ _ lined _ c.searches_next-more.ensures searched c.idle_after-idle.ensures
    c.loop-more-test.true (lines_most _ p _ _ _ turned.reached.logged)

pub loop-more-preserved : goal.loop-more-preserved
loop-more-preserved c =
    let p = proper_in c.args.self.now.table in let i = c.loop-more.invariant in
    let lent = lent_then i.lent c.work_lines-quiet.ensures.lent in record {
      turns =
          turns_next c.args.reading _ p c.args.budget _ _ _ _ _ _ _ _ _ i.turns c.args.start c.requires.paid.0 _ _ _ _
          (lined_by i.lent.table c.work_lines-quiet.ensures.lined) _ c.searches_next-more.ensures (searched_by lent.table c.search_if-tally.ensures.searched) c.idle_after-idle.ensures;
      lent = lent_then lent c.search_if-tally.ensures.lent;
    }

pub returns-clause-worked : goal.returns-clause-worked
returns-clause-worked c =
    turns_end c.args.reading _ (proper_in c.args.self.now.table) c.args.budget _ _ _ _ _ _ _ _ _ c.loop-more.invariant.turns c.loop-more-test.false
    c.search_count.ensures c.both-finished.ensures c.answer_at.ensures
