-- `Lines::search` meets its contract. Assumes nothing.
use Rattle.engine.proofs.lines.Lines.search.Goals as goal

pub find-requires : goal.find-requires
find-requires c = (c.nothing-outside.ensures, c.args.self.now.logged.ready, c.requires.0)
