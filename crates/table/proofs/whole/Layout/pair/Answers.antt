-- `table::whole::Layout::pair` meets its contract. Assumes nothing.
use mathlib.Core.Path.{sym, ◌∙◌}
use Rattle.table.specs.Format.{pairs_from}
use Rattle.table.proofs.Legal.{left_in_lem, right_in_lem}
use Rattle.table.proofs.whole.Layout.pair.Goals as goal

pub returns : goal.returns
returns c =
    let args = c.args in let bytes = args.self.bytes.now in let s = args.self.sizes in let below = c.requires in
    λ k. record { stronger = (c.pair_of.ensures.0 ∙ c.words_within.ensures.0 ∙ sym (left_in_lem bytes (pairs_from s) s.pairs args.i below)) k; weaker = (c.pair_of.ensures.1 ∙ c.words_within.ensures.1 ∙ sym (right_in_lem bytes s (pairs_from s) s.pairs args.i below)) k }
