-- `memory::prepare::clear` meets its contract. Assumes nothing.
use Rattle.std.proofs.Common.{◌++◌, ◌∙◌, ap, drop, replicate}
use Rattle.std.proofs.lemmas.List.{length-take-le}
use Rattle.memory.specs.Layout.{memory_size}
use Rattle.memory.proofs.prepare.clear.Goals as goal

pub returns : goal.returns
returns c =
    let mem = c.args.mem.now in
    ap (λ front. front ++ drop memory_size mem) (c.fill.ensures.after (λ _ e. e) ∙ ap (λ n. replicate n 0) (length-take-le memory_size mem c.requires))
