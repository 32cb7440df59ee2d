-- `searching::outside::is_founding` meets its contract. Assumes nothing.
use Prim.Native.Nat.{◌*◌, ◌<◌}
use mathlib.Core.Path.{sym, subst}
use Rattle.table.specs.Format.{theory_in}
use Rattle.searching.proofs.Losing.{founds_not, founds_so}
use Rattle.searching.proofs.Ends.{orderly}
use Rattle.searching.proofs.outside.is_founding.Goals as goal

pub returns-then-n-body_size : goal.returns-then-n-body_size
returns-then-n-body_size c = founds_not _ _ _ _ _ c.body_size.ensures c.if-n-body_size.true

pub is_secure-requires : goal.is_secure-requires
unfolding theory_in
is_secure-requires c =
    let t = c.args.search.table in
    subst (λ q. q < 2 * t.sizes.atoms) (sym c.requires.1) ((orderly _ _ t.legal).heads _ c.requires.0)

pub returns : goal.returns
returns c =
    founds_so _ _ _ _ _ c.body_size.ensures c.if-n-body_size.false c.requires.1 c.is_needy-needy.ensures c.is_secure.ensures c.both.ensures
