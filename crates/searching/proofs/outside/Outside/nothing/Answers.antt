-- `Outside::nothing` meets its contract. Assumes nothing.
use lib.ListN.{get_or-replicate}
use mathlib.Core.Path.{refl}
use Rattle.searching.proofs.outside.Outside.nothing.Goals as goal

pub returns : goal.returns
returns c = record { end = refl; gone = λ q h. get_or-replicate 1024 q 0 0 h; lost = λ r h. get_or-replicate 1024 r 0 0 h }
