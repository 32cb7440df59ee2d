-- The kind that a match has found. Assumes nothing.
use Prim.Native.Nat.{ℕ}
use mathlib.Core.Path.{◌≡◌, refl, sym, ◌∙◌, ap}
use mathlib.Core.List.{[], ◌∷◌}
use lib.ListN.{get_or}
use denote.Enum.Declared
use Rattle.table.specs.declared.format.Kind.{Kind}
use Rattle.table.specs.declared.format.Kind.TheVariants.{Strict, Defeasible, Defeater}
use Rattle.table.specs.contracts.format.Kind.{the_type}

-- by the tag that a match looks at
unfoldable pub kind_at : ℕ → Kind
kind_at t = get_or (Strict ∷ Defeasible ∷ Defeater ∷ []) t Defeater

of_tag : (k : Kind) → kind_at (Declared.tag_of the_type k) ≡ k
unfolding kind_at
of_tag Strict = refl
of_tag Defeasible = refl
of_tag Defeater = refl

pub kind_at_lem : (k : Kind) {t : ℕ} → Declared.tag_of the_type k ≡ t → kind_at t ≡ k
kind_at_lem k e = ap kind_at (sym e) ∙ of_tag k
