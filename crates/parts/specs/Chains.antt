-- Atoms chained together, as an array of parents, each in the part of its atom.
use Rattle.std.specs.Prelude.{ℕ, zero, suc, ◌≤◌, ◌<◌, ◌≡◌, cond, List, ltb, eqb, length, get_or}
use Rattle.logic.specs.Theory.{Theory, atom}
use Rattle.logic.specs.Parts.{smallest}
use Rattle.table.specs.declared.format.Sizes.{Sizes}
use Rattle.table.specs.Format.{rule_at, entry_at}

-- no parent is larger than its atom
pub record Falling (parents : List ℕ) : Type 0 where
  pub size : length parents ≡ 512
  pub falls : (a : ℕ) → a < 512 → get_or parents a 0 ≤ a

-- each atom its own parent
pub record Alone (parents : List ℕ) : Type 0 where
  pub size : length parents ≡ 512
  pub own : (a : ℕ) → a < 512 → get_or parents a 0 ≡ a

-- f gives the root of each atom: that of its parent, and an atom that is its own parent is its root
pub record Rooted (f : ℕ → ℕ) (parents : List ℕ) : Type 0 where
  pub up : (a : ℕ) → a < 512 → f (get_or parents a 0) ≡ f a
  pub top : (a : ℕ) → a < 512 → get_or parents a 0 ≡ a → f a ≡ a

-- the way from an atom to its parent, and so on, ends at its root, and changes no root
pub record Climbed (parents : List ℕ) (atom : ℕ) (parents' : List ℕ) (r : ℕ) : Type 0 where
  pub falling : Falling parents'
  pub below : r < 512
  pub root : (f : ℕ → ℕ) → Rooted f parents → (r ≡ f atom) × (f r ≡ r) × Rooted f parents'

-- the roots once the parts of a and b are one: the smaller root for the larger
abbrev pub lower : ℕ → ℕ → ℕ
lower x y = cond (ltb x y) x y

abbrev pub upper : ℕ → ℕ → ℕ
upper x y = cond (ltb x y) y x

unfoldable pub chained : (ℕ → ℕ) → ℕ → ℕ → ℕ → ℕ
chained f a b z = cond (eqb (f z) (upper (f a) (f b))) (lower (f a) (f b)) (f z)

pub record Chained (parents : List ℕ) (a b : ℕ) (parents' : List ℕ) : Type 0 where
  pub falling : Falling parents'
  pub roots : (f : ℕ → ℕ) → Rooted f parents → Rooted (chained f a b) parents'

-- the roots once the first n entries of a layout were taken in: each chains the atom of its literal to that of its rule's head
unfoldable pub roots_by : List ℕ → Sizes → ℕ → ℕ → ℕ
roots_by b s zero a = a
roots_by b s (suc n) a = chained (roots_by b s n) (atom (rule_at b s (entry_at b s n).rule).head.0) (atom (entry_at b s n).literal.0) a

pub record ChainedBy (b : List ℕ) (s : Sizes) (n : ℕ) (parents : List ℕ) : Type 0 where
  pub falling : Falling parents
  pub roots : Rooted (roots_by b s n) parents

-- each parent a root
pub record Flat (parents parents' : List ℕ) : Type 0 where
  pub size : length parents' ≡ 512
  pub roots : (f : ℕ → ℕ) → Rooted f parents → (a : ℕ) → a < 512 → get_or parents' a 0 ≡ f a

-- the smallest atom of each atom's part
pub record Words (d : Theory) (words : List ℕ) : Type 0 where
  pub size : length words ≡ 512
  pub each : (a : ℕ) → a < d.atoms → get_or words a 0 ≡ smallest d a
