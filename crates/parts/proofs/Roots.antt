-- Arrays of parents: what a store to one keeps, and where the way up from an atom ends. Assumes nothing.
use Prim.Native.Nat.{ℕ, ◌≤◌, ◌<◌}
use native.Mathlib.Omega.{arith}
use mathlib.Core.Path.{◌≡◌, sym, ◌∙◌, subst}
use mathlib.Core.Bool.{cond}
use mathlib.Core.List.{List}
use Rattle.std.proofs.lemmas.Grind.{common_steps}
use borrow.Author.Tests.{lt-ltb, le-ltb}
use lib.Dec.{eqb}
use lib.ListN.{length, get_or, set}
use Rattle.parts.specs.Chains.{Falling, Rooted, Climbed, lower, upper, chained, Chained}

-- a store of an atom that is not larger than its place
falling_set : (p : List ℕ) (i v : ℕ) → Falling p → i < 512 → v ≤ i → Falling (set p i v)
falling_set p i v f h l = grind (arith, common_steps)

-- on the way up from an atom
pub record Climbing (parents : List ℕ) (atom : ℕ) (parents' : List ℕ) (a : ℕ) : Type 0 where
  pub falling : Falling parents'
  pub below : a < 512
  pub root : (f : ℕ → ℕ) → Rooted f parents → (f a ≡ f atom) × Rooted f parents'

-- its parent's parent for its parent
climb_falls : (q : List ℕ) (a : ℕ) → Falling q → a < 512 → Falling (set q a (get_or q (get_or q a 0) 0))
climb_falls q a f h = grind (arith, common_steps)

climb_rooted : (q : List ℕ) (a : ℕ) (f : ℕ → ℕ) → Falling q → a < 512 → Rooted f q → Rooted f (set q a (get_or q (get_or q a 0) 0))
climb_rooted q a f w h r = grind (arith, common_steps)

-- one atom up
climb_up : (p : List ℕ) (atom : ℕ) (q : List ℕ) (a : ℕ) → Climbing p atom q a
    → Climbing p atom (set q a (get_or q (get_or q a 0) 0)) (get_or q (get_or q a 0) 0)
climb_up p atom q a c =
    let up : get_or q a 0 < 512 = omega (arith, c.falling.falls a c.below) in
    record {
      falling = climb_falls q a c.falling c.below;
      below = omega (arith, c.falling.falls (get_or q a 0) up);
      root = λ f r. let (g, s) = c.root f r in (s.up (get_or q a 0) up ∙ s.up a c.below ∙ g, climb_rooted q a f c.falling c.below s);
    }

pub climb_next : (p : List ℕ) (atom : ℕ) (q : List ℕ) (a : ℕ) {i j k : ℕ} → Climbing p atom q a → i ≡ a → k ≡ a → j ≡ get_or q i 0
    → Climbing p atom (set q k (get_or q j 0)) (get_or q j 0)
climb_next p atom q a c e f g = rw (g, e, f) (climb_up p atom q a c)

-- of two numbers the larger and the smaller
ordered : (P : ℕ → ℕ → Type 0) (x y : ℕ) → (x < y → P y x) → (y ≤ x → P x y) → P (upper x y) (lower x y)
ordered P x y l r = grind (arith, common_steps)

-- a root has another for its parent
module _ (f : ℕ → ℕ) (high low : ℕ) (e : f high ≡ high) (g : f low ≡ low) where
  abbrev joined : ℕ → ℕ
  joined z = cond (eqb (f z) high) low (f z)

  joined_rooted : (p : List ℕ) → Rooted f p → high < length p → Rooted joined (set p high low)
  joined_rooted p r h = grind (arith, common_steps)

-- the larger of two roots has the smaller for its parent
module _ (p q q' : List ℕ) (a b x y : ℕ) (c : Climbed p a q x) (c' : Climbed q b q' y) where
  chain_joined : Chained p a b (set q' (upper x y) (lower x y))
  unfolding chained
  chain_joined =
      record {
        falling =
            ordered (λ h l. Falling (set q' h l)) x y (λ l. falling_set q' y x c'.falling c'.below (omega arith)) (falling_set q' x y c'.falling c.below);
        roots = λ f r.
            let (e, t, s) = c.root f r in
            let (e', t', s') = c'.root f s in
            let (top, top', h) =
            ordered (λ h l. (f h ≡ h) × (f l ≡ l) × (h < length q')) x y (λ _. (t', t, omega (arith, c'.falling.size, c'.below)))
            (λ _. (t, t', omega (arith, c'.falling.size, c.below))) in
            subst (λ u. Rooted (λ z. cond (eqb (f z) (upper u (f b))) (lower u (f b)) (f z)) (set q' (upper x y) (lower x y))) e
            (subst (λ u. Rooted (λ z. cond (eqb (f z) (upper x u)) (lower x u) (f z)) (set q' (upper x y) (lower x y))) e'
            (joined_rooted f (upper x y) (lower x y) top top' q' s' h));
      }

  pub chain_right : (i : ℕ) → i ≡ y → x < y → Chained p a b (set q' i x)
  chain_right i g l = subst (λ k. Chained p a b (set q' k x)) (sym g) (rw (lt-ltb x y l) at chain_joined)

  pub chain_left : (i : ℕ) → i ≡ x → y ≤ x → Chained p a b (set q' i y)
  chain_left i g l = subst (λ k. Chained p a b (set q' k y)) (sym g) (rw (le-ltb x y l) at chain_joined)

-- from the smallest atom on each has its root for its parent, up to the a-th
pub record FlatTo (parents parents' : List ℕ) (a : ℕ) : Type 0 where
  pub falling : Falling parents'
  pub rooted : (f : ℕ → ℕ) → Rooted f parents → Rooted f parents'
  pub roots : (f : ℕ → ℕ) → Rooted f parents → (k : ℕ) → k < a → get_or parents' k 0 ≡ f k
