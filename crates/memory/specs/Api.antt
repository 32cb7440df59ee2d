-- What the working memory promises to the run above it.
use Rattle.std.specs.Prelude.{ℕ, ◌+◌, ◌%◌, ◌≤◌, ◌<◌, ◌≡◌, Bool, false, List, eqb, length, drop}
use Rattle.logic.specs.Tests.{◌or◌, total}
use Rattle.logic.specs.Theory.{Theory, complement}
use Rattle.memory.specs.Layout.{tag_count, field_size, uses_size, memory_size}
use Rattle.memory.specs.Fields.{mark, has, size_f}
use Rattle.memory.specs.Memory.{view, use_at, held_of, written_of, users, Invariant, Ready}
use Rattle.memory.specs.Deciding.{cost_by}

-- a test with one number more
abbrev pub adds : (ℕ → Bool) → ℕ → ℕ → Bool
adds h x y = h y or eqb y x

-- the uses of literal p stand from the first to the end: after those of the literals below it, one for each rule that uses it
pub record UsesAt (d : Theory) (p first end : ℕ) : Type 0 where
  pub begin : first ≡ total p (λ q. length (users d q))
  pub finish : end ≡ first + length (users d p)

-- the uses from a first one to an end are in the memory, and each is a number that a rule's words can have
pub record UsesIn (m : List ℕ) (first end : ℕ) : Type 0 where
  pub room : memory_size ≤ length m
  pub order : first ≤ end
  pub within : end ≤ uses_size
  pub rules : (k : ℕ) → first ≤ k → k < end → use_at m k < field_size

-- what conclusion x costs by the words of the memory, where the uses of its literal stand from a first one to an end
abbrev pub cost_in : List ℕ → ℕ → ℕ → ℕ → ℕ
cost_in m x first end = cost_by (view m) (use_at m) (x % tag_count) first end

-- the words past the memory, and their number, stay
pub record Kept (m n : List ℕ) : Type 0 where
  pub size : length n ≡ length m
  pub rest : drop memory_size n ≡ drop memory_size m

-- an antecedent of rule r has neither tag t nor its opposite
abbrev pub Lacks : (ℕ → ℕ → ℕ) → ℕ → ℕ → Type 0
Lacks w t r = w (has t) r + w (has (complement t)) r < w size_f r

-- one antecedent more of rule r has tag t
pub record Visited (d : Theory) (t r : ℕ) (m n : List ℕ) : Type 0 where
  pub invariant : Invariant d n
  pub more : view n (has t) r ≡ view m (has t) r + 1
  pub others : (u i : ℕ) → u < tag_count → (u ≡ t → i ≡ r → ⊥) → view n (has u) i ≡ view m (has u) i
  pub marks : (u i : ℕ) → u < tag_count → view n (mark u) i ≡ view m (mark u) i
  pub sizes : (i : ℕ) → view n size_f i ≡ view m size_f i
  pub kept : Kept m n

-- the memory is ready for a theory, and nothing is processed or written
pub record Prepared (d : Theory) (m n : List ℕ) : Type 0 where
  pub ready : Ready d n
  pub none : (x : ℕ) → held_of n x ≡ false
  pub nothing : (x : ℕ) → written_of n x ≡ false
  pub kept : Kept m n

-- conclusion x was written
pub record Wrote (d : Theory) (x : ℕ) (m n : List ℕ) : Type 0 where
  pub ready : Ready d n
  pub same : (y : ℕ) → held_of n y ≡ held_of m y
  pub written : (y : ℕ) → written_of n y ≡ adds (written_of m) x y
  pub kept : Kept m n

-- conclusion x was processed
pub record Added (d : Theory) (x : ℕ) (m n : List ℕ) : Type 0 where
  pub ready : Ready d n
  pub held : (y : ℕ) → held_of n y ≡ adds (held_of m) x y
  pub written : (y : ℕ) → written_of n y ≡ written_of m y
  pub kept : Kept m n
