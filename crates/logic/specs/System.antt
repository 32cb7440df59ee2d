-- A closure system: numbered conclusions, an inference rule for each, which are tried after each, and what each costs; and the searches that
-- are made where nothing is left to process. Each reading of a theory is one, with its searches (specs/Reading.antt).
use Rattle.std.specs.Prelude.{ℕ, ◌<◌, Bool, true, List, [], ◌∷◌, ◌++◌, T, ltb}
use Rattle.logic.specs.Tests.{◌and◌, ◌or◌, some, member}
use Rattle.logic.specs.Theory.{complement}

pub record System : Type 0 where
  -- the conclusions are the numbers below this
  pub conclusions : ℕ
  -- whether a conclusion follows from those that a test holds
  pub infers : (ℕ → Bool) → ℕ → Bool
  -- what is tried after a conclusion, in this order
  pub tried : ℕ → List ℕ
  -- the cost of a conclusion by what is held before and after it
  pub cost : (ℕ → Bool) → (ℕ → Bool) → ℕ → ℕ
  -- the cost of the start
  pub start : ℕ

-- The searches of a system, made in the order of their numbers.
pub record Searches : Type 0 where
  pub count : ℕ
  -- whether a search finds a conclusion, over what a test holds
  pub finds : ℕ → (ℕ → Bool) → ℕ → Bool

-- the conclusions of a list, as a test
abbrev pub held : List ℕ → ℕ → Bool
held l x = member x l

-- no conclusion is held beside its opposite, the number with the lowest bit flipped
unfoldable pub Coherent : (ℕ → Bool) → Type 0
Coherent h = (x : ℕ) → T (h x) → T (h (complement x)) → ⊥

module _ (s : System) (z : Searches) where
  -- what a test holds yields a conclusion: it follows, or a search finds it
  abbrev pub yields : (ℕ → Bool) → ℕ → Bool
  yields h x = s.infers h x or some z.count (λ i. z.finds i h x)

  -- "A derivation is a list of lines each following from earlier ones." Document 02, S-9: "Each line follows from earlier ones or comes from
  -- such a set"
  unfoldable pub derives_from : List ℕ → List ℕ → Bool
  derives_from earlier [] = true
  derives_from earlier (x ∷ xs) = ltb x s.conclusions and yields (held earlier) x and derives_from (earlier ++ (x ∷ [])) xs

  abbrev pub derivation : List ℕ → Bool
  derivation l = derives_from [] l

  abbrev pub Derivable : ℕ → Type 0
  Derivable x = (l : List ℕ) × T (derivation l) × T (member x l)

  -- a collection "closed under the inference rules and both searches"
  abbrev pub Closed : (ℕ → Bool) → Type 0
  Closed h = (x : ℕ) → x < s.conclusions → T (yields h x) → T (h x)
