-- Tests: Booleans with the connectives, quantifiers and sums that the definitions are built of. They are shut, and proofs use
-- their laws (proofs/Tests.antt).
use Rattle.std.specs.Prelude.{ℕ, zero, suc, ◌+◌, Bool, true, false, cond, List, [], ◌∷◌, ◌++◌, eqb}

infixl 35 ◌and◌
infixl 30 ◌or◌
infixr 25 ◌implies◌
unfoldable pub ◌and◌ : Bool → Bool → Bool
true and b = b
false and b = false

unfoldable pub ◌or◌ : Bool → Bool → Bool
true or b = true
false or b = b

unfoldable pub isnt : Bool → Bool
isnt true = false
isnt false = true

abbrev pub ◌implies◌ : Bool → Bool → Bool
a implies b = isnt a or b

-- the test passes at every number below n; at some number below n
unfoldable pub every : ℕ → (ℕ → Bool) → Bool
every zero p = true
every (suc n) p = every n p and p n

unfoldable pub some : ℕ → (ℕ → Bool) → Bool
some zero p = false
some (suc n) p = some n p or p n

-- the test passes at every element of a list; at some element
unfoldable pub every_of : List ℕ → (ℕ → Bool) → Bool
every_of [] p = true
every_of (x ∷ xs) p = p x and every_of xs p

unfoldable pub some_of : List ℕ → (ℕ → Bool) → Bool
some_of [] p = false
some_of (x ∷ xs) p = p x or some_of xs p

abbrev pub member : ℕ → List ℕ → Bool
member x xs = some_of xs (eqb x)

unfoldable pub empty : List ℕ → Bool
empty [] = true
empty (x ∷ xs) = false

-- no element stands twice
unfoldable pub distinct : List ℕ → Bool
distinct [] = true
distinct (x ∷ xs) = isnt (member x xs) and distinct xs

-- the sum of f below n; the number of numbers below n at which a test passes
unfoldable pub total : ℕ → (ℕ → ℕ) → ℕ
total zero f = 0
total (suc n) f = total n f + f n

unfoldable pub weigh : Bool → ℕ → ℕ
weigh b n = cond b n 0

abbrev pub count_below : ℕ → (ℕ → Bool) → ℕ
count_below n p = total n (λ k. weigh (p k) 1)

-- the numbers below n, rising; the elements of a list at which a test passes, in its order
unfoldable pub upto : ℕ → List ℕ
upto zero = []
upto (suc n) = upto n ++ (n ∷ [])

unfoldable pub pick : List ℕ → (ℕ → Bool) → List ℕ
pick [] p = []
pick (x ∷ xs) p = cond (p x) (x ∷ pick xs p) (pick xs p)
