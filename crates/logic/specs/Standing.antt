-- Document 02, S-3: how a rule stands over what is held, by a family f of tags: 2f is its +, and 2f + 1 its −. ∂ is family 1.
use Rattle.std.specs.Prelude.{ℕ, ◌+◌, ◌*◌, Bool, true, false, cond, T}
use Rattle.logic.specs.Theory.{Theory}
use Rattle.logic.specs.Inference.{all_have, one_has}

pub data Standing : Type 0 where
  firing out waiting : Standing

-- "three answers, the first that fits", by the tests of firing and out
abbrev pub first_fit : Bool → Bool → Standing
first_fit isFiring is_out = cond isFiring firing (cond is_out out waiting)

module _ (d : Theory) where
  -- "firing (all have +∂), out (one has −∂), waiting (neither)". A rule without antecedents fires.
  abbrev pub standing : ℕ → (ℕ → ℕ → Bool) → ℕ → Standing
  standing f holds r = first_fit (all_have d holds (2 * f) r) (one_has d holds (2 * f + 1) r)

  -- "firing and out never both hold"
  abbrev pub NeverBoth : ℕ → (ℕ → ℕ → Bool) → Type 0
  NeverBoth f holds = (r : ℕ) → T (all_have d holds (2 * f) r) → T (one_has d holds (2 * f + 1) r) → ⊥

-- whether the answer is out
unfoldable pub is_out : Standing → Bool
is_out firing = false
is_out out = true
is_out waiting = false

-- the numbers of the three answers
unfoldable pub standing_number : Standing → ℕ
standing_number firing = 0
standing_number out = 1
standing_number waiting = 2
