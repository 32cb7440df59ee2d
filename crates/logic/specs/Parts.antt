-- Document 02, S-8: "Two atoms belong to one part if one rule names both, and so on through chains."
use Rattle.std.specs.Prelude.{ℕ, zero, suc, ◌≤◌, ◌<◌, ◌≡◌, ◌↔◌, Bool, List, [], ◌∷◌, map, T, eqb, length, get_or}
use Rattle.logic.specs.Tests.{◌and◌, ◌or◌, some, some_of, member, upto, pick}
use Rattle.logic.specs.Theory.{Theory, atom, head_of, body_of}

module _ (d : Theory) where
  -- a rule names the atom of its head and those of its antecedents
  unfoldable pub mentions : ℕ → ℕ → Bool
  mentions r a = eqb (atom (head_of d r)) a or some_of (body_of d r) (λ q. eqb (atom q) a)

  -- "one rule names both"
  unfoldable pub linked : ℕ → ℕ → Bool
  linked a b = some d.rules (λ r. mentions r a and mentions r b)

  -- n times, what is linked to one of the list is taken into it
  unfoldable pub spread : ℕ → List ℕ → List ℕ
  spread zero l = l
  spread (suc n) l = spread n (pick (upto d.atoms) (λ b. member b l or some_of l (λ c. linked c b)))

  -- "and so on through chains": an atom belongs to its own part, and of A atoms no chain needs more than A links
  unfoldable pub in_part : ℕ → ℕ → Bool
  in_part a b = member b (spread d.atoms (a ∷ []))

  -- "The list gives each atom one word, the smallest atom of its part"
  unfoldable pub smallest : ℕ → ℕ
  smallest a = get_or (pick (upto d.atoms) (in_part a)) 0 a

  abbrev pub parts_list : List ℕ
  parts_list = map smallest (upto d.atoms)

-- Two atoms are together by chains alone, of whatever length. It is the test `in_part` (proofs/Parts.antt: `part_agrees`).
pub data Together (d : Theory) : ℕ → ℕ → Type 0 where
  own : {a : ℕ} → Together d a a
  next : {a b c : ℕ} → T (linked d a b) → Together d b c → Together d a c

-- What is shown of the list: one word for each atom, "the smallest atom of its part", so that two atoms have the same word exactly if they
-- belong to one part.
pub record Parts (d : Theory) (list : List ℕ) : Type 0 where
  pub words : length list ≡ d.atoms
  pub same : (a b : ℕ) → a < d.atoms → b < d.atoms → (get_or list a 0 ≡ get_or list b 0) ↔ Together d a b
  pub inside : (a : ℕ) → a < d.atoms → Together d a (get_or list a 0)
  pub least : (a b : ℕ) → a < d.atoms → Together d a b → get_or list a 0 ≤ b
