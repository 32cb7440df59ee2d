-- A search (src/outside.rt): what its functions say to each other. A literal that no set with the search's property has leaves, that is it
-- is marked and put into a list. A rule loses its virtual antecedent, and then each antecedent that left; one that has lost all of them may make
-- its head leave.
use Rattle.std.specs.Prelude.{ℕ, suc, ◌+◌, ◌*◌, ◌≤◌, ◌<◌, ◌≡◌, Bool, cond, List, T, eqb, ltb, length, get_or, set, take}
use Rattle.logic.specs.Tests.{◌and◌, ◌or◌, isnt, member, distinct, weigh}
use Rattle.logic.specs.Theory.{Theory, head_of, body_of}
use Rattle.logic.specs.Unfounded.{unfounded}
use Rattle.table.specs.Release.{Pushed}
use Rattle.table.specs.Tables.{theory_said}
use Rattle.memory.specs.declared.founding.Search.{Search}
use Rattle.memory.specs.Memory.{held_of, users, antecedents}
use Rattle.memory.specs.Founding.{held_in, barred, secure, needy}
use Rattle.searching.specs.declared.outside.Outside.{Outside}
use Rattle.searching.specs.Sets.{set_in}

-- a literal leaves if a test says so and it did not leave before
abbrev pub leaves : Bool → List ℕ → ℕ → Bool
leaves test gone q = test and eqb (get_or gone q 0) 0

-- it is marked, and stands at the end of the list, whose first places are of use
pub record Leaves (test : Bool) (q : ℕ) (gone list : List ℕ) (end : ℕ) (gone' list' : List ℕ) (last : ℕ) : Type 0 where
  pub marked : gone' ≡ cond (leaves test gone q) (set gone q 1) gone
  pub pushed : Pushed (leaves test gone q) q list end list' last
  pub within : last ≤ length list'
  pub size : length list' ≡ length list

module _ (d : Theory) (holds : ℕ → ℕ → Bool) (i : ℕ) where
  -- a rule that has lost n antecedents makes its head leave: it has lost all, it is needy, and its head is not secure
  unfoldable pub founds : ℕ → ℕ → Bool
  founds n r = eqb n (suc (length (body_of d r))) and needy d holds i r and isnt (secure d holds i (head_of d r))

  -- no set in which each literal is unfounded has it
  abbrev pub Excluded : ℕ → Type 0
  Excluded q = (s : ℕ → Bool) → ((p : ℕ) → T (s p) → T (unfounded d holds s i p)) → T (s q) → ⊥

-- the literals that left, by the marks and as a list
pub record Listed (d : Theory) (holds : ℕ → ℕ → Bool) (i : ℕ) (gone list : List ℕ) : Type 0 where
  pub once : T (distinct list)
  pub below : (q : ℕ) → T (member q list) → q < 2 * d.atoms
  pub marks : (q : ℕ) → q < 2 * d.atoms → eqb (get_or gone q 0) 0 ≡ isnt (member q list)
  pub out : (q : ℕ) → T (member q list) → Excluded d holds i q

-- in the arrays: the list is in the first `end` places of one
pub record Leaving (d : Theory) (holds : ℕ → ℕ → Bool) (i : ℕ) (gone list : List ℕ) (end : ℕ) : Type 0 where
  pub listed : Listed d holds i gone (take end list)
  pub words : length gone ≡ 1024
  pub places : length list ≡ 1024
  pub within : end ≤ 1024

-- the barred literals below a number left
pub record Barring (d : Theory) (holds : ℕ → ℕ → Bool) (i : ℕ) (gone list : List ℕ) (end below : ℕ) : Type 0 where
  pub leaving : Leaving d holds i gone list end
  pub bars : (q : ℕ) → q < below → T (barred d holds i q) → T (member q (take end list))

-- what the rules have lost: the rules below a number their virtual antecedent, and each rule those that it was told of, which left; the heads that
-- are to leave by it left
pub record Lost (d : Theory) (holds : ℕ → ℕ → Bool) (i below : ℕ) (told : ℕ → ℕ → Bool) (lost list : List ℕ) : Type 0 where
  pub counts : (r : ℕ) → r < d.rules → get_or lost r 0 ≡ weigh (ltb r below) 1 + antecedents d (λ a. told a r) r
  pub heard : (a r : ℕ) → T (told a r) → T (member a list)
  pub founded : (r : ℕ) → r < d.rules → T (founds d holds i (get_or lost r 0) r) → T (member (head_of d r) list)

-- how it stands between two losses
pub record Reached (d : Theory) (holds : ℕ → ℕ → Bool) (i below : ℕ) (told : ℕ → ℕ → Bool) (lost gone list : List ℕ) (end : ℕ) : Type 0 where
  pub barring : Barring d holds i gone list end (2 * d.atoms)
  pub losses : Lost d holds i below told lost (take end list)
  pub words : length lost ≡ 1024

-- every rule was told of the literals of a list
abbrev pub told_of : List ℕ → ℕ → ℕ → Bool
told_of l a r = member a l

-- and the rules of a second list of literal p
abbrev pub told_to : List ℕ → ℕ → List ℕ → ℕ → ℕ → Bool
told_to l p rules a r = member a l or (eqb a p and member r rules)

-- the rules that use the literal at a place of the list are told of it, the first j of them so far
pub record Telling (d : Theory) (holds : ℕ → ℕ → Bool) (i : ℕ) (list₀ : List ℕ) (next : ℕ) (lost gone list : List ℕ) (end j : ℕ) : Type 0 where
  pub reached : Reached d holds i d.rules (told_to (take next list₀) (get_or list₀ next 0) (take j (users d (get_or list₀ next 0)))) lost gone list end
  pub same : take (next + 1) list ≡ take (next + 1) list₀
  pub ahead : next < end

-- Of a search, in its arrays (`Outside`): nothing left, and nothing is lost.
pub record Empty (l : Outside) : Type 0 where
  pub end : l.end ≡ 0
  pub gone : (q : ℕ) → q < 1024 → get_or l.gone q 0 ≡ 0
  pub lost : (r : ℕ) → r < 1024 → get_or l.lost r 0 ≡ 0

-- the barred literals left, and nothing is lost
pub record Barred (s : Search) (l : Outside) : Type 0 where
  pub barring : Barring (theory_said s.table) (held_in s.mem.now) s.i l.gone l.list l.end (2 * s.table.sizes.atoms)
  pub lost : (r : ℕ) → r < 1024 → get_or l.lost r 0 ≡ 0

abbrev pub ReachedIn : Search → ℕ → (ℕ → ℕ → Bool) → Outside → Type 0
ReachedIn s below told l = Reached (theory_said s.table) (held_in s.mem.now) s.i below told l.lost l.gone l.list l.end

-- what has not left is the set of search i, by the memory
abbrev pub Stays : Theory → List ℕ → ℕ → List ℕ → Type 0
Stays d m i gone = (q : ℕ) → q < 2 * d.atoms → eqb (get_or gone q 0) 0 ≡ member q (set_in d (held_of m) i)
