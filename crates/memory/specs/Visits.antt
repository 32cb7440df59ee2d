-- A visit in steps (src/visit.rt): one word grows at a time. In between, the counts are those of tests that lag behind the
-- words of the rules; so they are said here by fields, of any tests.
use Rattle.std.specs.Prelude.{ℕ, ◌+◌, ◌-◌, ◌*◌, ◌%◌, ◌≤◌, ◌<◌, ◌≡◌, Bool, true, cond, List, T, ltb, eqb, length}
use Rattle.logic.specs.Tests.{◌and◌, ◌or◌, isnt, member, count_below, weigh}
use Rattle.logic.specs.Theory.{Theory, Kind, is_strict, can_support, kind_of, head_of, body_of}
use Rattle.table.specs.Pairs.{PairsInOrder}
use Rattle.memory.specs.Layout.{tag_count, memory_size}
use Rattle.memory.specs.Fields.{mark, has, size_f, head_f, kind_f, rivals_f, beaten_f, lost_f, proved_f, firing_f, countered_f, rivals_end, counts_end, rivals_base, rivals_by, rules_by, by_rival, by_itself}
use Rattle.memory.specs.Memory.{view, use_at, rivals_of, Indexed, fires, is_out, NeverBothAt, Invariant}
use Rattle.memory.specs.Api.{Kept, Lacks}

-- what is needed of a theory: few atoms and rules, heads that are literals, and pairs in the order of the stronger rules
pub record WellFormed (d : Theory) : Type 0 where
  pub order : PairsInOrder d
  pub few : d.atoms ≤ 512
  pub heads : (r : ℕ) → r < d.rules → head_of d r < 2 * d.atoms

-- the word of field f at index i grows by k, and every other word stays
pub record Grown (f i k : ℕ) (w v : ℕ → ℕ → ℕ) : Type 0 where
  pub here : v f i ≡ w f i + k
  pub index : (g j : ℕ) → (j ≡ i → ⊥) → v g j ≡ w g j
  pub field : (g j : ℕ) → (g ≡ f → ⊥) → v g j ≡ w g j

pub record Raised (f i k : ℕ) (m n : List ℕ) : Type 0 where
  pub words : Grown f i k (view m) (view n)
  pub uses : (j : ℕ) → use_at n j ≡ use_at m j
  pub kept : Kept m n

-- the word at which a rule has tag t for all its antecedents (an even tag), or for one (an odd tag); and whether it has
unfoldable pub threshold : ℕ → ℕ → ℕ
threshold t size = cond (eqb (t % 2) 0) size 1

-- whether the word of rule r and tag t is just there
abbrev pub just_reached : (ℕ → ℕ → ℕ) → ℕ → ℕ → Bool
just_reached w t r = eqb (w (has t) r) (threshold t (w size_f r))

unfoldable pub reached : (ℕ → ℕ → ℕ) → ℕ → ℕ → Bool
reached w t r = cond (eqb (t % 2) 0) (fires w t r) (is_out w t r)

-- which kinds of rules the count of field f is about, and by which test of the words it counts them
unfoldable pub allowed : ℕ → Kind → Bool
allowed f k = cond (ltb f firing_f) (is_strict k) (cond (ltb f countered_f) (can_support k) true)

unfoldable pub decided_for : (ℕ → ℕ → ℕ) → ℕ → ℕ → Bool
decided_for w f r =
    cond (ltb f countered_f) (reached w (f - proved_f) r)
    (cond (eqb f countered_f) (reached w 3 r or ltb 0 (w beaten_f r)) (reached w 2 r and eqb (w lost_f r) (w rivals_f r)))

-- whether the stronger rule of pair k fires (beaten) or is out (lost); and the same, but of rule r's pairs, for tag t, only
-- those below i count
abbrev pub notifies : Theory → (ℕ → ℕ → ℕ) → ℕ → ℕ → Bool
notifies d w g k = reached w (g - rivals_base) (d.pair k).stronger

unfoldable pub notified_below : Theory → (ℕ → ℕ → ℕ) → ℕ → ℕ → ℕ → ℕ → ℕ → Bool
notified_below d w t r i g k = notifies d w g k and (isnt (eqb g (rivals_by t) and eqb (d.pair k).stronger r) or ltb k i)

-- whether no rival of rule r stands in the way of its tag t: every one is out (+∂), or none fires (−∂)
unfoldable pub is_free : (ℕ → ℕ → ℕ) → ℕ → ℕ → Bool
is_free w t r = cond (eqb t 2) (eqb (w lost_f r) (w rivals_f r)) (eqb (w beaten_f r) 0)

-- whether one rival more that fires (t = 2), or is out (t = 3), has just made rule r countered, or unopposed
unfoldable pub just_reached_by_rival : (ℕ → ℕ → ℕ) → ℕ → ℕ → Bool
just_reached_by_rival w t r = cond (eqb t 2) (eqb (w beaten_f r) 1 and eqb (w (has 3) r) 0) (eqb (w lost_f r) (w rivals_f r) and eqb (w (has 2) r) (w size_f r))

-- the counts of rules and of literals, by tests p of fields and rules and b of fields and pairs
pub record CountedBy (d : Theory) (w : ℕ → ℕ → ℕ) (p b : ℕ → ℕ → Bool) : Type 0 where
  pub rules : (g r : ℕ) → beaten_f ≤ g → g < rivals_end → r < d.rules → w g r ≡ rivals_of d (b g) r
  pub literals : (f q : ℕ) → proved_f ≤ f → f < counts_end → q < 2 * d.atoms
      → w f q ≡ count_below d.rules (λ r. allowed f (kind_of d r) and eqb (head_of d r) q and p f r)

-- a memory in the middle of a visit
pub record Open (d : Theory) (m : List ℕ) (p b : ℕ → ℕ → Bool) : Type 0 where
  pub room : memory_size ≤ length m
  pub index : Indexed d (view m) (use_at m)
  pub counts : CountedBy d (view m) p b
  pub never : (r : ℕ) → r < d.rules → NeverBothAt (view m) r

-- the fields below the counts of rivals stay
pub record Unchanged (m n : List ℕ) : Type 0 where
  pub low : (f i : ℕ) → f < beaten_f → view n f i ≡ view m f i
  pub kept : Kept m n

-- a visit with tag t has decided rule r, and no count tells it yet
pub record Decided (d : Theory) (t r : ℕ) (m : List ℕ) : Type 0 where
  pub before : List ℕ
  pub invariant : Invariant d before
  pub lacks : Lacks (view before) t r
  pub raised : Raised (has t) r 1 before m
  pub just : T (just_reached (view m) t r)

-- rule r, which tag t has just decided, is counted at its head: if no rival stands in its way, as such a one, and, if it can support, as
-- one that fires or is out
pub record CountedAtHead (t r : ℕ) (m n : List ℕ) : Type 0 where
  pub middle : List ℕ
  pub free : Raised (by_itself t) (view m head_f r) (weigh (is_free (view m) t r) 1) m middle
  pub own : Raised (rules_by t) (view m head_f r) (weigh (ltb (view m kind_f r) 2) 1) middle n

-- rule x is notified that a rule over it fires (t = 2), or is out (t = 3); that rule is a rival if q, the complement of its head, is x's
-- head
pub record Notified (q x t : ℕ) (m n : List ℕ) : Type 0 where
  pub middle : List ℕ
  pub first : Raised (rivals_by t) x (weigh (eqb (view m head_f x) q) 1) m middle
  pub second : Raised (by_rival t) (view m head_f x) (weigh (eqb (view m head_f x) q and just_reached_by_rival (view middle) t x) 1) middle n

-- every rule with literal p in its body has one antecedent more with tag t
pub record Spread (d : Theory) (p t : ℕ) (m n : List ℕ) : Type 0 where
  pub invariant : Invariant d n
  pub words : (u r : ℕ) → u < tag_count → r < d.rules → view n (has u) r ≡ view m (has u) r + weigh (eqb u t and member p (body_of d r)) 1
  pub marks : (u i : ℕ) → u < tag_count → view n (mark u) i ≡ view m (mark u) i
  pub kept : Kept m n
