-- The working memory: what stands in its words (Layout.antt, Fields.antt). Every word is a count that only grows, or is written once; so
-- each is an exact function of the theory and of what is processed.
use Rattle.std.specs.Prelude.{ℕ, zero, suc, ◌+◌, ◌-◌, ◌*◌, ◌/◌, ◌%◌, ◌≤◌, ◌<◌, ◌≡◌, Bool, true, cond, List, map, ltb, eqb, length, get_or}
use Rattle.logic.specs.Tests.{◌and◌, ◌or◌, isnt, member, count_below, weigh, upto, pick}
use Rattle.logic.specs.Theory.{Theory, Kind, strict, defeasible, defeater, complement, kind_of, head_of, body_of, is_fact, strict_for, supporter}
use Rattle.logic.specs.Reading.{naming}
use Rattle.memory.specs.Layout.{tag_count, field_count, field_size, uses_base, uses_size, memory_size}
use Rattle.memory.specs.Fields.{mark, has, size_f, head_f, kind_f, naming_f, rivals_f, first_f, beaten_f, lost_f, uses_f, strict_f, support_f, headed_f, fact_f, proved_f, refuted_f, firing_f, out_f, countered_f, unopposed_f}

-- the word of a field at an index; outside, 0
unfoldable pub view : List ℕ → ℕ → ℕ → ℕ
view m f i = cond (ltb f field_count and ltb i field_size) (get_or m (field_size * f + i) 0) 0

-- the k-th of the uses
unfoldable pub use_at : List ℕ → ℕ → ℕ
use_at m k = cond (ltb k uses_size) (get_or m (uses_base + k) 0) 0

-- what is processed, and what is written, as tests of conclusions
abbrev pub held_of : List ℕ → ℕ → Bool
held_of m x = eqb (view m (mark (x % tag_count)) (x / tag_count)) 2

abbrev pub written_of : List ℕ → ℕ → Bool
written_of m x = isnt (eqb (view m (mark (x % tag_count)) (x / tag_count)) 0)

unfoldable pub kind_number : Kind → ℕ
kind_number strict = 0
kind_number defeasible = 1
kind_number defeater = 2

-- the pairs in which a supporter of the complement of w's head is over w, that pass a test of pair numbers
abbrev pub rivals_of : Theory → (ℕ → Bool) → ℕ → ℕ
rivals_of d p w =
    count_below d.pairs
    (λ i. eqb (d.pair i).weaker w and supporter d (d.pair i).stronger (complement (head_of d w)) and p i)

-- the rules with literal p in their body, by number
unfoldable pub users : Theory → ℕ → List ℕ
users d p = pick (upto d.rules) (λ r. member p (body_of d r))

-- where the uses of a literal begin, by the words
abbrev pub uses_from : (ℕ → ℕ → ℕ) → ℕ → ℕ
uses_from w q = cond (eqb q 0) 0 (w uses_f (q - 1))

-- The words that are written once, at the start. Fields and uses are functions: `view m` and `use_at m`.
pub record Indexed (d : Theory) (w : ℕ → ℕ → ℕ) (u : ℕ → ℕ) : Type 0 where
  pub sizes : (r : ℕ) → r < d.rules → w size_f r ≡ suc (length (body_of d r))
  pub heads : (r : ℕ) → r < d.rules → w head_f r ≡ head_of d r
  pub kinds : (r : ℕ) → r < d.rules → w kind_f r ≡ kind_number (kind_of d r)
  pub namings : (r : ℕ) → r < d.rules → w naming_f r ≡ naming d r
  pub rivals : (r : ℕ) → r < d.rules → w rivals_f r ≡ rivals_of d (λ _. true) r
  pub firsts : (i : ℕ) → i < d.pairs → (w first_f (d.pair i).stronger ≤ i) × ((d.pair (w first_f (d.pair i).stronger)).stronger ≡ (d.pair i).stronger)
  pub uses : (q : ℕ) → q < 2 * d.atoms
      → map (λ k. u (uses_from w q + k)) (upto (w uses_f q - uses_from w q)) ≡ users d q
  pub within : (q : ℕ) → q < 2 * d.atoms → (uses_from w q ≤ w uses_f q) × (w uses_f q ≤ uses_size)
  pub stricts : (q : ℕ) → q < 2 * d.atoms → w strict_f q ≡ count_below d.rules (λ r. strict_for d r q)
  pub supports : (q : ℕ) → q < 2 * d.atoms → w support_f q ≡ count_below d.rules (λ r. supporter d r q)
  pub headed : (q : ℕ) → q < 2 * d.atoms → w headed_f q ≡ count_below d.rules (λ r. eqb (head_of d r) q)
  pub facts : (q : ℕ) → q < 2 * d.atoms → w fact_f q ≡ weigh (is_fact d q) 1

-- a rule has +Δ, +∂ for all its antecedents, or −Δ, −∂ for one, by the words
abbrev pub fires : (ℕ → ℕ → ℕ) → ℕ → ℕ → Bool
fires w t r = eqb (w (has t) r) (w size_f r)

abbrev pub is_out : (ℕ → ℕ → ℕ) → ℕ → ℕ → Bool
is_out w t r = ltb 0 (w (has t) r)

-- no more antecedents of a rule have +∂ or −∂ than it has: so it does not fire and is out as well
abbrev pub NeverBothAt : (ℕ → ℕ → ℕ) → ℕ → Type 0
NeverBothAt w r = w (has 2) r + w (has 3) r ≤ w size_f r

-- The counts of rules and rivals, by the words of the rules; `beats` and `loses` are tests of pairs: the stronger rule fires, is out.
pub record Counted (d : Theory) (w : ℕ → ℕ → ℕ) (beats loses : ℕ → Bool) : Type 0 where
  pub beaten : (r : ℕ) → r < d.rules → w beaten_f r ≡ rivals_of d beats r
  pub lost : (r : ℕ) → r < d.rules → w lost_f r ≡ rivals_of d loses r
  pub proved : (q : ℕ) → q < 2 * d.atoms → w proved_f q ≡ count_below d.rules (λ r. strict_for d r q and fires w 0 r)
  pub refuted : (q : ℕ) → q < 2 * d.atoms → w refuted_f q ≡ count_below d.rules (λ r. strict_for d r q and is_out w 1 r)
  pub firing : (q : ℕ) → q < 2 * d.atoms → w firing_f q ≡ count_below d.rules (λ r. supporter d r q and fires w 2 r)
  pub out : (q : ℕ) → q < 2 * d.atoms → w out_f q ≡ count_below d.rules (λ r. supporter d r q and is_out w 3 r)
  pub countered : (q : ℕ) → q < 2 * d.atoms
      → w countered_f q ≡ count_below d.rules (λ r. eqb (head_of d r) q and (is_out w 3 r or ltb 0 (w beaten_f r)))
  pub unopposed : (q : ℕ) → q < 2 * d.atoms
      → w unopposed_f q ≡ count_below d.rules (λ r. eqb (head_of d r) q and (fires w 2 r and eqb (w lost_f r) (w rivals_f r)))

-- how often a literal of a body passes a test
abbrev pub antecedents : Theory → (ℕ → Bool) → ℕ → ℕ
antecedents d p r = length (pick (body_of d r) p)

-- the virtual antecedent, which has the even tags
unfoldable pub virtual : ℕ → ℕ
virtual zero = 1
virtual (suc zero) = 0
virtual (suc (suc t)) = virtual t

-- The invariant of the memory of a theory: it is indexed, and counted by the words of its rules, none of which fires and is out.
pub record Invariant (d : Theory) (m : List ℕ) : Type 0 where
  pub room : memory_size ≤ length m
  pub index : Indexed d (view m) (use_at m)
  pub counts : Counted d (view m) (λ i. fires (view m) 2 (d.pair i).stronger) (λ i. is_out (view m) 3 (d.pair i).stronger)
  pub never : (r : ℕ) → r < d.rules → NeverBothAt (view m) r

-- It is ready if besides the rules' words agree with what is processed.
pub record Ready (d : Theory) (m : List ℕ) : Type 0 where
  pub invariant : Invariant d m
  pub tagged : (t r : ℕ) → t < tag_count → r < d.rules → view m (has t) r ≡ virtual t + antecedents d (λ a. held_of m (tag_count * a + t)) r
