-- Document 01, What the console turns away, with document 02, S-5: each fault as a test, and the lowest that applies.
use Rattle.std.specs.Prelude.{ℕ, zero, suc, ◌+◌, ◌-◌, ◌*◌, ◌/◌, ◌%◌, ◌≡◌, Bool, false, cond, List, [], ◌∷◌, ltb, leb, eqb, length, Result, Ok, Err}
use Rattle.logic.specs.Tests.{◌and◌, ◌or◌, isnt, every, some}
use Rattle.logic.specs.Theory.{superior}
use Rattle.logic.specs.Cycle.{cyclic}
use Rattle.table.specs.declared.format.Sizes.{Sizes}
use Rattle.table.specs.declared.judge.Refusal.{Refusal}
use Rattle.table.specs.declared.judge.Refusal.TheVariants.{Truncated, TooLarge, WrongLength, BadKind, OutOfRange, Unsorted, Cyclic, ShortScratch, ShortLog, HasOrigin, AtomsDiffer, ShortOutput}
use Rattle.table.specs.declared.edition.Edition.{Edition}
use Rattle.table.specs.declared.edition.Edition.TheVariants.{Old, Two}
use Rattle.table.specs.Editions.{layout_of, unmarked}
use Rattle.table.specs.Format.{sizes_of, span_of, left, right, facts_from, rules_from, entries_from, pairs_from, theory_in}

-- A judgement: the sizes of what is accepted, or why it is refused.
abbrev pub Judgement : Type 0
Judgement = Result Sizes Refusal

-- The number of each refusal.
abbrev pub number_of : Refusal → ℕ
number_of Truncated = 1
number_of TooLarge = 2
number_of WrongLength = 3
number_of BadKind = 4
number_of OutOfRange = 5
number_of Unsorted = 6
number_of Cyclic = 7
number_of ShortScratch = 8
number_of ShortLog = 9
number_of HasOrigin = 10
number_of AtomsDiffer = 11
number_of ShortOutput = 12

-- 1: "fewer than 10 bytes"; for edition two "judged on the bytes after the first", and "A first byte other than 2, or no byte, is 1."
unfoldable pub truncated : Edition → List ℕ → Bool
truncated e b = unmarked e b or ltb (length (layout_of e b)) 10

-- 2: "At most A 512, F 1,024, N 1,024, B 4,096, P 2,048."
unfoldable pub oversize : Sizes → Bool
oversize s = ltb 512 s.atoms or (ltb 1024 s.facts or (ltb 1024 s.rules or (ltb 4096 s.entries or ltb 2048 s.pairs)))

-- 3: "byte count not 10 + 4·T"
unfoldable pub wrong_length : List ℕ → Sizes → Bool
wrong_length b s = isnt (eqb (length b) (10 + 4 * span_of s))

-- one of the first n values of f is at least the limit
abbrev pub some_at_least : ℕ → ℕ → (ℕ → ℕ) → Bool
some_at_least n limit f = some n (λ i. leb limit (f i))

-- 4: "a fact's left not 0, or a rule's left above 2"; for edition two "with kind read as the remainder by 4", and "An origin above 3 is 4."
unfoldable pub bad_fact : List ℕ → Sizes → Bool
bad_fact b s = some_at_least s.facts 1 (λ i. left b (facts_from s + i))

unfoldable pub bad_left : Edition → ℕ → Bool
bad_left Old w = ltb 2 w
bad_left Two w = ltb 2 (w % 4) or ltb 3 (w / 4)

unfoldable pub bad_rule : Edition → List ℕ → Sizes → Bool
bad_rule e b s = some s.rules (λ r. bad_left e (left b (rules_from s + r)))

unfoldable pub bad_kind : Edition → List ℕ → Sizes → Bool
bad_kind e b s = bad_fact b s or bad_rule e b s

-- 5: "a literal not below 2A, or a rule number not below N": facts, heads; an entry's rule and literal; a pair's two rules
unfoldable pub out_of_range : List ℕ → Sizes → Bool
out_of_range b s =
    (some_at_least s.facts (2 * s.atoms) (λ i. right b s (facts_from s + i)) or some_at_least s.rules (2 * s.atoms) (λ r. right b s (rules_from s + r))
    or (some_at_least s.entries s.rules (λ i. left b (entries_from s + i))
    or some_at_least s.entries (2 * s.atoms) (λ i. right b s (entries_from s + i))))
    or (some_at_least s.pairs s.rules (λ i. left b (pairs_from s + i)) or some_at_least s.pairs s.rules (λ i. right b s (pairs_from s + i)))

-- 6: "facts, entries or pairs not strictly rising". Section 0 is the facts, 1 the entries, 2 the pairs.
unfoldable pub section_from : Sizes → ℕ → ℕ
section_from s zero = facts_from s
section_from s (suc zero) = entries_from s
section_from s (suc (suc k)) = pairs_from s

unfoldable pub section_size : Sizes → ℕ → ℕ
section_size s zero = s.facts
section_size s (suc zero) = s.entries
section_size s (suc (suc k)) = s.pairs

-- facts rise by right alone, entries and pairs "strictly by left, then right"
unfoldable pub left_from : List ℕ → ℕ → ℕ → ℕ → ℕ
left_from b k from i = cond (eqb k 0) 0 (left b (from + i))

abbrev pub section_left : List ℕ → Sizes → ℕ → ℕ → ℕ
section_left b s k i = left_from b k (section_from s k) i

abbrev pub section_right : List ℕ → Sizes → ℕ → ℕ → ℕ
section_right b s k i = right b s (section_from s k + i)

-- the entry after the i-th comes after it
unfoldable pub rises : List ℕ → Sizes → ℕ → ℕ → Bool
rises b s k i =
    ltb (section_left b s k i) (section_left b s k (i + 1))
    or (eqb (section_left b s k i) (section_left b s k (i + 1)) and ltb (section_right b s k i) (section_right b s k (i + 1)))

unfoldable pub disorder : List ℕ → Sizes → Bool
disorder b s = some 3 (λ k. isnt (every (section_size s k - 1) (rises b s k)))

-- 7: "the pairs, followed stronger to weaker, lead from some rule back to itself" (logic's proofs/Theories.antt: `cyclic_agrees`)
unfoldable pub cycle : List ℕ → Sizes → Bool
cycle b s = cyclic (superior (theory_in b s)) s.rules

-- "The lowest number that applies anywhere in the table is given.": by the layout and the sizes that were read, then from the first byte on.
unfoldable pub judged : Edition → List ℕ → Sizes → Judgement
judged e b s =
    cond (oversize s) (Err TooLarge)
    (cond (wrong_length b s) (Err WrongLength)
    (cond (bad_kind e b s) (Err BadKind)
    (cond (out_of_range b s) (Err OutOfRange)
    (cond (disorder b s) (Err Unsorted) (cond (cycle b s) (Err Cyclic) (Ok s))))))

unfoldable pub judgement_of : Edition → List ℕ → Judgement
judgement_of e b = cond (truncated e b) (Err Truncated) (judged e (layout_of e b) (sizes_of (layout_of e b)))

-- The paper's number of each judgement: 0 where the table is accepted. (The values of one that is accepted are the sizes in it.)
unfoldable pub refused_by : Judgement → ℕ
refused_by (Ok s) = 0
refused_by (Err n) = number_of n

-- the paper's list of faults, 1 to 7, in its order
abbrev pub faults_in : Edition → List ℕ → Sizes → List Bool
faults_in e b s = oversize s ∷ wrong_length b s ∷ bad_kind e b s ∷ out_of_range b s ∷ disorder b s ∷ cycle b s ∷ []

abbrev pub faults : Edition → List ℕ → List Bool
faults e b = truncated e b ∷ faults_in e (layout_of e b) (sizes_of (layout_of e b))

-- the number of the first fault of a list that applies, where n is the number of its first; 0 if none applies
unfoldable pub first_from : ℕ → List Bool → ℕ
first_from n [] = 0
first_from n (f ∷ fs) = cond f n (first_from (n + 1) fs)

-- What `judge` hands over: the judgement, and "The lowest number that applies anywhere in the table".
pub record Judged (e : Edition) (b : List ℕ) (j : Judgement) : Type 0 where
  pub judgement : j ≡ judgement_of e b
  pub number : refused_by j ≡ first_from 1 (faults e b)

-- What is left past the judgement: no fault applies to the layout, of whatever edition it is (proofs/Legal.antt: `legal`).
pub record Legal (b : List ℕ) (s : Sizes) : Type 0 where
  pub read : sizes_of b ≡ s
  pub limits : oversize s ≡ false
  pub whole : wrong_length b s ≡ false
  pub facts : bad_fact b s ≡ false
  pub ranges : out_of_range b s ≡ false
  pub sorted : disorder b s ≡ false
  pub acyclic : cycle b s ≡ false
