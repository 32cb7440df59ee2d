-- The judgement, fault by fault. Assumes nothing.
use Prim.Native.Nat.{ℕ, ◌+◌, ◌*◌, ◌≤◌, ◌<◌}
use mathlib.Core.Path.{◌≡◌, refl, sym, ◌∙◌, ap, subst}
use mathlib.Core.Logic.{⊎_elim}
use mathlib.Core.Bool.{Bool, true, false, cond}
use mathlib.Core.List.{List}
use borrow.Author.Tests.{lt-ltb, le-ltb, eq-eqb, ne_eqb}
use lib.Dec.{ltb}
use lib.ListN.{length}
use Rattle.logic.specs.Tests.{◌or◌, isnt}
use Rattle.logic.proofs.Tests.{true_of, of_true, or_left, or_right, or_elim}
use Rattle.table.specs.declared.format.Sizes.{Sizes}
use Rattle.table.specs.declared.judge.Refusal.{Refusal}
use Rattle.table.specs.declared.judge.Refusal.TheVariants.{Truncated, TooLarge, WrongLength, BadKind, OutOfRange, Unsorted, Cyclic}
use Rattle.table.specs.Refusals.{Judgement}
use Rattle.std.specs.Prelude.{Ok, Err}
use Rattle.table.specs.declared.edition.Edition.{Edition}
use Rattle.table.specs.Editions.{layout_of, unmarked}
use Rattle.table.specs.Format.{sizes_of, span_of}
use Rattle.table.specs.Refusals.{number_of, truncated, oversize, wrong_length, bad_kind, out_of_range, disorder, cycle, judged, judgement_of, refused_by, faults, first_from, Judged}
use Rattle.table.proofs.Legal.{or_fails}

-- a test read as a flag
pub flag : {r t v : Bool} → r ≡ t → r ≡ v → t ≡ v
flag e f = sym e ∙ f

-- the five limits, in the three tests of `judge`
module _ (s : Sizes) where
  pub over_atoms : 512 < s.atoms → oversize s ≡ true
  unfolding oversize ◌or◌
  over_atoms h = simp (lt-ltb 512 s.atoms h)

  pub over_facts_or_rules : {r : Bool} → r ≡ (ltb 1024 s.facts or ltb 1024 s.rules) → r ≡ true → oversize s ≡ true
  unfolding oversize
  over_facts_or_rules e f = true_of _ (or_right _ _ (⊎_elim (or_left _ _) (λ t. or_right _ _ (or_left _ _ t)) (or_elim _ _ (of_true _ (flag e f)))))

  pub over_entries_or_pairs : {r : Bool} → r ≡ (ltb 4096 s.entries or ltb 2048 s.pairs) → r ≡ true → oversize s ≡ true
  unfolding oversize
  over_entries_or_pairs e f = true_of _ (or_right _ _ (or_right _ _ (or_right _ _ (of_true _ (flag e f)))))

  pub within : {q r : Bool} → s.atoms ≤ 512 → q ≡ (ltb 1024 s.facts or ltb 1024 s.rules) → q ≡ false
      → r ≡ (ltb 4096 s.entries or ltb 2048 s.pairs) → r ≡ false → oversize s ≡ false
  unfolding oversize ◌or◌
  within h e f g i =
      let (j, k) = or_fails (ltb 1024 s.facts) (ltb 1024 s.rules) (flag e f) in
      simp (le-ltb 512 s.atoms h, j, k, flag g i)

pub wrong_length_lem : (b : List ℕ) (s : Sizes) (span : ℕ) → span ≡ span_of s → (length b ≡ 10 + 4 * span → ⊥) → wrong_length b s ≡ true
unfolding wrong_length isnt
wrong_length_lem b s span e n = simp (ne_eqb (length b) (10 + 4 * span_of s) (λ f. n (f ∙ ap (λ k. 10 + 4 * k) (sym e))))

pub right_length : (b : List ℕ) (s : Sizes) (span : ℕ) → span ≡ span_of s → length b ≡ 10 + 4 * span → wrong_length b s ≡ false
unfolding wrong_length isnt
right_length b s span e f = simp (eq-eqb (length b) (10 + 4 * span_of s) (f ∙ ap (λ k. 10 + 4 * k) e))

-- what is shown by the sizes that were read
pub by_sizes : (e : Edition) (b : List ℕ) {s : Sizes} {j : Judgement} → s ≡ sizes_of b → j ≡ judged e b s → j ≡ judged e b (sizes_of b)
by_sizes e b h k = k ∙ ap (judged e b) h

-- the number of a judgement, where that of what it goes on to past a fault is known
number_past : (t : Bool) (n : Refusal) (j : Judgement) {k : ℕ} → refused_by j ≡ k → refused_by (cond t (Err n) j) ≡ cond t (number_of n) k
unfolding refused_by
number_past true n j e = refl
number_past false n j e = e

judged_number : (e : Edition) (b : List ℕ) → refused_by (judgement_of e b) ≡ first_from 1 (faults e b)
unfolding judgement_of judged first_from refused_by
judged_number e b =
    let l = layout_of e b in
    number_past (truncated e b) Truncated _ (number_past (oversize (sizes_of l)) TooLarge _ (number_past (wrong_length l (sizes_of l)) WrongLength _
    (number_past (bad_kind e l (sizes_of l)) BadKind _ (number_past (out_of_range l (sizes_of l)) OutOfRange _
    (number_past (disorder l (sizes_of l)) Unsorted _ (number_past (cycle l (sizes_of l)) Cyclic (Ok (sizes_of l)) refl))))))

judged_as : (e : Edition) (b : List ℕ) (x : Judgement) → x ≡ judgement_of e b → Judged e b x
judged_as e b x f = record { judgement = f; number = ap refused_by f ∙ judged_number e b }

-- by the first byte and the number of bytes, and then by the layout that was taken
module _ (e : Edition) (b : List ℕ) where
  pub judged_unmarked : {r : Bool} → r ≡ unmarked e b → r ≡ true → Judged e b (Err Truncated)
  unfolding judgement_of truncated ◌or◌
  judged_unmarked f g = judged_as e b (Err Truncated) (simp (flag f g))

  module _ {r : Bool} (f : r ≡ unmarked e b) (g : r ≡ false) (l : List ℕ) (h : l ≡ layout_of e b) where
    pub judged_short : length l < 10 → Judged e b (Err Truncated)
    unfolding judgement_of truncated ◌or◌
    judged_short k = judged_as e b (Err Truncated) (simp (flag f g, lt-ltb (length (layout_of e b)) 10 (subst (λ z. length z < 10) h k)))

    pub judged_by : (x : Judgement) → 10 ≤ length l → x ≡ judged e l (sizes_of l) → Judged e b x
    unfolding judgement_of truncated ◌or◌
    judged_by x k i =
        judged_as e b x (simp (flag f g, le-ltb (length (layout_of e b)) 10 (subst (λ z. 10 ≤ length z) h k)) (i ∙ ap (λ z. judged e z (sizes_of z)) h))

module _ (e : Edition) (b : List ℕ) (s : Sizes) where
  pub judged_2 : oversize s ≡ true → Err TooLarge ≡ judged e b s
  unfolding judged
  judged_2 d = simp d

  pub judged_3 : oversize s ≡ false → wrong_length b s ≡ true → Err WrongLength ≡ judged e b s
  unfolding judged
  judged_3 d f = simp (d, f)

  pub judged_4 : oversize s ≡ false → wrong_length b s ≡ false → bad_kind e b s ≡ true → Err BadKind ≡ judged e b s
  unfolding judged
  judged_4 d f g = simp (d, f, g)

  pub judged_5 : oversize s ≡ false → wrong_length b s ≡ false → bad_kind e b s ≡ false → out_of_range b s ≡ true → Err OutOfRange ≡ judged e b s
  unfolding judged
  judged_5 d f g h = simp (d, f, g, h)

  pub judged_6 : oversize s ≡ false → wrong_length b s ≡ false → bad_kind e b s ≡ false → out_of_range b s ≡ false → disorder b s ≡ true
      → Err Unsorted ≡ judged e b s
  unfolding judged
  judged_6 d f g h i = simp (d, f, g, h, i)

  pub judged_7 : oversize s ≡ false → wrong_length b s ≡ false → bad_kind e b s ≡ false → out_of_range b s ≡ false → disorder b s ≡ false → cycle b s ≡ true
      → Err Cyclic ≡ judged e b s
  unfolding judged
  judged_7 d f g h i j = simp (d, f, g, h, i, j)

  pub judged_0 : oversize s ≡ false → wrong_length b s ≡ false → bad_kind e b s ≡ false → out_of_range b s ≡ false → disorder b s ≡ false → cycle b s ≡ false
      → Ok s ≡ judged e b s
  unfolding judged
  judged_0 d f g h i j = simp (d, f, g, h, i, j)
