-- The antecedents of a rule are those of its entries: tests of a body as tests of the entries. Assumes nothing.
use Prim.Native.Nat.{ℕ, ◌<◌}
use mathlib.Core.Path.{◌≡◌, sym, ◌∙◌, ap, ap₂, subst}
use mathlib.Core.Bool.{Bool, not}
use mathlib.Core.List.{List, map}
use lib.Dec.{T, eqb}
use Rattle.logic.specs.Tests.{◌and◌, isnt, some, every_of, some_of, upto, pick}
use Rattle.logic.proofs.Tests.{and_intro, and_left, and_right, every_of_elim, every_of_intro, isnt_elim, isnt_intro, not_isnt, some_elim, some_intro, some_of_elim, some_of_intro, test_cases, test_eq}
use mathlib.Core.Logic.{⊎_elim}
use Rattle.logic.proofs.Lists.{member_map, member_map_intro, member_pick, member_pick_intro, member_upto, member_upto_intro}
use Rattle.table.specs.declared.format.Sizes.{Sizes}
use Rattle.table.specs.declared.format.Entry.{Entry}
use Rattle.table.specs.Format.{entry_at, body_in}
use Rattle.logic.specs.Inference.{+∂, −∂}
use Rattle.logic.specs.Reading.{tagged_by}
use Rattle.logic.specs.Standing.{Standing, first_fit}
use Rattle.standing.specs.Marks.{marked, MarkedBy}
use Rattle.standing.specs.Answers.{standing_by, Stood}
use Rattle.standing.proofs.Marking.{marked_by, marks_same}

-- some element of a list of what is picked
some_picked : (n : ℕ) (f : ℕ → ℕ) (g p : ℕ → Bool) → some_of (map f (pick (upto n) g)) p ≡ some n (λ i. g i and p (f i))
some_picked n f g p =
    test_eq _ _
    (λ t. let (x, m, u) = some_of_elim (map f (pick (upto n) g)) p t in
    let (i, k, e) = member_map f (pick (upto n) g) x m in
    let (h, v) = member_pick (upto n) g i k in
    some_intro n _ i (member_upto n i h) (and_intro _ _ v (subst (λ y. T (p y)) e u)))
    (λ t. let (i, h, u) = some_elim n _ t in
    some_of_intro (map f (pick (upto n) g)) p (f i) (member_map_intro f (pick (upto n) g) i (member_pick_intro (upto n) g i (member_upto_intro n i h) (and_left _ _ u))) (and_right _ _ u))

-- every element passes where none fails
every_none : (l : List ℕ) (p : ℕ → Bool) → every_of l p ≡ isnt (some_of l (λ x. isnt (p x)))
every_none l p =
    test_eq _ _
    (λ t. isnt_intro _ (λ u. let (x, m, v) = some_of_elim l (λ x. isnt (p x)) u in isnt_elim _ v (every_of_elim l p t x m)))
    (λ t. every_of_intro l p (λ x m. ⊎_elim (λ u. u) (λ n. absurd (isnt_elim _ t (some_of_intro l (λ x. isnt (p x)) x m (isnt_intro _ n)))) (test_cases (p x))))

-- the entries of rule r whose literal lacks +∂, and has −∂, by the marks
module _ (b : List ℕ) (s : Sizes) (r : ℕ) (marks : List ℕ) where
  abbrev pub lacks : ℕ → Bool
  lacks i = eqb (entry_at b s i).rule r and isnt (tagged_by 4 (marked marks) (entry_at b s i).literal.0 +∂)

  abbrev pub refutes : ℕ → Bool
  refutes i = eqb (entry_at b s i).rule r and tagged_by 4 (marked marks) (entry_at b s i).literal.0 −∂

  -- as they are read
  module _ (i : ℕ) {e : Entry} (f : e ≡ entry_at b s i) {p x : Bool} where
    pub lacks_read : p ≡ tagged_by 4 (marked marks) e.literal.0 +∂ → x ≡ (eqb e.rule r and not p) → x ≡ lacks i
    lacks_read g h = h ∙ ap₂ ◌and◌ (ap (λ z. eqb z.rule r) f) (not_isnt p ∙ ap isnt (g ∙ ap (λ z. tagged_by 4 (marked marks) z.literal.0 +∂) f))

    pub refutes_read : p ≡ tagged_by 4 (marked marks) e.literal.0 −∂ → x ≡ (eqb e.rule r and p) → x ≡ refutes i
    refutes_read g h = h ∙ ap₂ ◌and◌ (ap (λ z. eqb z.rule r) f) (g ∙ ap (λ z. tagged_by 4 (marked marks) z.literal.0 −∂) f)

  -- over all entries
  pub lacks_body : some s.entries lacks ≡ some_of (body_in b s r) (λ a. isnt (tagged_by 4 (marked marks) a +∂))
  unfolding body_in
  lacks_body = sym (some_picked s.entries _ _ _)

  pub refutes_body : some s.entries refutes ≡ some_of (body_in b s r) (λ a. tagged_by 4 (marked marks) a −∂)
  unfolding body_in
  refutes_body = sym (some_picked s.entries _ _ _)

  pub standing_read : {lacking refuted : Bool} → lacking ≡ some s.entries lacks → refuted ≡ some s.entries refutes
      → {x : Standing} → x ≡ first_fit (not lacking) refuted → x ≡ standing_by b s r marks
  unfolding standing_by
  standing_read e f g = g ∙ ap₂ first_fit (ap not e ∙ not_isnt _ ∙ ap isnt lacks_body ∙ sym (every_none _ _)) (f ∙ refutes_body)

  -- by the marks of the rules
  pub stood_standing : {lacking refuted : List ℕ} → Stood b s marks lacking refuted → r < 1024 → first_fit (isnt (marked lacking r)) (marked refuted r) ≡ standing_by b s r marks
  unfolding standing_by
  stood_standing f h = ap₂ first_fit (ap isnt (marked_by _ f.plus r h) ∙ sym (every_none _ _)) (marked_by _ f.minus r h)

-- all entries are passed
pub stood : (b : List ℕ) (s : Sizes) (marks : List ℕ) {i : ℕ} {lacking refuted : List ℕ} → i ≡ s.entries → MarkedBy (λ r. some i (lacks b s r marks)) 1024 lacking
    → MarkedBy (λ r. some i (refutes b s r marks)) 1024 refuted → Stood b s marks lacking refuted
stood b s marks {i} e f g =
    record {
      plus = marks_same (λ r. some i (lacks b s r marks)) _ (λ r. ap (λ n. some n (lacks b s r marks)) e ∙ lacks_body b s r marks) f;
      minus = marks_same (λ r. some i (refutes b s r marks)) _ (λ r. ap (λ n. some n (refutes b s r marks)) e ∙ refutes_body b s r marks) g;
    }
