-- The standing by the marks of a log is the one by its lines, and the numbers of each answer. Assumes nothing.
use Prim.Native.Nat.{ℕ, ◌+◌, ◌*◌, ◌<◌}
use native.Mathlib.Omega.{arith}
use mathlib.Core.Path.{◌≡◌, sym, ◌∙◌, ap, ap₂}
use mathlib.Core.List.{List}
use lib.Dec.{T}
use Rattle.logic.specs.Tests.{member}
use Rattle.logic.specs.Theory.{body_of}
use Rattle.logic.specs.Inference.{all_have, one_has}
use Rattle.logic.specs.System.{held}
use Rattle.logic.specs.Reading.{tagged_by}
use Rattle.logic.specs.Standing.{first_fit}
use Rattle.logic.proofs.Bodies.{all_same, one_same}
use Rattle.table.specs.declared.format.Sizes.{Sizes}
use Rattle.table.specs.declared.judge.Refusal.{Refusal}
use Rattle.table.specs.declared.edition.Edition.{Edition}
use Rattle.table.specs.Editions.{layout_of}
use Rattle.table.specs.Format.{theory_in, theory_of}
use Rattle.table.specs.Refusals.{judgement_of, Legal}
use Rattle.table.proofs.Legal.{body_entry, limited, literal_below, ranged, theory_read}
use Rattle.standing.specs.declared.answer.Standing.{Standing}
use Rattle.std.specs.Prelude.{Result, Ok}
use Rattle.standing.specs.Marks.{marked, Marked}
use Rattle.standing.proofs.Marking.{marked_held}
use Rattle.standing.specs.Answers.{numbers_of, standing_in, answer_with, standing_of, standing_by}

module _ (b : List ℕ) (s : Sizes) (e : Legal b s) (r : ℕ) where
  -- an antecedent's lines are below 4,096
  antecedent_small : (a : ℕ) → T (member a (body_of (theory_in b s) r)) → a < 1024
  unfolding theory_in
  antecedent_small a m =
      let (i, h, _, f) = body_entry b s (ranged b s e.ranges) r a m in
      omega (arith, literal_below b s (ranged b s e.ranges) i h, (limited s e.limits).atoms)

  pub standing_marked : (log marks : List ℕ) → Marked log marks → standing_by b s r marks ≡ standing_in (theory_in b s) r log
  unfolding standing_by theory_in all_have one_has
  standing_marked log marks f =
      ap₂ first_fit (all_same (theory_in b s) (tagged_by 4 (marked marks)) (tagged_by 4 (held log)) 2 r (λ a m. line a 2 m (omega arith)))
      (one_same (theory_in b s) (tagged_by 4 (marked marks)) (tagged_by 4 (held log)) 3 r (λ a m. line a 3 m (omega arith)))
    where
      line : (a t : ℕ) → T (member a (body_of (theory_in b s) r)) → t < 4 → marked marks (4 * a + t) ≡ held log (4 * a + t)
      line a t m h = marked_held log marks f (4 * a + t) (omega (arith, antecedent_small a m))

-- the answer by the judgement, and by the layout that was taken
pub answer_accepted : (d : Edition) (b : List ℕ) (r : ℕ) (log : List ℕ) (x : Result Standing Refusal) {l : List ℕ} {s : Sizes} → judgement_of d b ≡ Ok s
    → l ≡ layout_of d b → numbers_of x ≡ answer_with (Ok s) (theory_in l s) r log → numbers_of x ≡ standing_of d b r log
answer_accepted d b r log x {s = s} e h g =
    g ∙ ap (λ k. answer_with (Ok s) (theory_in k s) r log) h
    ∙ ap (λ z. answer_with (Ok s) z r log) (theory_read d b s e) ∙ ap (λ j. answer_with j (theory_of d b) r log) (sym e)
