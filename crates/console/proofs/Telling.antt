-- What a number tells, and what a call that was told an edition, or none, hands over. Assumes nothing.
use Prim.Native.Nat.{ℕ}
use mathlib.Core.Path.{◌≡◌, refl, sym, ◌∙◌, ap, subst}
use mathlib.Core.List.{List}
use Rattle.std.specs.Prelude.{Option, Some, None, Err}
use Rattle.table.specs.declared.edition.Edition.{Edition}
use Rattle.table.specs.declared.edition.Edition.TheVariants.{Old, Two}
use Rattle.table.specs.declared.judge.Refusal.TheVariants.{Truncated}
use Rattle.table.specs.Editions.{edition_number}
use Rattle.table.specs.Format.{theory_of}
use Rattle.table.specs.Refusals.{judgement_of}
use Rattle.engine.specs.declared.reading.Reading.{Reading}
use Rattle.engine.specs.declared.reading.Reading.TheVariants.{Plain, WellFounded}
use Rattle.engine.specs.declared.answer.Numbers.{Numbers}
use Rattle.engine.specs.Readings.{reading_number}
use Rattle.engine.specs.declared.answer.Answer.TheVariants as run
use Rattle.engine.specs.Answers as run-answers
use Rattle.engine.specs.Answers.{Ran}
use Rattle.standing.specs.declared.answer.StandingNumbers.{StandingNumbers}
use Rattle.standing.specs.Answers as standing-answers
use Rattle.standing.specs.Answers.{standing_of}
use Rattle.console.specs.Told.{told_by, reading_by, RanTold, standing_told, WritesTold}

-- the number of an edition tells it
pub told_edition : (e : Edition) → told_by (edition_number e) ≡ Some e
unfolding told_by edition_number
told_edition Old = refl
told_edition Two = refl

-- the number of a reading tells it
pub told_reading : (m : Reading) → reading_by (reading_number m) ≡ Some m
unfolding reading_by reading_number
told_reading Plain = refl
told_reading WellFounded = refl

-- a run, and how a rule stands, by what was told
module _ {t : Option Edition} (b : List ℕ) where
  module _ (u : Option Reading) (budget : ℕ) (log scratch : List ℕ) {k : Numbers} where
    pub ran_known : {e : Edition} {m : Reading} {n : Numbers} (log' scratch' : List ℕ) → Some e ≡ t → Some m ≡ u → k ≡ n
        → Ran m (judgement_of e b) (theory_of e b) budget log log' scratch scratch' n → RanTold t u b budget log log' scratch scratch' k
    unfolding RanTold
    ran_known {e} {m} log' scratch' told read f r =
        coe 0 1 (j. RanTold (told j) (read j) b budget log log' scratch scratch' k) (subst (Ran m (judgement_of e b) (theory_of e b) budget log log' scratch scratch') (sym f) r)

    pub ran_unread : {e : Edition} → Some e ≡ t → None ≡ u → k ≡ run-answers.numbers_of (run.Refused Truncated) → RanTold t u b budget log log scratch scratch k
    unfolding RanTold run-answers.numbers_of
    ran_unread told read f = coe 0 1 (j. RanTold (told j) (read j) b budget log log scratch scratch k) (f, refl, refl)

    pub ran_unknown : None ≡ t → k ≡ run-answers.numbers_of (run.Refused Truncated) → RanTold t u b budget log log scratch scratch k
    unfolding RanTold run-answers.numbers_of
    ran_unknown told f = subst (λ z. RanTold z u b budget log log scratch scratch k) told (f, refl, refl)

  module _ (r : ℕ) (log : List ℕ) {k : StandingNumbers} where
    pub stands_known : {e : Edition} {m : StandingNumbers} → Some e ≡ t → k ≡ m → m ≡ standing_of e b r log → k ≡ standing_told t b r log
    unfolding standing_told
    stands_known told f g = f ∙ g ∙ ap (λ z. standing_told z b r log) told

    pub stands_unknown : None ≡ t → k ≡ standing-answers.numbers_of (Err Truncated) → k ≡ standing_told t b r log
    unfolding standing_told standing-answers.numbers_of
    stands_unknown told f = f ∙ ap (λ z. standing_told z b r log) told

-- a call that writes into one buffer
module _ {A : Type 0} {t : Option Edition} (handed : Edition → List ℕ → A → Type 0) (refused : A) (out : List ℕ) where
  pub written_known : {e : Edition} {out' : List ℕ} {m k : A} → Some e ≡ t → k ≡ m → handed e out' m → WritesTold t handed refused out out' k
  unfolding WritesTold
  written_known {e} {out'} {m} {k} told f w = subst (λ z. WritesTold z handed refused out out' k) told (subst (handed e out') (sym f) w)

  pub written_unknown : {k : A} → None ≡ t → k ≡ refused → WritesTold t handed refused out out k
  unfolding WritesTold
  written_unknown {k} told f = subst (λ z. WritesTold z handed refused out out k) told (f, refl)
