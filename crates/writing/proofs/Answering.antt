-- What is answered and written, by a judgement that refuses and by one that accepts. Assumes nothing.
use Prim.Native.Nat.{ℕ}
use mathlib.Core.Path.{◌≡◌, sym, subst}
use mathlib.Core.List.{List, ◌++◌}
use lib.ListN.{length, drop}
use Rattle.table.specs.declared.format.Sizes.{Sizes}
use Rattle.table.specs.declared.judge.Refusal.{Refusal}
use Rattle.table.specs.Refusals.{Judgement}
use Rattle.std.specs.Prelude.{Ok, Err}
use Rattle.writing.specs.Answers.{Written}
use Rattle.writing.specs.Output.{answer_to, output_after, Wrote}

pub wrote_not : (n : Refusal) (j : Judgement) (new : List ℕ) {out out' : List ℕ} {a : Written} → j ≡ Err n → (a ≡ Err n) × (out' ≡ out) → Wrote j new out out' a
unfolding answer_to output_after
wrote_not n j new {out} {out'} {a} e (f, g) = subst (λ i. Wrote i new out out' a) (sym e) (record { answer = f; output = g })

pub wrote_new : (s : Sizes) (j : Judgement) (new : List ℕ) {out out' : List ℕ} {a : Written} → j ≡ Ok s → a ≡ Ok (length new)
    → out' ≡ new ++ drop (length new) out → Wrote j new out out' a
unfolding answer_to output_after
wrote_new s j new {out} {out'} {a} e f g = subst (λ i. Wrote i new out out' a) (sym e) (record { answer = f; output = g })
