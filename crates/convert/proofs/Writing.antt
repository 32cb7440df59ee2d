-- What is answered and written, by the output that is lent. Assumes nothing.
use Prim.Native.Nat.{ℕ, ◌≤◌, ◌<◌}
use native.Mathlib.Omega.{arith}
use mathlib.Core.Path.{◌≡◌, ap₂}
use mathlib.Core.Bool.{Bool, true, false}
use mathlib.Core.List.{List, [], ◌∷◌, ◌++◌}
use borrow.Author.Tests.{lt-ltb, le-ltb}
use lib.ListN.{length, drop, set}
use borrow.Rule.Slice.PartMut.{put_mid}
use Rattle.table.specs.declared.format.Sizes.{Sizes}
use Rattle.table.specs.declared.judge.Refusal.TheVariants.{ShortLog, HasOrigin}
use Rattle.table.specs.Refusals.{Legal}
use Rattle.table.proofs.Legal.{whole_length, limited}
use Rattle.std.specs.Prelude.{Ok, Err}
use Rattle.writing.specs.Answers.{Written}
use Rattle.writing.specs.Output.{Wrote}
use Rattle.writing.proofs.Answering.{wrote_not, wrote_new}
use Rattle.convert.specs.Conversion.{with_output}

-- the longest table
pub file_length : (b : List ℕ) (s : Sizes) → Legal b s → length b ≤ 32778
file_length b s l = let m = limited s l.limits in omega (arith, whole_length b s l.whole, m.facts, m.rules, m.entries, m.pairs)

-- a file behind a first byte
pub copied_marked : (out file : List ℕ) {copy : List ℕ} {n : ℕ} → 0 < length out → copy ≡ file → n ≡ length file → put_mid 1 n (set out 0 2) copy ≡ (2 ∷ file) ++ drop (length (2 ∷ file)) out
copied_marked [] file h e f = absurd (omega arith)
copied_marked (x ∷ out) file h e f = ap₂ (λ z k. 2 ∷ (z ++ drop k out)) e f

-- by the output and by what would be lost
module _ (s : Sizes) (lost : Bool) (new : List ℕ) {out out' : List ℕ} {a : Written} where
  pub wrote_short : length out < length new → (a ≡ Err ShortLog) × (out' ≡ out) → Wrote (with_output s lost new (length out)) new out out' a
  unfolding with_output
  wrote_short h f = wrote_not ShortLog _ new (simp (lt-ltb (length out) (length new) h)) f

  pub wrote_lost : length new ≤ length out → lost ≡ true → (a ≡ Err HasOrigin) × (out' ≡ out) → Wrote (with_output s lost new (length out)) new out out' a
  unfolding with_output
  wrote_lost h e f = wrote_not HasOrigin _ new (simp (le-ltb (length out) (length new) h, e)) f

  pub wrote_file : length new ≤ length out → lost ≡ false → a ≡ Ok (length new) → out' ≡ new ++ drop (length new) out
      → Wrote (with_output s lost new (length out)) new out out' a
  unfolding with_output
  wrote_file h e f g = wrote_new s _ new (simp (le-ltb (length out) (length new) h, e)) f g
