-- The numbers of the refusals: from 1 to 12, each of one refusal. Assumes nothing.
use Prim.Native.Nat.{ℕ, ◌≤◌}
use native.Mathlib.Omega.{arith}
use mathlib.Core.Path.{◌≡◌, refl}
use mathlib.Core.List.{[], ◌∷◌}
use lib.ListN.{get_or}
use Rattle.table.specs.declared.judge.Refusal.{Refusal}
use Rattle.table.specs.declared.judge.Refusal.TheVariants.{Truncated, TooLarge, WrongLength, BadKind, OutOfRange, Unsorted, Cyclic, ShortScratch, ShortLog, HasOrigin, AtomsDiffer, ShortOutput}
use Rattle.table.specs.Refusals.{number_of}

pub number_range : (n : Refusal) → (1 ≤ number_of n) × (number_of n ≤ 12)
number_range Truncated = (omega arith, omega arith)
number_range TooLarge = (omega arith, omega arith)
number_range WrongLength = (omega arith, omega arith)
number_range BadKind = (omega arith, omega arith)
number_range OutOfRange = (omega arith, omega arith)
number_range Unsorted = (omega arith, omega arith)
number_range Cyclic = (omega arith, omega arith)
number_range ShortScratch = (omega arith, omega arith)
number_range ShortLog = (omega arith, omega arith)
number_range HasOrigin = (omega arith, omega arith)
number_range AtomsDiffer = (omega arith, omega arith)
number_range ShortOutput = (omega arith, omega arith)

-- the refusal of a number
pub numbered : ℕ → Refusal
numbered n = get_or (Truncated ∷ Truncated ∷ TooLarge ∷ WrongLength ∷ BadKind ∷ OutOfRange ∷ Unsorted ∷ Cyclic ∷ ShortScratch ∷ ShortLog ∷ HasOrigin ∷ AtomsDiffer ∷ ShortOutput ∷ []) n Truncated

pub numbered_back : (n : Refusal) → numbered (number_of n) ≡ n
unfolding numbered
numbered_back Truncated = refl
numbered_back TooLarge = refl
numbered_back WrongLength = refl
numbered_back BadKind = refl
numbered_back OutOfRange = refl
numbered_back Unsorted = refl
numbered_back Cyclic = refl
numbered_back ShortScratch = refl
numbered_back ShortLog = refl
numbered_back HasOrigin = refl
numbered_back AtomsDiffer = refl
numbered_back ShortOutput = refl
