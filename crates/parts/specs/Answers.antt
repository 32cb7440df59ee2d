-- The number of each answer to a call for the list: that of a refusal, or 0. It determines the answer (proofs/Listing.antt: `one_listing`).
use Rattle.std.specs.Prelude.{ℕ, Result, Ok, Err}
use Rattle.table.specs.declared.judge.Refusal.{Refusal}
use Rattle.table.specs.Refusals.{number_of}

-- nothing more, or why it is refused
abbrev pub Listing : Type 0
Listing = Result (Unit {0}) Refusal

unfoldable pub listing_number : Listing → ℕ
listing_number (Ok _) = 0
listing_number (Err n) = number_of n
