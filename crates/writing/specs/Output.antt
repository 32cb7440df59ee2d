-- Document 02, S-5, S-7 and S-8: what a call that writes a table answers and writes, by its judgement and the new file.
use Rattle.std.specs.Prelude.{ℕ, ◌≡◌, List, ◌++◌, length, drop, Ok, Err}
use Rattle.table.specs.Refusals.{Judgement}
use Rattle.writing.specs.Answers.{Written}

-- "answers with its byte count"
unfoldable pub answer_to : Judgement → List ℕ → Written
answer_to (Ok s) new = Ok (length new)
answer_to (Err n) new = Err n

-- "a refusal leaves the output untouched, and bytes past the new file always are"
unfoldable pub output_after : Judgement → List ℕ → List ℕ → List ℕ
output_after (Ok s) new out = new ++ drop (length new) out
output_after (Err n) new out = out

pub record Wrote (j : Judgement) (new out out' : List ℕ) (a : Written) : Type 0 where
  pub answer : a ≡ answer_to j new
  pub output : out' ≡ output_after j new out
