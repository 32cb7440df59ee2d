-- Document 02, S-5: "one that writes a table answers with its byte count".
use Rattle.std.specs.Prelude.{ℕ, Result, Ok, Err}
use Rattle.table.specs.declared.judge.Refusal.{Refusal}
use Rattle.table.specs.Refusals.{number_of}
use Rattle.writing.specs.declared.answer.WrittenNumbers.{WrittenNumbers}

-- how many bytes the table has, or why it is refused
abbrev pub Written : Type 0
Written = Result ℕ Refusal

-- The numbers of each answer: the number of a refusal, alone; or 0, and the byte count. They determine the answer (proofs/Numbering.antt:
-- `one_answer`).
abbrev pub refusal_numbers : ℕ → WrittenNumbers
refusal_numbers n = record { refused = n; bytes = 0 }

abbrev pub bytes_numbers : ℕ → WrittenNumbers
bytes_numbers n = record { refused = 0; bytes = n }

unfoldable pub numbers_of : Written → WrittenNumbers
numbers_of (Err n) = refusal_numbers (number_of n)
numbers_of (Ok n) = bytes_numbers n
