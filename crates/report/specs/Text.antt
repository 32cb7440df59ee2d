-- Numbers and fixed words as bytes (ASCII).
use Rattle.std.specs.Prelude.{ℕ, zero, suc, ◌+◌, ◌-◌, ◌*◌, ◌/◌, ◌%◌, cond, List, [], ◌∷◌, ◌++◌, ltb}
use Rattle.logic.specs.Verdict as logic
use Rattle.logic.specs.Verdict.{clash, go, hold, idle, split, «open»}
use Rattle.report.specs.declared.verdict.Verdict.{Verdict}
use Rattle.report.specs.declared.verdict.Verdict.TheVariants.{Clash, Go, Hold, Idle, Split, Open}

-- "Numbers stand in decimal.": the digit of a number below 10; the digits of a number, which are those of its tenth part and its last
-- one, so that 0 leads in 0 alone. The first argument bounds the steps: a number takes no more than itself.
abbrev pub digit : ℕ → ℕ
digit n = 48 + n

unfoldable pub digits : ℕ → ℕ → List ℕ
digits zero n = digit n ∷ []
digits (suc k) n = cond (ltb n 10) (digit n ∷ []) (digits k (n / 10) ++ (digit (n % 10) ∷ []))

unfoldable pub decimal : ℕ → List ℕ
decimal n = digits n n

-- the number that digits say, with a number before them (proofs/Decimal.antt: `decimal_value`, and `decimal_first`, no leading 0)
unfoldable pub value_from : ℕ → List ℕ → ℕ
value_from n [] = n
value_from n (d ∷ ds) = value_from (10 * n + (d - 48)) ds

-- The verdict that each case of the enum means, and the papers' word for it: "clash", "go", "hold", "idle", "split", "open".
unfoldable pub meant : Verdict → logic.Verdict
meant Clash = clash
meant Go = go
meant Hold = hold
meant Idle = idle
meant Split = split
meant Open = «open»

unfoldable pub word_of : logic.Verdict → List ℕ
word_of clash = 99 ∷ 108 ∷ 97 ∷ 115 ∷ 104 ∷ []
word_of go = 103 ∷ 111 ∷ []
word_of hold = 104 ∷ 111 ∷ 108 ∷ 100 ∷ []
word_of idle = 105 ∷ 100 ∷ 108 ∷ 101 ∷ []
word_of split = 115 ∷ 112 ∷ 108 ∷ 105 ∷ 116 ∷ []
word_of «open» = 111 ∷ 112 ∷ 101 ∷ 110 ∷ []

-- "atoms ", "spent ", " of ", "refused ", a space, the end of a line
abbrev pub atoms_word : List ℕ
atoms_word = 97 ∷ 116 ∷ 111 ∷ 109 ∷ 115 ∷ 32 ∷ []

abbrev pub spent_word : List ℕ
spent_word = 115 ∷ 112 ∷ 101 ∷ 110 ∷ 116 ∷ 32 ∷ []

abbrev pub of_word : List ℕ
of_word = 32 ∷ 111 ∷ 102 ∷ 32 ∷ []

abbrev pub refused_word : List ℕ
refused_word = 114 ∷ 101 ∷ 102 ∷ 117 ∷ 115 ∷ 101 ∷ 100 ∷ 32 ∷ []

abbrev pub space : List ℕ
space = 32 ∷ []

abbrev pub newline : List ℕ
newline = 10 ∷ []
