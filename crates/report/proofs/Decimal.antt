-- Decimal numbers: the digits are the number's, none leads that is 0, and how many there are. Assumes nothing.
use Prim.Native.Nat.{ℕ, zero, suc, ◌+◌, ◌-◌, ◌*◌, ◌/◌, ◌%◌, ◌≤◌, ◌<◌}
use native.Mathlib.Nat.{le_refl}
use native.Mathlib.Omega.{arith}
use mathlib.Core.Path.{◌≡◌, refl, sym, ◌∙◌, ap, subst}
use mathlib.Core.Logic.{⊎_elim}
use mathlib.Core.Bool.{cond}
use mathlib.Core.List.{List, [], ◌∷◌, ◌++◌}
use lib.Dec.{ltb, ltb→lt, lt→ltb}
use lib.ListN.{length, get_or, length-append, get_or-append}
use Rattle.logic.proofs.Tests.{cond_true, cond_false, at_most}
use Rattle.report.specs.Text.{digit, digits, decimal, value_from}

-- more room for digits changes nothing
digits_enough : (k j n : ℕ) → n ≤ k → n ≤ j → digits k n ≡ digits j n
unfolding digits
digits_enough zero zero n h i = refl
digits_enough zero (suc j) n h i = sym (cond_true (ltb n 10) _ _ (lt→ltb n 10 (omega arith)))
digits_enough (suc k) zero n h i = cond_true (ltb n 10) _ _ (lt→ltb n 10 (omega arith))
digits_enough (suc k) (suc j) n h i =
    ap (λ (l : List ℕ). cond (ltb n 10) (digit n ∷ []) (l ++ (digit (n % 10) ∷ []))) (digits_enough k j (n / 10) (omega arith) (omega arith))

pub decimal_one : (n : ℕ) → n < 10 → decimal n ≡ digit n ∷ []
unfolding decimal digits
decimal_one zero h = refl
decimal_one (suc n) h = cond_true (ltb (suc n) 10) _ _ (lt→ltb (suc n) 10 h)

pub decimal_more : (n : ℕ) → 10 ≤ n → decimal n ≡ decimal (n / 10) ++ (digit (n % 10) ∷ [])
unfolding decimal digits
decimal_more zero h = absurd (not_small h)
  where
    not_small : 10 ≤ 0 → ⊥
    not_small l = omega arith
decimal_more (suc n) h =
    cond_false (ltb (suc n) 10) _ _ (λ t. not_less (ltb→lt (suc n) 10 t))
    ∙ ap (λ (l : List ℕ). l ++ (digit (suc n % 10) ∷ [])) (digits_enough n (suc n / 10) (suc n / 10) (omega arith) (le_refl (suc n / 10)))
  where
    not_less : suc n < 10 → ⊥
    not_less l = omega arith

-- by the number of digits: one for a number below 10, and one more for each power
pub decimal_cases : (P : ℕ → List ℕ → Type 0) → ((n : ℕ) → n < 10 → P n (digit n ∷ []))
    → ((n : ℕ) → 10 ≤ n → P (n / 10) (decimal (n / 10)) → P n (decimal (n / 10) ++ (digit (n % 10) ∷ []))) → (n : ℕ) → P n (decimal n)
decimal_cases P one more n = below (n + 1) n (omega arith)
  where
    below : (k m : ℕ) → m < k → P m (decimal m)
    below zero m h = absurd (none h)
      where
        none : m < 0 → ⊥
        none l = omega arith
    below (suc k) m h =
        ⊎_elim (λ l. subst (P m) (sym (decimal_more m l)) (more m l (below k (m / 10) (omega arith))))
        (λ l. subst (P m) (sym (decimal_one m l)) (one m l)) (at_most 10 m)

value_last : (n : ℕ) (l : List ℕ) (d : ℕ) → value_from n (l ++ (d ∷ [])) ≡ 10 * value_from n l + (d - 48)
unfolding value_from
value_last n [] d = refl
value_last n (x ∷ l) d = value_last (10 * n + (x - 48)) l d

-- the digits say the number
pub decimal_value : (n : ℕ) → value_from 0 (decimal n) ≡ n
unfolding value_from
decimal_value =
    decimal_cases (λ n l. value_from 0 l ≡ n) (λ n h. omega arith)
    (λ n h e. value_last 0 (decimal (n / 10)) (digit (n % 10)) ∙ (let f : value_from 0 (decimal (n / 10)) ≡ n / 10 = e in omega arith))

pub decimal_filled : (n : ℕ) → 1 ≤ length (decimal n)
decimal_filled =
    decimal_cases (λ n l. 1 ≤ length l) (λ n h. omega arith) (λ n h e. omega (arith, length-append (decimal (n / 10)) (digit (n % 10) ∷ [])))

pub decimal_longer : (n : ℕ) → 10 ≤ n → length (decimal n) ≡ length (decimal (n / 10)) + 1
decimal_longer n h = ap length (decimal_more n h) ∙ length-append (decimal (n / 10)) (digit (n % 10) ∷ [])

-- no leading 0, but for the number 0
pub decimal_first : (n : ℕ) → 1 ≤ n → 48 < get_or (decimal n) 0 0
decimal_first =
    decimal_cases (λ n l. 1 ≤ n → 48 < get_or l 0 0) (λ n h p. omega arith)
    (λ n h f p. subst (λ z. 48 < z) (sym (get_or-append (decimal (n / 10)) (digit (n % 10) ∷ []) 0 0 (decimal_filled (n / 10)))) (f (omega arith)))

-- numbers below 10m have one digit more than those below m have at most
longer : (k m : ℕ) → 1 ≤ k → ((i : ℕ) → i < m → length (decimal i) ≤ k) → (n : ℕ) → n < 10 * m → length (decimal n) ≤ k + 1
longer k m p f n h =
    ⊎_elim (λ l. let e = f (n / 10) (omega arith) in omega (arith, decimal_longer n l))
    (λ l. subst (λ z. length z ≤ k + 1) (sym (decimal_one n l)) (omega arith)) (at_most 10 n)

pub length_1 : (n : ℕ) → n < 10 → length (decimal n) ≤ 1
length_1 n h = subst (λ z. length z ≤ 1) (sym (decimal_one n h)) (omega arith)

pub length_2 : (n : ℕ) → n < 100 → length (decimal n) ≤ 2
length_2 = longer 1 10 (omega arith) length_1

pub length_3 : (n : ℕ) → n < 1000 → length (decimal n) ≤ 3
length_3 = longer 2 100 (omega arith) length_2

pub length_5 : (n : ℕ) → n < 100000 → length (decimal n) ≤ 5
length_5 = longer 4 10000 (omega arith) (longer 3 1000 (omega arith) length_3)
