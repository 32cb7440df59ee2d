-- Complements, and the parts of a conclusion's number: a reading with F families writes tag t of literal q as 2F * q + t, so half
-- of the number is F * q and the family. Assumes nothing.
use Prim.Native.Nat.{ℕ, suc, ◌+◌, ◌-◌, ◌*◌, ◌/◌, ◌%◌, ◌≤◌, ◌<◌}
use native.Mathlib.Nat.{mul-add-div, div-eq_of_lt, mod-eq_of_lt, mul-add-mod_self_left, div-add-mod, div-div-eq-div-mul, mul_comm, add-zero, div-lt_iff_lt-mul, mul-le-mul_left}
use native.Mathlib.Omega.{arith}
use mathlib.Core.Path.{◌≡◌, sym, ◌∙◌, ap, subst}
use lib.Arith.{mod-mul}
use Rattle.logic.specs.Theory.{complement}

pub complement_complement : (q : ℕ) → complement (complement q) ≡ q
complement_complement q = omega arith

pub complement_below : (q a : ℕ) → q < 2 * a → complement q < 2 * a
complement_below q a h = omega arith

pub complement_other : (q : ℕ) → complement q ≡ q → ⊥
complement_other q e = omega arith

-- the opposite of a number: the same half, the other bit
pub complement_half : (x : ℕ) → complement x / 2 ≡ x / 2
complement_half x = omega arith

pub complement_bit : (x : ℕ) → complement x % 2 ≡ 1 - x % 2
complement_bit x = omega arith

-- a number by its quotient and remainder
pub join_div : (n q t : ℕ) → t < n → (n * q + t) / n ≡ q
join_div n q t h = mul-add-div (omega arith) q t ∙ ap (q +◌) (div-eq_of_lt h) ∙ add-zero q

pub join_mod : (n q t : ℕ) → t < n → (n * q + t) % n ≡ t
join_mod n q t h = mul-add-mod_self_left n q t ∙ mod-eq_of_lt h

pub join_split : (n x : ℕ) → n * (x / n) + x % n ≡ x
join_split n x = div-add-mod x n

pub join_below : (n m q t : ℕ) → t < n → q < m → n * q + t < n * m
join_below n m q t h k = let l : n * suc q ≤ n * m = mul-le-mul_left n k in omega arith

pub split_below : (n m x : ℕ) → 0 < n → x < n * m → x / n < m
split_below n m x p h = (div-lt_iff_lt-mul p).1 (subst (λ k. x < k) (mul_comm n m) h)

-- with an even number of tags, by halves
pub literal_half : (f x : ℕ) → x / (2 * f) ≡ x / 2 / f
literal_half f x = sym (div-div-eq-div-mul x 2 f)

pub tag_half : (f x : ℕ) → 0 < f → x % (2 * f) ≡ 2 * (x / 2 % f) + x % 2
tag_half f x p = ap (x %◌) (mul_comm 2 f) ∙ mod-mul x p (omega arith) ∙ ap (◌+ x % 2) (mul_comm (x / 2 % f) 2)

pub family_half : (f x : ℕ) → 0 < f → x % (2 * f) / 2 ≡ x / 2 % f
family_half f x p = let e : x % (2 * f) ≡ 2 * (x / 2 % f) + x % 2 = tag_half f x p in omega arith
