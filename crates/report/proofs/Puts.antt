-- Texts put one after the other are one text. Assumes nothing.
use Prim.Native.Nat.{ℕ, zero, suc, ◌+◌, ◌-◌, ◌/◌, ◌%◌, ◌≤◌, ◌<◌}
use native.Mathlib.Nat.{add-zero, sub-zero, zero-sub, suc-sub-suc}
use native.Mathlib.Numerals.{add-one}
use native.Mathlib.Omega.{arith}
use mathlib.Core.Path.{◌≡◌, refl, sym, ◌∙◌, ap, ap₂, subst}
use mathlib.Core.List.{List, [], ◌∷◌, ◌++◌, append_assoc, append-nil}
use lib.ListN.{length, take, drop, set, replicate, length-append, take-append-drop}
use lib.Seq.{take_at, drop_at, drop-drop, length-take-le, set_split}
use Rattle.report.specs.Text.{digit, decimal}
use Rattle.report.specs.Printing.{Put}
use Rattle.report.proofs.Decimal.{decimal_one, decimal_more}

-- the bytes before the end of a text that was put
head_length : (out : List ℕ) (at : ℕ) (t : List ℕ) → at ≤ length out → length (take at out ++ t) ≡ at + length t
head_length out at t h = length-append (take at out) t ∙ ap (λ n. n + length t) (length-take-le at out h)

pub put_nothing : (out : List ℕ) (at : ℕ) → Put out at [] out at
put_nothing out at =
    record {
      bytes = sym (ap₂ (λ (x : List ℕ) n. x ++ drop n out) (append-nil (take at out)) (add-zero at) ∙ take-append-drop at out);
      end = sym (add-zero at);
    }

pub put_put : {out out₁ out₂ t u : List ℕ} {at r₁ r₂ : ℕ} → at ≤ length out → Put out at t out₁ r₁ → Put out₁ r₁ u out₂ r₂ → Put out at (t ++ u) out₂ r₂
put_put {out} {out₁} {out₂} {t} {u} {at} {r₁} {r₂} h p q =
    record {
      bytes =
          q.bytes ∙ ap₂ (λ (x y : List ℕ). x ++ u ++ y) front back
          ∙ ap₂ (λ (x : List ℕ) n. x ++ drop n out) (append_assoc (take at out) t u) place;
      end = omega (arith, length-append t u, p.end, q.end);
    }
  where
    place : at + length t + length u ≡ at + length (t ++ u)
    place = omega (arith, length-append t u)

    first : length (take at out ++ t) ≡ r₁
    first = head_length out at t h ∙ sym p.end

    front : take r₁ out₁ ≡ take at out ++ t
    front = ap (take r₁) p.bytes ∙ take_at (take at out ++ t) (drop (at + length t) out) r₁ first

    back : drop (r₁ + length u) out₁ ≡ drop (at + length t + length u) out
    back =
        sym (drop-drop (length u) r₁ out₁)
        ∙ ap (drop (length u)) (ap (drop r₁) p.bytes ∙ drop_at (take at out ++ t) (drop (at + length t) out) r₁ first)
        ∙ drop-drop (length u) (at + length t) out

-- a byte stored, and a text copied
pub put_one : {out : List ℕ} {at x d : ℕ} → x ≡ d → at < length out → Put out at (d ∷ []) (set out at x) (at + 1)
put_one {out} {at} {x} {d} e h = record { bytes = ap (set out at) e ∙ set_split out at d h ∙ one; end = refl }
  where
    one : take at out ++ (d ∷ drop (suc at) out) ≡ take at out ++ (d ∷ []) ++ drop (at + 1) out
    one = ap (λ k. take at out ++ (d ∷ drop k out)) (sym (add-one at)) ∙ sym (append_assoc (take at out) (d ∷ []) (drop (at + 1) out))

-- a text that is another
pub put_same : {out out' t u : List ℕ} {at r : ℕ} → t ≡ u → Put out at t out' r → Put out at u out' r
put_same {out} {out'} {at = at} {r = r} e p = subst (λ z. Put out at z out' r) e p

-- a number's digits
pub put_decimal_one : {out out' : List ℕ} {at r n : ℕ} → n < 10 → Put out at (digit n ∷ []) out' r → Put out at (decimal n) out' r
put_decimal_one {n = n} h p = put_same (sym (decimal_one n h)) p

pub put_decimal_more : {out out₁ out₂ : List ℕ} {at r₁ r₂ n : ℕ} → 10 ≤ n → at ≤ length out → Put out at (decimal (n / 10)) out₁ r₁
    → Put out₁ r₁ (digit (n % 10) ∷ []) out₂ r₂ → Put out at (decimal n) out₂ r₂
put_decimal_more {n = n} h room p q = put_same (sym (decimal_more n h)) (put_put room p q)

-- a text put into zeros
drop_zeros : (n k : ℕ) → drop {A = ℕ} k (replicate n 0) ≡ replicate (n - k) 0
drop_zeros n zero = ap (λ z. replicate z 0) (sym (sub-zero n))
drop_zeros zero (suc k) = ap (λ z. replicate z 0) (sym (zero-sub (suc k)))
drop_zeros (suc n) (suc k) = drop_zeros n k ∙ ap (λ z. replicate z 0) (sym (suc-sub-suc n k))

pub put_zeros : (n : ℕ) (t out : List ℕ) (r : ℕ) → Put (replicate n 0) 0 t out r → out ≡ t ++ replicate (n - length t) 0
put_zeros n t out r p = p.bytes ∙ ap (λ (z : List ℕ). t ++ z) (ap (λ k. drop {A = ℕ} k (replicate n 0)) (sym (same (length t))) ∙ drop_zeros n (length t))
  where
    same : (k : ℕ) → k ≡ 0 + k
    same k = omega arith
