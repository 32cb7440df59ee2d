-- The verdict by the marks of a log and of the literals that have a supporter which is not out. Assumes nothing.
use Prim.Native.Nat.{ℕ, ◌+◌, ◌*◌, ◌<◌}
use native.Mathlib.Omega.{arith}
use mathlib.Core.Path.{◌≡◌, refl, sym, ◌∙◌, ap, ap₂}
use mathlib.Core.Bool.{Bool, not}
use Rattle.logic.specs.Tests.{◌and◌, isnt}
use Rattle.logic.specs.Reading.{tagged_by}
use Rattle.logic.specs.Theory.{atom, complement}
use Rattle.logic.specs.Inference.{+∂, −∂}
use Rattle.logic.specs.Verdict.{first_fit, verdict_by}
use Rattle.logic.proofs.Tests.{not_isnt}

-- the verdict by an atom's four lines, and by the test of its two literals
verdict_from : (h : ℕ → ℕ → Bool) (w : ℕ → Bool) (a : ℕ) {proved opposed refuted unopposed x y : Bool} → h (2 * a) +∂ ≡ proved → h (2 * a + 1) +∂ ≡ opposed
    → h (2 * a) −∂ ≡ refuted → h (2 * a + 1) −∂ ≡ unopposed → w (2 * a) ≡ x → w (2 * a + 1) ≡ y
    → verdict_by h w a ≡ first_fit (proved and opposed) proved opposed ((refuted and unopposed) and (x and y)) (refuted and unopposed)
verdict_from h w a p o r u x y = simp (p, o, r, u, x, y)

-- by the literal that says that it holds, and its complement
module _ (h : ℕ → ℕ → Bool) (m : ℕ → Bool) (q n : ℕ) (e : q ≡ 2 * atom q) (f : n ≡ complement q) where
  other : 2 * atom q + 1 ≡ n
  other = omega arith

  pub verdict_by_lem : {proved opposed refuted unopposed forIt againstIt neither isClash isIdle isSplit : Bool} → proved ≡ h q +∂ → opposed ≡ h n +∂ → refuted ≡ h q −∂
      → unopposed ≡ h n −∂ → forIt ≡ m q → againstIt ≡ m n → isClash ≡ (proved and opposed) → isSplit ≡ (refuted and unopposed)
      → neither ≡ (not forIt and not againstIt) → isIdle ≡ (isSplit and neither)
      → first_fit isClash proved opposed isIdle isSplit ≡ verdict_by h (λ p. isnt (m p)) (atom q)
  verdict_by_lem {proved} {opposed} {refuted} {unopposed} {forIt} {againstIt} {isSplit = isSplit} p o r u x y c s z i =
      ap₂ (λ k l. first_fit k proved opposed l isSplit) c (i ∙ ap₂ ◌and◌ s (z ∙ ap₂ ◌and◌ (not_isnt forIt) (not_isnt againstIt)))
      ∙ ap (first_fit (proved and opposed) proved opposed ((refuted and unopposed) and (isnt forIt and isnt againstIt))) s
      ∙ sym (verdict_from h (λ p. isnt (m p)) (atom q) (ap (λ k. h k +∂) (sym e) ∙ sym p) (ap (λ k. h k +∂) other ∙ sym o) (ap (λ k. h k −∂) (sym e) ∙ sym r)
      (ap (λ k. h k −∂) other ∙ sym u) (ap (λ k. isnt (m k)) (sym e) ∙ ap isnt (sym x)) (ap (λ k. isnt (m k)) other ∙ ap isnt (sym y)))

-- tests that agree on an atom's four lines and on its two literals give one verdict
pub verdict_same : (f g w v : ℕ → Bool) (a : ℕ) → ((x : ℕ) → x < 8 * a + 8 → f x ≡ g x) → ((q : ℕ) → q < 2 * a + 2 → w q ≡ v q)
    → verdict_by (tagged_by 4 f) w a ≡ verdict_by (tagged_by 4 g) v a
verdict_same f g w v a h k =
    verdict_from (tagged_by 4 f) w a (h _ (omega arith)) (h _ (omega arith)) (h _ (omega arith)) (h _ (omega arith)) (k _ (omega arith)) (k _ (omega arith))
    ∙ sym (verdict_from (tagged_by 4 g) v a refl refl refl refl refl refl)
