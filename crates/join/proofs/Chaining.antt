-- The words of the numbers of a chain, one after the other. Assumes nothing.
use Prim.Native.Nat.{ℕ, ◌+◌, ◌*◌, ◌≤◌, ◌<◌}
use mathlib.Core.Path.{◌≡◌, refl, sym, ◌∙◌, ap, subst}
use mathlib.Core.Bool.{Bool, true}
use mathlib.Core.List.{List, [], ◌∷◌, map}
use lib.Dec.{T}
use lib.ListN.{get_or, length-map}
use Rattle.logic.specs.Tests.{upto, pick}
use Rattle.logic.proofs.Tests.{true_of}
use Rattle.writing.specs.Columns.{with_words}
use Rattle.join.specs.Heads.{Chain}
use Rattle.join.specs.Written.{Words}
use Rattle.writing.proofs.Picking.{Put, nothing_put, put_one, next_put, skip_put, all_put}

module _ (word : ℕ → ℕ) (n start : ℕ) (next out : List ℕ) (at : ℕ) where
  -- the chain has come to j, and what stands before it is written
  abbrev pub Reached : ℕ → ℕ → List ℕ → Type 0
  Reached j place a = (p : ℕ → Bool) → Chain p n start next → (j ≤ n) × (j < n → T (p j)) × Put word out at p j place a

  pub reached_first : Reached start at out
  reached_first p w = (w.starts.most, w.starts.passes, skip_put word out at p 0 start w.starts.from w.starts.none (nothing_put word out at p))

  pub reached_next : (j : ℕ) {place k : ℕ} {a b : List ℕ} {w x : ℕ} → j < n → w ≡ word j → b ≡ with_words a place (w ∷ []) → x ≡ j → k ≡ get_or next x 0 → Reached j place a
      → Reached k (place + 2) b
  reached_next j {place} {k} {a} {b} h e f y g r p c =
      let (m, t, u) = r p c in
      let v = c.goes j h (t h) in
      let z : get_or next j 0 ≡ k = sym (g ∙ ap (λ i. get_or next i 0) y) in
      subst (λ i. (i ≤ n) × (i < n → T (p i)) × Put word out at p i (place + 2) b) z (
        v.most,
        v.passes,
        skip_put word out at p (j + 1) (get_or next j 0) v.from v.none (next_put word out at p j u (sym (true_of (p j) (t h))) e (put_one a place true _ refl f)),
      )

  pub reached_all : (j : ℕ) {place : ℕ} {a : List ℕ} → n ≤ j → Reached j place a → (p : ℕ → Bool) → Chain p n start next → Words out at (map word (pick (upto n) p)) a place
  reached_all j h r p c =
      let (m, _, u) = r p c in
      let (e, f) = all_put word out at p j n m h u in (e ∙ ap (λ k. at + 2 * k) (sym (length-map (pick (upto n) p) word)), f)
