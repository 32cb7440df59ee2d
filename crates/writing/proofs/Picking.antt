-- The words of numbers at which a test passes, one after the other. Assumes nothing.
use Prim.Native.Nat.{ℕ, zero, suc, ◌+◌, ◌-◌, ◌*◌, ◌≤◌, ◌<◌}
use native.Mathlib.Nat.{add-zero, le_antisymm}
use native.Mathlib.Numerals.{add-one}
use native.Mathlib.Omega.{arith}
use mathlib.Core.Path.{◌≡◌, refl, sym, ◌∙◌, ap, subst}
use mathlib.Core.Bool.{Bool, true, false, cond}
use mathlib.Core.List.{List, [], ◌∷◌, ◌++◌, map, map-append, append-nil}
use lib.Dec.{T}
use lib.ListN.{length, length-append, length-map}
use Rattle.logic.specs.Tests.{weigh, upto, pick}
use Rattle.logic.proofs.Tests.{cond_false}
use Rattle.logic.proofs.Lists.{pick_append, pick_le, length_upto}
use Rattle.files.specs.Contents.{bytes_of}
use Rattle.writing.specs.Columns.{with_words}
use Rattle.writing.proofs.Appending.{words_then}

-- one number, if the test says so
abbrev pub one : Bool → ℕ → List ℕ
one test q = cond test (q ∷ []) []

one_length : (test : Bool) (q : ℕ) → length (one test q) ≡ weigh test 1
unfolding weigh
one_length true q = refl
one_length false q = refl

pub pick_next : (q : ℕ) (p : ℕ → Bool) → pick (upto (q + 1)) p ≡ pick (upto q) p ++ one (p q) q
unfolding upto pick
pick_next q p = ap (λ k. pick (upto k) p) (add-one q) ∙ pick_append (upto q) (q ∷ []) p

pick_over : (p : ℕ → Bool) (k d : ℕ) → ((i : ℕ) → k ≤ i → i < k + d → T (p i) → ⊥) → pick (upto k) p ≡ pick (upto (k + d)) p
pick_over p k zero n = ap (λ z. pick (upto z) p) (sym (add-zero k))
pick_over p k (suc d) n =
    pick_over p k d (λ i h l. n i h (omega arith)) ∙ sym (append-nil _)
    ∙ ap (pick (upto (k + d)) p ++◌) (sym (cond_false (p (k + d)) ((k + d) ∷ []) [] (n (k + d) (omega arith) (omega arith)))) ∙ sym (pick_next (k + d) p)
    ∙ ap (λ z. pick (upto z) p) (let e : k + d + 1 ≡ k + suc d = omega arith in e)

pub pick_skip : (p : ℕ → Bool) (k x : ℕ) → k ≤ x → ((i : ℕ) → k ≤ i → i < x → T (p i) → ⊥) → pick (upto k) p ≡ pick (upto x) p
pick_skip p k x h n =
    let e : k + (x - k) ≡ x = omega arith in pick_over p k (x - k) (λ i g l. n i g (omega arith)) ∙ ap (λ z. pick (upto z) p) e

pub pick_few : (q : ℕ) (p : ℕ → Bool) → length (pick (upto q) p) ≤ q
pick_few q p = subst (λ n. length (pick (upto q) p) ≤ n) (length_upto q) (pick_le (upto q) p)

-- a word, if the test says so
module _ (out : List ℕ) (at : ℕ) (test : Bool) (w : ℕ) where
  pub put_one : {out' : List ℕ} → test ≡ true → out' ≡ with_words out at (w ∷ []) → (out' ≡ with_words out at (one test w)) × (at + 2 ≡ at + 2 * weigh test 1)
  unfolding weigh
  put_one e g = (g ∙ ap (λ t. with_words out at (one t w)) (sym e), ap (λ t. at + 2 * weigh t 1) (sym e))

module _ (word : ℕ → ℕ) (out : List ℕ) (at : ℕ) where
  one_word : (test : Bool) (q : ℕ) → one test (word q) ≡ map word (one test q)
  one_word true q = refl
  one_word false q = refl

  -- the numbers passed at which a test passes: none, one more, all
  module _ (p : ℕ → Bool) where
    abbrev pub Put : ℕ → ℕ → List ℕ → Type 0
    Put q place out' = (place ≡ at + 2 * length (pick (upto q) p)) × (out' ≡ with_words out at (map word (pick (upto q) p)))

    pub nothing_put : Put 0 at out
    unfolding upto pick bytes_of
    nothing_put = (omega arith, refl)

    pub next_put : (q : ℕ) {place place' w : ℕ} {a b : List ℕ} {t : Bool} → Put q place a → t ≡ p q → w ≡ word q
        → (b ≡ with_words a place (one t w)) × (place' ≡ place + 2 * weigh t 1) → Put (q + 1) place' b
    next_put q {place = place} {a = a} {t = t} (e, f) g v (h, k) = (
      omega (arith, e, k, sizes),
      words_then out at (map word (pick (upto q) p)) (map word (one t q)) f (e ∙ ap (λ n. at + 2 * n) (sym (length-map (pick (upto q) p) word)))
          (h ∙ ap (with_words a place) (ap (one t) v ∙ one_word t q)) ∙ ap (with_words out at) (sym (map-append word (pick (upto q) p) (one t q)) ∙ ap (map word) more),
    )
      where
        more : pick (upto q) p ++ one t q ≡ pick (upto (q + 1)) p
        more = ap (λ x. pick (upto q) p ++ one x q) g ∙ sym (pick_next q p)

        sizes : length (pick (upto (q + 1)) p) ≡ length (pick (upto q) p) + weigh t 1
        sizes = ap length (sym more) ∙ length-append (pick (upto q) p) (one t q) ∙ ap (λ n. length (pick (upto q) p) + n) (one_length t q)

    -- what fails is passed over
    pub skip_put : (k x : ℕ) {place : ℕ} {a : List ℕ} → k ≤ x → ((i : ℕ) → k ≤ i → i < x → T (p i) → ⊥) → Put k place a → Put x place a
    skip_put k x h n (e, f) =
        (e ∙ ap (λ l. at + 2 * length l) (pick_skip p k x h n), f ∙ ap (λ l. with_words out at (map word l)) (pick_skip p k x h n))

    pub put_room : (q : ℕ) {place : ℕ} {a : List ℕ} → Put q place a → place ≤ at + 2 * q
    put_room q (e, f) = omega (arith, e, pick_few q p)

    pub all_put : (q n : ℕ) {place : ℕ} {a : List ℕ} → q ≤ n → n ≤ q → Put q place a → Put n place a
    all_put q n {place} {a} h k w = subst (λ m. Put m place a) (le_antisymm h k) w
