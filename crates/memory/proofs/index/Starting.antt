-- The start of a run: cleared words, the rules' virtual antecedents, and a memory that is ready. Assumes nothing.
use Prim.Native.Nat.{ℕ, zero, suc, ◌+◌, ◌*◌, ◌/◌, ◌%◌, ◌≤◌, ◌<◌}
use native.Mathlib.Omega.{arith}
use native.Mathlib.Nat.{not-suc-le-zero, le_of_suc-le-suc}
use mathlib.Core.Path.{◌≡◌, refl, ◌∙◌, ap, subst}
use mathlib.Core.Logic.{⊎_elim}
use mathlib.Core.Bool.{Bool, false}
use mathlib.Core.List.{List, [], ◌∷◌, ◌++◌}
use lib.Dec.{eqb, ltb, ltb→lt}
use lib.ListN.{length, get_or, drop, replicate, length-append, length-drop, length-replicate}
use lib.Seq.{drop_at}
use Rattle.logic.specs.Tests.{◌and◌, isnt, pick}
use Rattle.logic.specs.Theory.{complement, body_of}
use Rattle.logic.proofs.Tests.{and_left, and_right, cond_false, lt_suc_cases, of_false, test_cases}
use Rattle.table.specs.declared.format.Sizes.{Sizes}
use Rattle.table.specs.Format.{theory_in}
use Rattle.memory.specs.Layout.{tag_count, field_count, field_size, memory_size}
use Rattle.memory.specs.Fields.{has}
use Rattle.memory.specs.Memory.{view, held_of, written_of, virtual}
use Rattle.memory.specs.Api.{Kept, Lacks, Visited, Prepared}
use Rattle.memory.specs.Indexing.{Low, Started}
use Rattle.memory.proofs.visit.Accepted.{Asks}
use Rattle.memory.proofs.Views.{kept_then, view_in}

-- words that were cleared
module _ (k : ℕ) (m : List ℕ) where
  cleared_at : (n j : ℕ) (l : List ℕ) → j < n → get_or (replicate n 0 ++ l) j 0 ≡ 0
  cleared_at zero j l h = absurd (not-suc-le-zero h)
  cleared_at (suc n) zero l h = refl
  cleared_at (suc n) (suc j) l h = cleared_at n j l (le_of_suc-le-suc h)

  cleared_length : k ≤ length m → length (replicate k 0 ++ drop k m) ≡ length m
  cleared_length h = omega (arith, length-append (replicate k 0) (drop k m), length-replicate {A = ℕ} k 0, length-drop k m)

  cleared_rest : drop k (replicate k 0 ++ drop k m) ≡ drop k m
  cleared_rest = drop_at (replicate k 0) (drop k m) k (length-replicate k 0)

view_none : (n : List ℕ) → ((j : ℕ) → j < memory_size → get_or n j 0 ≡ 0) → (f i : ℕ) → view n f i ≤ 0
unfolding view
view_none n z f i =
    ⊎_elim
    (λ t. let hf : f < field_count = ltb→lt f field_count (and_left _ _ t) in
    let hi : i < field_size = ltb→lt i field_size (and_right _ _ t) in omega (arith, view_in n f i hf hi, z (field_size * f + i) (omega arith)))
    (λ t. omega (arith, cond_false (ltb f field_count and ltb i field_size) (get_or n (field_size * f + i) 0) 0 t)) (test_cases (ltb f field_count and ltb i field_size))

module _ (k : ℕ) (big : k ≡ memory_size) (m n : List ℕ) (h : k ≤ length m) (e : n ≡ replicate k 0 ++ drop k m) where
  pub cleared_low : Low n 0
  cleared_low =
      record {
        room = omega (arith, ap length e, cleared_length k m h);
        low = view_none n (λ j l. ap (λ z. get_or z j 0) e ∙ cleared_at k m k j (drop k m) (omega arith));
      }

  pub cleared_kept : Kept m n
  cleared_kept = record { size = ap length e ∙ cleared_length k m h; rest = subst (λ z. drop z n ≡ drop z m) big (ap (drop k) e ∙ cleared_rest k m) }

-- a turn over the rules
module _ (b : List ℕ) (s : Sizes) where
  all_lacking : (t r : ℕ) {m n : List ℕ} → Started (theory_in b s) r m n → r < s.rules → t < tag_count → Lacks (view n) t r
  unfolding theory_in
  all_lacking t r k h l = omega (arith, k.left t r l (omega arith), k.left (complement t) r (omega arith) (omega arith), k.invariant.index.sizes r h)

  module _ (r : ℕ) {m n : List ℕ} (k : Started (theory_in b s) r m n) (h : r < s.rules) where
    pub first_asks : Asks b s n r 0
    first_asks = (k.invariant, h, omega arith, all_lacking 0 r k h (omega arith))

    pub second_asks : {o : List ℕ} → Visited (theory_in b s) 0 r n o → Asks b s o r 2
    second_asks v = (
      v.invariant,
      h,
      omega arith,
      omega (arith, all_lacking 2 r k h (omega arith), v.others 2 r (omega arith) (λ f _. absurd (omega arith)), v.others 3 r (omega arith) (λ f _. absurd (omega arith)), v.sizes r),
    )

  module _ (r : ℕ) {m n o p : List ℕ} (k : Started (theory_in b s) r m n) (v : Visited (theory_in b s) 0 r n o) (w : Visited (theory_in b s) 2 r o p) where
    elsewhere : (t i : ℕ) → t < tag_count → (i ≡ r → ⊥) → view p (has t) i ≡ view n (has t) i
    elsewhere t i h ne = w.others t i h (λ _ e. ne e) ∙ v.others t i h (λ _ e. ne e)

    here : (t : ℕ) → t < tag_count → view p (has t) r ≡ virtual t
    unfolding virtual
    here zero h = w.others 0 r h (λ e _. absurd (omega arith)) ∙ v.more ∙ omega (arith, k.left 0 r h (omega arith))
    here (suc zero) h =
        w.others 1 r h (λ e _. absurd (omega arith)) ∙ v.others 1 r h (λ e _. absurd (omega arith)) ∙ k.left 1 r h (omega arith)
    here (suc (suc zero)) h =
        w.more ∙ omega (arith, v.others 2 r h (λ e _. absurd (omega arith)), k.left 2 r h (omega arith))
    here (suc (suc (suc zero))) h =
        w.others 3 r h (λ e _. absurd (omega arith)) ∙ v.others 3 r h (λ e _. absurd (omega arith)) ∙ k.left 3 r h (omega arith)
    here (suc (suc (suc (suc t)))) h = absurd (omega arith)

    pub started_next : Started (theory_in b s) (r + 1) m p
    started_next =
        record {
          invariant = w.invariant;
          done = λ t i h l. ⊎_elim (λ u. elsewhere t i h (λ e. absurd (omega arith)) ∙ k.done t i h u) (λ e. ap (view p (has t)) e ∙ here t h) (lt_suc_cases i r (omega arith));
          left = λ t i h l. elsewhere t i h (λ e. absurd (omega arith)) ∙ k.left t i h (omega arith);
          marks = λ t i h. w.marks t i h ∙ v.marks t i h ∙ k.marks t i h;
          kept = kept_then k.kept (kept_then v.kept w.kept);
        }

-- nothing is processed
pick_none : (l : List ℕ) (p : ℕ → Bool) → ((x : ℕ) → p x ≡ false) → length (pick l p) ≡ 0
unfolding pick
pick_none [] p n = refl
pick_none (x ∷ l) p n = ap length (cond_false (p x) (x ∷ pick l p) (pick l p) (of_false _ (n x))) ∙ pick_none l p n

module _ (b : List ℕ) (s : Sizes) {m n : List ℕ} (k : Started (theory_in b s) s.rules m n) where
  none : (x : ℕ) → held_of n x ≡ false
  none x = ap (λ v. eqb v 2) (k.marks (x % tag_count) (x / tag_count) (omega arith))

  nothing : (x : ℕ) → written_of n x ≡ false
  unfolding isnt
  nothing x = ap (λ v. isnt (eqb v 0)) (k.marks (x % tag_count) (x / tag_count) (omega arith))

  pub prepared : {m' : List ℕ} → Kept m' m → Prepared (theory_in b s) m' n
  unfolding theory_in
  prepared j =
      record {
        ready =
            record {
              invariant = k.invariant;
              tagged = λ t r h l. k.done t r h l ∙ omega (arith, pick_none (body_of (theory_in b s) r) (λ a. held_of n (tag_count * a + t)) (λ a. none (tag_count * a + t)));
            };
        none = none;
        nothing = nothing;
        kept = kept_then j k.kept;
      }
