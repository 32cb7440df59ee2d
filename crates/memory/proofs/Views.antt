-- Laws of the memory's words: one store changes one word of one field, or one use. Assumes nothing.
use Prim.Native.Nat.{ℕ, ◌+◌, ◌*◌, ◌≤◌, ◌<◌}
use native.Mathlib.Omega.{arith}
use mathlib.Core.Path.{◌≡◌, refl, sym, ◌∙◌, ap}
use mathlib.Core.Logic.{◌⊎◌, ⊎_elim}
use mathlib.Core.Bool.{cond}
use mathlib.Core.List.{List}
use lib.Dec.{T, leb→le, ltb, ltb→lt, lt→ltb}
use lib.ListN.{length, get_or, set, drop}
use lib.Seq.{get_or-set_same, get_or-set_other, drop-set-lt}
use Rattle.logic.specs.Tests.{◌and◌}
use Rattle.logic.proofs.Tests.{and_intro, and_left, and_right, cond_false, cond_true, or_elim, test_cases}
use Rattle.memory.specs.Layout.{field_count, field_size, uses_base, uses_size, memory_size}
use Rattle.memory.specs.Fields.{size_f, beaten_f, uses_f, proved_f, rivals_end, in_index}
use Rattle.memory.specs.Memory.{view, use_at}
use Rattle.memory.specs.Api.{Kept}

pub view_in : (m : List ℕ) (f i : ℕ) → f < field_count → i < field_size → view m f i ≡ get_or m (field_size * f + i) 0
unfolding view
view_in m f i h k = cond_true (ltb f field_count and ltb i field_size) _ _ (and_intro _ _ (lt→ltb f field_count h) (lt→ltb i field_size k))

pub use_in : (m : List ℕ) (k : ℕ) → k < uses_size → use_at m k ≡ get_or m (uses_base + k) 0
unfolding use_at
use_in m k h = cond_true (ltb k uses_size) _ _ (lt→ltb k uses_size h)

-- two memories that agree at a word agree in the view of it
pub view_same : (m n : List ℕ) (f i : ℕ) → (f < field_count → i < field_size → get_or n (field_size * f + i) 0 ≡ get_or m (field_size * f + i) 0) → view n f i ≡ view m f i
unfolding view
view_same m n f i e =
    ⊎_elim (λ t. ap (λ x. cond (ltb f field_count and ltb i field_size) x 0) (e (ltb→lt f field_count (and_left _ _ t)) (ltb→lt i field_size (and_right _ _ t))))
    (λ t. cond_false (ltb f field_count and ltb i field_size) _ _ t ∙ sym (cond_false (ltb f field_count and ltb i field_size) _ _ t)) (test_cases (ltb f field_count and ltb i field_size))

pub use_same : (m n : List ℕ) (k : ℕ) → (k < uses_size → get_or n (uses_base + k) 0 ≡ get_or m (uses_base + k) 0) → use_at n k ≡ use_at m k
unfolding use_at
use_same m n k e =
    ⊎_elim (λ t. ap (λ x. cond (ltb k uses_size) x 0) (e (ltb→lt k uses_size t))) (λ t. cond_false (ltb k uses_size) _ _ t ∙ sym (cond_false (ltb k uses_size) _ _ t))
    (test_cases (ltb k uses_size))

module _ (m : List ℕ) (f i v : ℕ) (hf : f < field_count) (hi : i < field_size) where
  pub view_set : memory_size ≤ length m → view (set m (field_size * f + i) v) f i ≡ v
  view_set l = view_in (set m (field_size * f + i) v) f i hf hi ∙ get_or-set_same m (field_size * f + i) v 0 (omega arith)

  pub view_set_index : (g j : ℕ) → (j ≡ i → ⊥) → view (set m (field_size * f + i) v) g j ≡ view m g j
  view_set_index g j n = view_same m (set m (field_size * f + i) v) g j (λ hg hj. get_or-set_other m (field_size * f + i) (field_size * g + j) v 0 (λ e. n (omega arith)))

  pub view_set_field : (g j : ℕ) → (g ≡ f → ⊥) → view (set m (field_size * f + i) v) g j ≡ view m g j
  view_set_field g j n = view_same m (set m (field_size * f + i) v) g j (λ hg hj. get_or-set_other m (field_size * f + i) (field_size * g + j) v 0 (λ e. n (omega arith)))

  pub use_set : (k : ℕ) → use_at (set m (field_size * f + i) v) k ≡ use_at m k
  use_set k = use_same m (set m (field_size * f + i) v) k (λ h. get_or-set_other m (field_size * f + i) (uses_base + k) v 0 (λ e. absurd (omega arith)))

  pub rest_set : drop memory_size (set m (field_size * f + i) v) ≡ drop memory_size m
  rest_set = drop-set-lt memory_size m (field_size * f + i) v (omega arith)

module _ (m : List ℕ) (k v : ℕ) (h : k < uses_size) where
  pub use_store : memory_size ≤ length m → use_at (set m (uses_base + k) v) k ≡ v
  use_store l = use_in (set m (uses_base + k) v) k h ∙ get_or-set_same m (uses_base + k) v 0 (omega arith)

  pub use_store_other : (j : ℕ) → (j ≡ k → ⊥) → use_at (set m (uses_base + k) v) j ≡ use_at m j
  use_store_other j n = use_same m (set m (uses_base + k) v) j (λ l. get_or-set_other m (uses_base + k) (uses_base + j) v 0 (λ e. n (omega arith)))

  pub view_store : (f i : ℕ) → view (set m (uses_base + k) v) f i ≡ view m f i
  view_store f i = view_same m (set m (uses_base + k) v) f i (λ hf hi. get_or-set_other m (uses_base + k) (field_size * f + i) v 0 (λ e. absurd (omega arith)))

  pub rest_store : drop memory_size (set m (uses_base + k) v) ≡ drop memory_size m
  rest_store = drop-set-lt memory_size m (uses_base + k) v (omega arith)

-- the words past the memory stay over two steps
pub kept_none : (m : List ℕ) → Kept m m
kept_none m = record { size = refl; rest = refl }

pub kept_then : {m n o : List ℕ} → Kept m n → Kept n o → Kept m o
kept_then j k = record { size = k.size ∙ j.size; rest = k.rest ∙ j.rest }

-- the fields of marks and of counts are no part of it
pub below_index : (f : ℕ) → f < size_f → T (in_index f) → ⊥
unfolding in_index
below_index f h t =
    ⊎_elim (λ u. let l : size_f ≤ f = leb→le size_f f (and_left _ _ u) in omega arith) (λ u. let l : uses_f ≤ f = leb→le uses_f f (and_left _ _ u) in omega arith) (or_elim _ _ t)

pub past_rule : (f : ℕ) → beaten_f ≤ f → (f < rivals_end) ⊎ (proved_f ≤ f) → T (in_index f) → ⊥
unfolding in_index
past_rule f h c t =
    ⊎_elim (λ u. let l : f < beaten_f = ltb→lt f beaten_f (and_right _ _ u) in omega arith)
    (λ u. let l : uses_f ≤ f = leb→le uses_f f (and_left _ _ u) in let k : f < proved_f = ltb→lt f proved_f (and_right _ _ u) in ⊎_elim (λ e. omega arith) (λ e. omega arith) c) (or_elim _ _ t)
