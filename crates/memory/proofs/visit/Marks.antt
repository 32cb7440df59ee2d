-- A store to a mark changes no other field, so the memory's invariant stays; what is processed or written changes at that conclusion
-- alone. Assumes nothing.
use Prim.Native.Nat.{ℕ, ◌+◌, ◌*◌, ◌/◌, ◌%◌, ◌≤◌, ◌<◌}
use native.Mathlib.Nat.{div-add-mod}
use native.Mathlib.Omega.{arith}
use mathlib.Core.Path.{◌≡◌, sym, ◌∙◌, ap, ap₂, subst, fun_ext}
use mathlib.Core.Logic.{⊎_elim}
use mathlib.Core.Bool.{Bool, false, not}
use mathlib.Core.List.{List}
use lib.Dec.{T, eqb, eqb→eq, eqb_refl}
use lib.ListN.{length, set, length-set}
use Rattle.logic.specs.Tests.{◌or◌, isnt}
use Rattle.logic.specs.Theory.{Theory}
use Rattle.logic.proofs.Literals.{join_div, join_mod}
use Rattle.logic.proofs.Tests.{eq→eqb, isnt_intro, not_isnt, of_false, or_false, or_right, test_cases, true_of}
use Rattle.memory.specs.Layout.{tag_count, field_count, field_size, uses_size, memory_size}
use Rattle.memory.specs.Fields.{mark, has}
use Rattle.memory.specs.Memory.{view, held_of, written_of, antecedents, virtual, Invariant, Ready}
use Rattle.memory.specs.Api.{adds, Kept, Wrote}
use Rattle.memory.proofs.visit.Steps.{invariant_marks}
use Rattle.memory.proofs.Views.{rest_set, use_set, view_set, view_set_field, view_set_index}

-- the mark of a conclusion
abbrev pub mark_at : ℕ → ℕ
mark_at x = field_size * (x % tag_count) + x / tag_count

module _ (m : List ℕ) (x v : ℕ) (b : x < uses_size) (l : memory_size ≤ length m) where
  tag : x % tag_count < field_count
  tag = omega arith

  place : x / tag_count < field_size
  place = omega arith

  pub mark_here : view (set m (mark_at x) v) (x % tag_count) (x / tag_count) ≡ v
  mark_here = view_set m (x % tag_count) (x / tag_count) v tag place l

  pub mark_other : (y : ℕ) → (y ≡ x → ⊥) → view (set m (mark_at x) v) (y % tag_count) (y / tag_count) ≡ view m (y % tag_count) (y / tag_count)
  mark_other y o =
      ⊎_elim (λ t. view_set_index m (x % tag_count) (x / tag_count) v tag place (y % tag_count) (y / tag_count) (λ e. o (same_number (eqb→eq _ _ t) e)))
      (λ n. view_set_field m (x % tag_count) (x / tag_count) v tag place (y % tag_count) (y / tag_count) (λ e. n (eq→eqb _ _ e))) (test_cases (eqb (y % tag_count) (x % tag_count)))
    where
      same_number : y % tag_count ≡ x % tag_count → y / tag_count ≡ x / tag_count → y ≡ x
      same_number e f = omega (arith, div-add-mod x tag_count, div-add-mod y tag_count)

  pub mark_field : (f i : ℕ) → has 0 ≤ f → view (set m (mark_at x) v) f i ≡ view m f i
  mark_field f i h = view_set_field m (x % tag_count) (x / tag_count) v tag place f i (λ e. absurd (omega arith))

  pub mark_kept : Kept m (set m (mark_at x) v)
  mark_kept = record { size = length-set m (mark_at x) v; rest = rest_set m (x % tag_count) (x / tag_count) v tag place }

  pub mark_invariant : (d : Theory) → Invariant d m → Invariant d (set m (mark_at x) v)
  mark_invariant d s =
      invariant_marks d m (set m (mark_at x) v) mark_field (use_set m (x % tag_count) (x / tag_count) v tag place) mark_kept s

-- a conclusion is written that was not
module _ (d : Theory) (m : List ℕ) (x : ℕ) (b : x < uses_size) (r : Ready d m) (none : written_of m x ≡ false) where
  open_word : view m (x % tag_count) (x / tag_count) ≡ 0
  open_word = ⊎_elim (λ t. eqb→eq _ _ t) (λ n. absurd (of_false _ none (isnt_intro _ n))) (test_cases (eqb (view m (x % tag_count) (x / tag_count)) 0))

  same : (y : ℕ) → held_of (set m (mark_at x) 1) y ≡ held_of m y
  same y =
      ⊎_elim (λ t. subst (λ z. held_of (set m (mark_at x) 1) z ≡ held_of m z) (sym (eqb→eq y x t)) here) (λ n. ap (λ w. eqb w 2) (mark_other m x 1 b r.invariant.room y (λ e. n (eq→eqb y x e)))) (test_cases (eqb y x))
    where
      here : held_of (set m (mark_at x) 1) x ≡ held_of m x
      here = ap (λ w. eqb w 2) (mark_here m x 1 b r.invariant.room) ∙ ap (λ w. eqb w 2) (sym open_word)

  new : (y : ℕ) → written_of (set m (mark_at x) 1) y ≡ adds (written_of m) x y
  unfolding isnt ◌or◌
  new y =
      ⊎_elim (λ t. subst (λ z. written_of (set m (mark_at x) 1) z ≡ adds (written_of m) x z) (sym (eqb→eq y x t)) here)
      (λ n. ap (λ w. isnt (eqb w 0)) (mark_other m x 1 b r.invariant.room y (λ e. n (eq→eqb y x e))) ∙ sym (or_false _ _ n)) (test_cases (eqb y x))
    where
      here : written_of (set m (mark_at x) 1) x ≡ adds (written_of m) x x
      here = ap (λ w. isnt (eqb w 0)) (mark_here m x 1 b r.invariant.room) ∙ sym (true_of _ (or_right (written_of m x) _ (eqb_refl x)))

  pub wrote : Wrote d x m (set m (mark_at x) 1)
  wrote =
      record {
        ready = record {
          invariant = mark_invariant m x 1 b r.invariant.room d r.invariant;
          tagged = λ t c h k. mark_field m x 1 b r.invariant.room (has t) c (omega arith) ∙ r.tagged t c h k
              ∙ ap (λ p. virtual t + antecedents d p c) (fun_ext (λ a. sym (same (tag_count * a + t))));
        };
        same = same;
        written = new;
        kept = mark_kept m x 1 b r.invariant.room;
      }

  -- by the field and the index that the code has at hand
  pub wrote_at : {n : List ℕ} {i j : ℕ} → i ≡ x % tag_count → j ≡ x / tag_count → n ≡ set m (field_size * i + j) 1 → Wrote d x m n
  wrote_at e f g = subst (Wrote d x m) (sym (g ∙ ap₂ (λ y z. set m (field_size * y + z) 1) e f)) wrote

-- whether one of two marks is set
pub written_at : (m : List ℕ) (q t : ℕ) → t < tag_count → {w : ℕ} → w ≡ view m t q → not (eqb w 0) ≡ written_of m (tag_count * q + t)
written_at m q t l {w} e = not_isnt (eqb w 0) ∙ ap (λ z. isnt (eqb z 0)) (e ∙ sym (ap₂ (λ f i. view m f i) (join_mod tag_count q t l) (join_div tag_count q t l)))

pub either_written_at : (m : List ℕ) (q t : ℕ) → t < 3 → {v w : ℕ} {r : Bool} → v ≡ view m t q → w ≡ view m (t + 1) q → r ≡ (not (eqb v 0) or not (eqb w 0))
    → r ≡ (written_of m (tag_count * q + t) or written_of m (tag_count * q + (t + 1)))
either_written_at m q t l e f g = g ∙ ap₂ (λ x y. x or y) (written_at m q t (omega arith) e) (written_at m q (t + 1) (omega arith) f)

-- what is processed is written
pub held_written : (m : List ℕ) (x : ℕ) → T (held_of m x) → T (written_of m x)
held_written m x t =
    isnt_intro _ (λ u. let e : view m (mark (x % tag_count)) (x / tag_count) ≡ 2 = eqb→eq _ _ t in
    let f : view m (mark (x % tag_count)) (x / tag_count) ≡ 0 = eqb→eq _ _ u in absurd (omega arith))
