-- The initial conclusions, and what is tried after a conclusion. Assumes nothing.
use Prim.Native.Nat.{ℕ, zero, suc, ◌+◌, ◌*◌, ◌/◌, ◌%◌, ◌≤◌, ◌<◌}
use native.Mathlib.Nat.{lt_irrefl, mod-lt}
use native.Mathlib.Numerals.{add-one}
use native.Mathlib.Omega.{arith}
use mathlib.Core.Path.{◌≡◌, refl, sym, ◌∙◌, ap, ap₂, subst, fun_ext}
use mathlib.Core.Logic.{⊎_elim}
use mathlib.Core.Bool.{Bool, true, false, cond}
use mathlib.Core.List.{List, [], ◌∷◌, ◌++◌, append_assoc, append-nil}
use borrow.Author.Tests.{lt-ltb, le-ltb}
use lib.Dec.{T, ltb}
use lib.ListN.{length, take}
use Rattle.logic.specs.Tests.{◌and◌, isnt, some_of, member, distinct, upto, pick}
use Rattle.logic.specs.Theory.{Theory, complement}
use Rattle.logic.specs.System.{System, held, derives_from}
use Rattle.logic.specs.Worklist.{put, grow}
use Rattle.logic.specs.Reading.{system_of, family_of, heads, visited, candidates, with_tags}
use Rattle.logic.specs.Plain.{plain_system}
use Rattle.logic.proofs.Tests.{at_most, isnt_intro, true_of}
use Rattle.logic.proofs.Lists.{member_pick, member_upto, pick_append}
use Rattle.logic.proofs.Runs.{grow_append}
use Rattle.memory.specs.Layout.{tag_count}
use Rattle.memory.specs.Memory.{held_of}
use Rattle.memory.specs.Api.{adds, Added, Prepared}
use Rattle.engine.specs.Working.{Blank, Logged, Tried, Opened, Processed, family_if}
use Rattle.engine.proofs.run.Trying.{grown_after, tried_literals, tried_none, tried_same, with_tags_append}

-- every conclusion below 4 m, by literal, then tag
with_tags_upto : (m : ℕ) → with_tags tag_count (upto m) ≡ upto (tag_count * m)
unfolding with_tags upto
with_tags_upto zero = refl
with_tags_upto (suc m) =
    let e : suc (suc (suc (suc (tag_count * m)))) ≡ tag_count * suc m = omega arith in
    let e0 : tag_count * m + 0 ≡ tag_count * m = omega arith in
    let e1 : tag_count * m + 1 ≡ suc (tag_count * m) = omega arith in
    let e2 : tag_count * m + 2 ≡ suc (suc (tag_count * m)) = omega arith in
    let e3 : tag_count * m + 3 ≡ suc (suc (suc (tag_count * m))) = omega arith in
    with_tags_append 4 (upto m) (m ∷ []) ∙ ap (λ (k : List ℕ). k ++ with_tags tag_count (m ∷ [])) (with_tags_upto m)
    ∙ ap₂ (λ a b. upto (tag_count * m) ++ (a ∷ b ∷ (tag_count * m + 2) ∷ (tag_count * m + 3) ∷ [])) e0 e1
    ∙ ap₂ (λ a b. upto (tag_count * m) ++ ((tag_count * m) ∷ suc (tag_count * m) ∷ a ∷ b ∷ [])) e2 e3
    ∙ (simp append_assoc)
    ∙ ap upto e

put_pick : (b : Bool) (l : List ℕ) (x : ℕ) → (T (member x l) → ⊥) → put (b and isnt (member x l)) l x ≡ l ++ cond b (x ∷ []) []
unfolding put ◌and◌
put_pick true l x n = ap (λ t. put t l x) (true_of (isnt (member x l)) (isnt_intro (member x l) n))
put_pick false l x n = sym (append-nil l)

-- of numbers that rise, none is written already
grow_pick : (s : System) (h : ℕ → Bool) (n : ℕ) → grow s h [] [] (upto n) ≡ pick (upto n) (s.infers h)
unfolding grow upto pick
grow_pick s h zero = refl
grow_pick s h (suc n) =
    grow_append s h [] [] (upto n) (n ∷ []) ∙ ap (λ k. grow s h [] k (n ∷ [])) (grow_pick s h n)
    ∙ put_pick (s.infers h n) (pick (upto n) (s.infers h)) n (λ m. lt_irrefl n (member_upto n n (member_pick (upto n) _ n m).0))
    ∙ sym (pick_append (upto n) (n ∷ []) (s.infers h))

module _ (d : Theory) (mem₀ log₀ : List ℕ) (k : Blank d mem₀) where
  no_lines : tag_count * d.atoms ≤ length log₀ → Logged d mem₀ log₀ 0
  unfolding some_of derives_from distinct
  no_lines h = record { ready = k.ready; written = k.nothing; derives = tt; once = tt; inside = omega arith; room = h }

  pub opening_start : {n : ℕ} → n ≡ 0 → Logged d mem₀ log₀ n → Tried d (with_tags tag_count (upto 0)) mem₀ log₀ 0 mem₀ log₀ n
  unfolding with_tags upto
  opening_start e g = subst (Tried d [] mem₀ log₀ 0 mem₀ log₀) (sym e) (tried_none d mem₀ log₀ 0 (subst (Logged d mem₀ log₀) e g))

  pub opening_next : {mem log mem' log' : List ℕ} {n n' : ℕ} (q : ℕ) → Tried d (with_tags tag_count (upto q)) mem₀ log₀ 0 mem log n
      → Tried d (with_tags tag_count (q ∷ [])) mem log n mem' log' n' → Tried d (with_tags tag_count (upto (q + 1))) mem₀ log₀ 0 mem' log' n'
  unfolding upto
  opening_next q f g = tried_same (ap (λ k. with_tags tag_count (upto k)) (sym (add-one q))) (tried_literals (upto q) (q ∷ []) f g)

  pub opening_end : {mem log : List ℕ} {n : ℕ} (q : ℕ) → q ≡ 2 * d.atoms → Tried d (with_tags tag_count (upto q)) mem₀ log₀ 0 mem log n → Opened d mem₀ log₀ mem log n
  unfolding system_of some_of
  opening_end q e f =
      record {
        logged = f.logged;
        lines =
            f.lines ∙ ap (λ h. grow (plain_system d) h [] [] (with_tags tag_count (upto q))) (fun_ext k.none)
            ∙ ap (grow (plain_system d) (held []) [] []) (with_tags_upto q ∙ ap (λ z. upto (tag_count * z)) e) ∙ grow_pick (plain_system d) (held []) (tag_count * (2 * d.atoms));
        grown = f.grown;
        held = f.held;
      }

-- the lines of a memory that was prepared
pub prepared_lines : {d : Theory} {m₀ m l : List ℕ} → Prepared d m₀ m → tag_count * d.atoms ≤ length l → Logged d m l 0
prepared_lines {d} {m = m} {l} p = no_lines d m l (record { ready = p.ready; none = p.none; nothing = p.nothing })

-- the family of a tag
family_of_lem : (t : ℕ) → t < tag_count → family_if (ltb t 2) ≡ family_of t
family_of_lem t h =
    ⊎_elim (λ k. ap family_if (le-ltb t 2 k) ∙ (let e : 1 ≡ t / 2 = omega arith in e)) (λ k. ap family_if (lt-ltb t 2 k) ∙ (let e : 0 ≡ t / 2 = omega arith in e)) (at_most 2 t)

pub processed : {d : Theory} {m m₁ l m₂ l₂ m₃ l₃ : List ℕ} {n n₂ n₃ : ℕ} (x : ℕ) → Added d x m m₁ → Tried d (with_tags tag_count ((x / tag_count) ∷ complement (x / tag_count) ∷ [])) m₁ l n m₂ l₂ n₂
    → Tried d (with_tags tag_count (heads d (visited d (family_if (ltb (x % tag_count) 2)) (x / tag_count)))) m₂ l₂ n₂ m₃ l₃ n₃ → Processed d x m l n m₃ l₃ n₃
unfolding system_of
processed {d} {m} {m₁} {l} {m₂} {l₂} {m₃} {l₃} {n} {n₂} {n₃} x a f g =
    let t : Tried d (with_tags tag_count (candidates d (family_if (ltb (x % tag_count) 2)) (x / tag_count))) m₁ l n m₃ l₃ n₃ = tried_literals ((x / tag_count) ∷ complement (x / tag_count) ∷ []) (heads d (visited d (family_if (ltb (x % tag_count) 2)) (x / tag_count))) f g in
    record {
      logged = t.logged;
      lines =
          t.lines ∙ ap (λ h. grow (plain_system d) h [] (take n l) (with_tags tag_count (candidates d (family_if (ltb (x % tag_count) 2)) (x / tag_count)))) (fun_ext a.held)
          ∙ ap (λ j. grow (plain_system d) (adds (held_of m) x) [] (take n l) (with_tags tag_count (candidates d j (x / tag_count)))) (family_of_lem (x % tag_count) (mod-lt x (omega arith)));
      grown = grown_after a.kept t.grown;
      held = λ y. t.held y ∙ a.held y;
    }
