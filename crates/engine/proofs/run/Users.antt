-- The rules that a conclusion visits, by the memory's uses of its literal. Assumes nothing.
use Prim.Native.Nat.{ℕ, suc, ◌+◌, ◌-◌, ◌*◌, ◌≤◌, ◌<◌}
use native.Mathlib.Nat.{le_refl}
use native.Mathlib.Omega.{arith}
use mathlib.Core.Path.{◌≡◌, refl, sym, ◌∙◌, ap, ap₂, subst}
use mathlib.Core.Bool.{Bool, true, false, cond}
use mathlib.Core.List.{List, [], ◌∷◌, ◌++◌}
use lib.Dec.{eqb}
use lib.ListN.{length, get_or, take}
use lib.Seq.{take-suc, take_all}
use Rattle.logic.specs.Tests.{◌and◌, ◌or◌, isnt, upto, pick}
use Rattle.logic.specs.Theory.{Theory, complement, is_strict, kind_of, head_of}
use Rattle.logic.specs.Reading.{visits, visited, heads, with_tags}
use Rattle.logic.proofs.Lists.{pick_append}
use Rattle.logic.proofs.Theories.{heads_below}
use Rattle.table.specs.declared.accepted.Table.{Table}
use Rattle.table.specs.Tables.{theory_said}
use Rattle.memory.specs.Layout.{tag_count}
use Rattle.memory.specs.Memory.{users}
use Rattle.memory.specs.Api.{UsesAt}
use Rattle.engine.specs.Working.{Logged, Tried, family_if, heads_if}
use Rattle.engine.proofs.run.Trying.{atoms_in, proper_in, rules_in, tried_literals, tried_none, tried_same}
use Rattle.memory.proofs.uses.Users.{user_below}

pick_pick : (l : List ℕ) (a b : ℕ → Bool) → pick (pick l a) b ≡ pick l (λ x. a x and b x)
unfolding pick ◌and◌
pick_pick [] a b = refl
pick_pick (x ∷ l) a b = go (a x) (b x) (pick_pick l a b) refl
  where
    go : (s t : Bool) → pick (pick l a) b ≡ pick l (λ y. a y and b y) → b x ≡ t
        → pick (cond s (x ∷ pick l a) (pick l a)) b ≡ cond (s and t) (x ∷ pick l (λ y. a y and b y)) (pick l (λ y. a y and b y))
    go true t e f = ap₂ (λ c (k : List ℕ). cond c (x ∷ k) k) f e
    go false t e f = e

heads_append : (d : Theory) (rs ts : List ℕ) → heads d (rs ++ ts) ≡ heads d rs ++ heads d ts
unfolding heads
heads_append d [] ts = refl
heads_append d (r ∷ rs) ts = ap (λ (k : List ℕ). head_of d r ∷ complement (head_of d r) ∷ k) (heads_append d rs ts)

heads_if_append : (d : Theory) (b : Bool) (rs ts : List ℕ) → heads_if d b (rs ++ ts) ≡ heads_if d b rs ++ heads_if d b ts
heads_if_append d b rs ts = ap (heads d) (pick_append rs ts _) ∙ heads_append d (pick rs _) (pick ts _)

-- those of them that a conclusion visits
heads_visited : (d : Theory) (b : Bool) (p : ℕ) → heads_if d b (users d p) ≡ heads d (visited d (family_if b) p)
unfolding users visits
heads_visited d b p = ap (heads d) (pick_pick (upto d.rules) _ _)

-- One rule that uses the literal.
module _ (d : Theory) (b : Bool) (r : ℕ) (v strict : Bool) (fv : v ≡ (isnt (eqb (family_if b) 0) or strict)) (fs : strict ≡ is_strict (kind_of d r)) where
  test_of : (isnt (eqb (family_if b) 0) or is_strict (kind_of d r)) ≡ v
  test_of = sym (fv ∙ ap (λ z. isnt (eqb (family_if b) 0) or z) fs)

  pub rule_skipped : v ≡ false → (m l : List ℕ) (n : ℕ) → Logged d m l n → Tried d (with_tags tag_count (heads_if d b (r ∷ []))) m l n m l n
  unfolding with_tags heads pick
  rule_skipped h m l n g = tried_same (ap (λ z. with_tags tag_count (heads d (cond z (r ∷ []) []))) (sym (test_of ∙ h))) (tried_none d m l n g)

  pub rule_visited : v ≡ true → {m l m' l' : List ℕ} {n n' : ℕ} (q : ℕ) → q ≡ head_of d r → Tried d (with_tags tag_count (q ∷ complement q ∷ [])) m l n m' l' n'
      → Tried d (with_tags tag_count (heads_if d b (r ∷ []))) m l n m' l' n'
  unfolding heads pick
  rule_visited h q e f =
      tried_same (ap (λ z. with_tags tag_count (z ∷ complement z ∷ [])) e ∙ ap (λ z. with_tags tag_count (heads d (cond z (r ∷ []) []))) (sym (test_of ∙ h))) f

pub head_small : (table : Table) (r q : ℕ) → r < table.sizes.rules → q ≡ head_of (theory_said table) r → q < 2 * table.sizes.atoms
head_small table r q h f =
    let k : head_of (theory_said table) r < 2 * (theory_said table).atoms = heads_below (theory_said table) (proper_in table) r (omega (arith, rules_in table)) in
    omega (arith, atoms_in table)

-- The loop over the uses: those before k were tried.
pub record Using (d : Theory) (b : Bool) (p : ℕ) (mem₀ log₀ : List ℕ) (n₀ first : ℕ) (mem log : List ℕ) (n k : ℕ) : Type 0 where
  pub from : first ≤ k
  pub to : k ≤ first + length (users d p)
  pub tried : Tried d (with_tags tag_count (heads_if d b (take (k - first) (users d p)))) mem₀ log₀ n₀ mem log n

module _ {d : Theory} {b : Bool} {p : ℕ} {mem₀ log₀ : List ℕ} {n₀ first end : ℕ} (at : UsesAt d p first end) where
  pub using_start : Logged d mem₀ log₀ n₀ → Using d b p mem₀ log₀ n₀ first mem₀ log₀ n₀ first
  unfolding with_tags heads pick
  using_start g =
      record {
        from = le_refl first;
        to = omega arith;
        tried = tried_same (ap (λ i. with_tags tag_count (heads_if d b (take i (users d p)))) (let z : 0 ≡ first - first = omega arith in z)) (tried_none d mem₀ log₀ n₀ g);
      }

  module _ {mem log : List ℕ} {n k : ℕ} (g : Using d b p mem₀ log₀ n₀ first mem log n k) (more : k < end) where
    inside : k - first < length (users d p)
    inside = omega (arith, at.finish, g.from)

    pub use_below : {r : ℕ} → r ≡ get_or (users d p) (k - first) 0 → r < d.rules
    use_below f = subst (λ z. z < d.rules) (sym f) (user_below d p (k - first) inside)

    pub using_next : {r : ℕ} → r ≡ get_or (users d p) (k - first) 0 → {mem' log' : List ℕ} {n' : ℕ} → Tried d (with_tags tag_count (heads_if d b (r ∷ []))) mem log n mem' log' n'
        → Using d b p mem₀ log₀ n₀ first mem' log' n' (k + 1)
    using_next {r} f t =
        record {
          from = omega (arith, g.from);
          to = omega (arith, at.finish);
          tried = tried_same (ap (with_tags tag_count) (sym (heads_if_append d b (take (k - first) (users d p)) (r ∷ [])) ∙ ap (heads_if d b) grown))
              (tried_literals (heads_if d b (take (k - first) (users d p))) (heads_if d b (r ∷ [])) g.tried t);
        }
      where
        grown : take (k - first) (users d p) ++ (r ∷ []) ≡ take (k + 1 - first) (users d p)
        grown =
            let i : suc (k - first) ≡ k + 1 - first = omega (arith, g.from) in
            ap (λ z. take (k - first) (users d p) ++ (z ∷ [])) f ∙ sym (take-suc (users d p) (k - first) 0 inside) ∙ ap (λ z. take z (users d p)) i

  pub using_end : {mem log : List ℕ} {n k : ℕ} → Using d b p mem₀ log₀ n₀ first mem log n k → end ≤ k
      → Tried d (with_tags tag_count (heads d (visited d (family_if b) p))) mem₀ log₀ n₀ mem log n
  using_end {k = k} g h =
      tried_same
      (ap (λ (z : List ℕ). with_tags tag_count (heads_if d b z)) (take_all (k - first) (users d p) (omega (arith, at.finish))) ∙ ap (with_tags tag_count) (heads_visited d b p)) g.tried
