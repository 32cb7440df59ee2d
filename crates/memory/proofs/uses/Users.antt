-- Where the uses of a literal stand, and which rules they are of: the theory determines both. Assumes nothing.
use Prim.Native.Nat.{ℕ, zero, suc, ◌+◌, ◌-◌, ◌*◌, ◌≤◌, ◌<◌}
use native.Mathlib.Omega.{arith}
use mathlib.Core.Path.{◌≡◌, refl, sym, ◌∙◌, ap}
use mathlib.Core.List.{List}
use lib.Dec.{eqb, eqb→eq}
use lib.ListN.{length, get_or, length-map}
use Rattle.logic.specs.Tests.{total, upto}
use Rattle.logic.specs.Theory.{Theory}
use Rattle.logic.proofs.Tests.{cond_false}
use Rattle.logic.proofs.Lists.{get_d_map_upto, length_upto, member_get_d, member_pick, member_upto}
use Rattle.memory.specs.Layout.{uses_size}
use Rattle.memory.specs.Fields.{uses_f}
use Rattle.memory.specs.Memory.{view, use_at, users, uses_from, Indexed, Ready}
use Rattle.memory.specs.Api.{UsesAt}

module _ (d : Theory) (w : ℕ → ℕ → ℕ) (u : ℕ → ℕ) (x : Indexed d w u) where
  uses_count : (q : ℕ) → q < 2 * d.atoms → w uses_f q ≡ uses_from w q + length (users d q)
  uses_count q h =
      let e : w uses_f q - uses_from w q ≡ length (users d q) =
      sym (length_upto (w uses_f q - uses_from w q)) ∙ sym (length-map (upto (w uses_f q - uses_from w q)) (λ k. u (uses_from w q + k))) ∙ ap length (x.uses q h) in
      omega (arith, (x.within q h).0)

  uses_start : (q : ℕ) → q < 2 * d.atoms → uses_from w q ≡ total q (λ p. length (users d p))
  unfolding total
  uses_start zero h = refl
  uses_start (suc q) h =
      let a : suc q - 1 ≡ q = omega arith in
      cond_false (eqb (suc q) 0) 0 (w uses_f (suc q - 1)) (λ t. let e : suc q ≡ 0 = eqb→eq _ _ t in omega arith) ∙ ap (w uses_f) a
      ∙ uses_count q (omega arith) ∙ ap (λ z. z + length (users d q)) (uses_start q (omega arith))

  -- by the words, and by the theory
  module _ {q first end : ℕ} (h : q < 2 * d.atoms) where
    pub uses_read : first ≡ uses_from w q → end ≡ w uses_f q → UsesAt d q first end
    uses_read e f = record { begin = e ∙ uses_start q h; finish = omega (arith, uses_count q h) }

    module _ (a : UsesAt d q first end) where
      pub uses_begin : first ≡ uses_from w q
      uses_begin = a.begin ∙ sym (uses_start q h)

      pub uses_finish : end ≡ w uses_f q
      uses_finish = omega (arith, a.finish, uses_begin, uses_count q h)

      -- the k-th use
      module _ (k : ℕ) (l : first ≤ k) (m : k < end) where
        pub use_small : k < uses_size
        use_small = omega (arith, uses_finish, (x.within q h).1)

        pub use_is : u k ≡ get_or (users d q) (k - first) 0
        use_is =
            let e : k ≡ uses_from w q + (k - first) = omega (arith, uses_begin) in
            ap u e ∙ sym (get_d_map_upto (λ j. u (uses_from w q + j)) (w uses_f q - uses_from w q) (k - first) (omega (arith, uses_begin, uses_finish)))
            ∙ ap (λ z. get_or z (k - first) 0) (x.uses q h)

-- of a memory that is ready: there are few uses
pub uses_few : {d : Theory} {m : List ℕ} → Ready d m → {q first end : ℕ} → q < 2 * d.atoms → UsesAt d q first end → end ≤ uses_size
uses_few {d} {m} r {q} h a =
    let x = r.invariant.index in omega (arith, uses_finish d (view m) (use_at m) x h a, (x.within q h).1)

-- a rule that uses a literal is a rule
pub user_below : (d : Theory) (p i : ℕ) → i < length (users d p) → get_or (users d p) i 0 < d.rules
unfolding users
user_below d p i h = member_upto d.rules _ (member_pick (upto d.rules) _ _ (member_get_d (users d p) i h)).0
