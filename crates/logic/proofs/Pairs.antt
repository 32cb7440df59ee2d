-- Pairs whose heads are not complementary: with and without them a theory corresponds to itself, and so it has the same derivations. Assumes nothing.
use Prim.Native.Nat.{ℕ, ◌+◌, ◌-◌, ◌≤◌, ◌<◌}
use native.Mathlib.Omega.{arith}
use mathlib.Core.Path.{◌≡◌, sym, ◌∙◌, ap, subst}
use mathlib.Core.Logic.{◌↔◌, ⊎_elim}
use mathlib.Core.Bool.{Bool, true}
use mathlib.Core.List.{List}
use lib.Arith.{lt_of_le-ne}
use lib.Dec.{T, ltb, eqb, eqb→eq, ltb→lt, lt→ltb}
use Rattle.logic.specs.Tests.{◌and◌}
use Rattle.logic.specs.Theory.{Theory, Pair, complement, head_of, superior}
use Rattle.logic.specs.System.{derivation, Derivable}
use Rattle.logic.specs.Reading.{Reading, system_of, searches_of}
use Rattle.logic.specs.Plain.{plain, plain_system, no_searches}
use Rattle.logic.specs.Pairs.{complementary_heads, with_pairs, without_pair}
use Rattle.logic.specs.Correspondence.{Corresponds}
use Rattle.logic.specs.Laws.{Rules}
use Rattle.logic.proofs.Tests.{every_of_intro, test_eq, cond_cases, cond_true, cond_false, at_most, and_left, and_right, eq→eqb, some_intro, some_elim}
use Rattle.logic.proofs.Lists.{pick_all}
use Rattle.logic.proofs.Literals.{complement_complement}
use Rattle.logic.proofs.Correspondence.{itself, corresponds_pairs, corresponds_turn}
use Rattle.logic.proofs.Carrying.{derivation_cut, system_carries}
use Rattle.logic.proofs.Plain.{plain_rules}

-- superiority agrees on rules with complementary heads
abbrev Agrees : (d : Theory) → ℕ → (ℕ → Pair) → Type 0
Agrees d n p = (t s : ℕ) → T (complementary_heads d t s) → superior d t s ≡ superior (with_pairs d n p) t s

-- of two rules each head is the complement of the other
opposed_heads : (d : Theory) (t s : ℕ) → head_of d s ≡ complement (head_of d t) → T (complementary_heads d t s)
opposed_heads d t s e = eq→eqb _ _ (sym (complement_complement (head_of d t)) ∙ ap complement (sym e))

-- theories that correspond within all literals have the same derivations, in every reading
all_derivations : (m : Reading) → Rules m → {d k : Theory} {like : ℕ → ℕ → Bool} → Corresponds d k (λ _. true) like
    → (l : List ℕ) → T (derivation (system_of m d) (searches_of m d) l) → T (derivation (system_of m k) (searches_of m k) l)
all_derivations m r {d} {k} c l t =
    subst (λ a. T (derivation (system_of m k) (searches_of m k) a)) (pick_all l (λ _. true) (every_of_intro l (λ _. true) (λ _ _. tt))) (derivation_cut (system_carries m r c) l t)

-- superiority without the i-th pair, whose heads are not complementary
module _ (d : Theory) (i : ℕ) (b : i < d.pairs) (f : T (complementary_heads d (d.pair i).stronger (d.pair i).weaker) → ⊥) where
  other_place : (t s j : ℕ) → T (complementary_heads d t s) → T (eqb (d.pair j).stronger t and eqb (d.pair j).weaker s) → j ≡ i → ⊥
  other_place t s j c u e =
      f (subst (λ k. T (complementary_heads d (d.pair k).stronger (d.pair k).weaker)) e
      (subst (λ x. T (complementary_heads d x (d.pair j).weaker)) (sym (eqb→eq _ _ (and_left _ _ u)))
      (subst (λ x. T (complementary_heads d t x)) (sym (eqb→eq _ _ (and_right _ _ u))) c)))

  -- where a pair that is not the i-th stands without it
  pub agrees : Agrees d (d.pairs - 1) (without_pair d i).pair
  unfolding superior
  agrees t s c = test_eq _ _ forth back
    where
      At : Pair → Bool
      At p = eqb p.stronger t and eqb p.weaker s

      forth : T (superior d t s) → T (superior (without_pair d i) t s)
      forth u =
          let (j, h, v) = some_elim _ _ u in
          ⊎_elim
          (λ (l : i ≤ j). let m : i < j = lt_of_le-ne l (λ e. other_place t s j c v (sym e)) in
          let k : j - 1 + 1 ≡ j = omega arith in
          some_intro _ _ (j - 1) (omega arith)
          (subst (λ p. T (At p)) (sym (cond_false (ltb (j - 1) i) _ _ (λ w. absurd (omega (arith, ltb→lt (j - 1) i w))))) (subst (λ m. T (At (d.pair m))) (sym k) v)))
          (λ (l : j < i). some_intro _ _ j (omega arith) (subst (λ p. T (At p)) (sym (cond_true (ltb j i) _ _ (lt→ltb j i l))) v))
          (at_most i j)

      back : T (superior (without_pair d i) t s) → T (superior d t s)
      back u =
          let (j, h, v) = some_elim _ _ u in
          cond_cases (λ p. T (At p) → T (superior d t s)) (ltb j i) (d.pair j) (d.pair (j + 1))
          (λ _ w. some_intro _ _ j (omega arith) w) (λ _ w. some_intro _ _ (j + 1) (omega arith) w) v

  -- so the theory corresponds to what it is without the pair
  pub pair_corresponds : Corresponds d (without_pair d i) (λ _. true) (itself d)
  pair_corresponds = corresponds_pairs d _ _ (λ t s e. agrees t s (opposed_heads d t s e))

  -- Such a pair can be taken away or put in, and the derivations are the same, in every reading, and so what is derivable. (The cost is not: row
  -- 13 of specs/Cases.antt is row 9 without its pair.)
  pub same_derivations : (m : Reading) → Rules m → (l : List ℕ) → T (derivation (system_of m d) (searches_of m d) l) ↔ T (derivation (system_of m (without_pair d i)) (searches_of m (without_pair d i)) l)
  same_derivations m r l = (all_derivations m r pair_corresponds l, all_derivations m r (corresponds_turn pair_corresponds) l)

  -- in the plain reading
  pub pair_same_derivations : (l : List ℕ) → T (derivation (plain_system d) (no_searches d) l) ↔ T (derivation (plain_system (without_pair d i)) (no_searches (without_pair d i)) l)
  pair_same_derivations = same_derivations plain plain_rules

  -- and so what is derivable in it
  pub pair_without_effect : (x : ℕ) → Derivable (plain_system d) (no_searches d) x ↔ Derivable (plain_system (without_pair d i)) (no_searches (without_pair d i)) x
  pair_without_effect x =
      (λ (l, t, m). (l, (pair_same_derivations l).0 t, m), λ (l, t, m). (l, (pair_same_derivations l).1 t, m))
