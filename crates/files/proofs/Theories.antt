-- What the theory of a content says, by the places of its facts, entries and pairs. Assumes nothing.
use Prim.Native.Nat.{ℕ, ◌*◌, ◌<◌}
use mathlib.Core.Path.{◌≡◌, refl, sym, subst}
use mathlib.Core.Logic.{◌↔◌}
use lib.Dec.{T, eqb→eq, ltb→lt}
use lib.ListN.{length}
use Rattle.logic.specs.Tests.{member, upto}
use Rattle.logic.specs.Theory.{body_of, is_fact, superior}
use Rattle.logic.proofs.Tests.{eq→eqb, and_intro, and_left, and_right, every_elim, some_intro, some_elim, every_of_elim}
use Rattle.logic.proofs.Lists.{member_map, member_map_intro, member_pick, member_pick_intro, member_upto, member_upto_intro}
use Rattle.logic.proofs.Theories.{heads_below}
use Rattle.table.specs.declared.edition.Edition.{Edition}
use Rattle.files.specs.Contents.{Content, fact_of, rule_of, entry_of, pair_of, theory_from}
use Rattle.files.proofs.Proper.{Proper}

module _ (c : Content) where
  -- a fact stands at a place
  pub fact_place : (q : ℕ) → T (is_fact (theory_from c) q) ↔ ((i : ℕ) × (i < length c.facts) × (fact_of c i ≡ q))
  unfolding theory_from
  fact_place q = (
    λ t. let (i, h, u) = some_elim _ _ t in (i, h, eqb→eq _ _ u),
    λ t. some_intro _ _ t.0 t.1 (eq→eqb _ _ t.2),
  )

  -- an antecedent of a rule is the literal of one of its entries
  pub body_place : (r q : ℕ) → T (member q (body_of (theory_from c) r))
      ↔ ((i : ℕ) × (i < length c.entries) × ((entry_of c i).rule ≡ r) × ((entry_of c i).literal.0 ≡ q))
  unfolding theory_from
  body_place r q = (
    λ t. let (i, u, e) = member_map (λ z. (entry_of c z).literal.0) _ q t in
        let (v, w) = member_pick (upto (length c.entries)) _ i u in
        (i, member_upto _ i v, eqb→eq _ _ w, sym e),
    λ t. let (i, h, e, f) = t in
        subst (λ z. T (member z (body_of (theory_from c) r))) f
        (member_map_intro (λ z. (entry_of c z).literal.0) _ i (member_pick_intro (upto (length c.entries)) _ i (member_upto_intro _ i h) (eq→eqb _ _ e))),
  )

  -- a rule is over another by one of the pairs
  pub superior_place : (t s : ℕ) → T (superior (theory_from c) t s) ↔ ((i : ℕ) × (i < length c.pairs) × ((pair_of c i).stronger ≡ t) × ((pair_of c i).weaker ≡ s))
  unfolding superior theory_from
  superior_place t s = (
    λ u. let (i, h, v) = some_elim _ _ u in (i, h, eqb→eq _ _ (and_left _ _ v), eqb→eq _ _ (and_right _ _ v)),
    λ u. let (i, h, e, f) = u in some_intro _ _ i h (and_intro _ _ (eq→eqb _ _ e) (eq→eqb _ _ f)),
  )

-- what is listed in a proper content is of its atoms and rules
module _ (e : Edition) (c : Content) (p : Proper e c) where
  pub fact_literal : (i : ℕ) → i < length c.facts → fact_of c i < 2 * c.atoms
  unfolding theory_from
  fact_literal i h = ltb→lt _ _ (every_elim _ _ (and_left _ _ (and_left _ _ (and_left _ _ p.ranges))) i h)

  pub head_literal : (r : ℕ) → r < length c.rules → (rule_of c r).head.0 < 2 * c.atoms
  unfolding theory_from
  head_literal = heads_below (theory_from c) p.ranges

  pub entry_literal : (i : ℕ) → i < length c.entries → (entry_of c i).literal.0 < 2 * c.atoms
  unfolding theory_from
  entry_literal i h =
      ltb→lt _ _ (every_of_elim _ _ (every_elim _ _ (and_right _ _ (and_left _ _ p.ranges)) (entry_of c i).rule (p.users i h)) _
      ((body_place c (entry_of c i).rule _).1 (i, h, refl, refl)))

  pub pair_rules : (i : ℕ) → i < length c.pairs → ((pair_of c i).stronger < length c.rules) × ((pair_of c i).weaker < length c.rules)
  unfolding theory_from
  pair_rules i h = let t = every_elim _ _ (and_right _ _ p.ranges) i h in (ltb→lt _ _ (and_left _ _ t), ltb→lt _ _ (and_right _ _ t))
