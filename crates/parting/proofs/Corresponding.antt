-- A content and the part of an atom correspond within the part's literals, by the rules' new numbers. Assumes nothing.
use Prim.Native.Nat.{ℕ, ◌<◌}
use mathlib.Core.Path.{◌≡◌, refl, sym, ◌∙◌, ap, ap₂, subst}
use mathlib.Core.Bool.{Bool}
use lib.Dec.{T, ltb, eqb, ltb→lt, lt→ltb, eqb→eq}
use lib.ListN.{length}
use Rattle.logic.specs.Tests.{◌and◌, member}
use Rattle.logic.specs.Theory.{atom, body_of, is_fact, superior}
use Rattle.logic.specs.Correspondence.{Corresponds}
use Rattle.logic.specs.Parts.{in_part}
use Rattle.logic.proofs.Tests.{test_eq, eq→eqb, and_intro, and_left, and_right}
use Rattle.logic.proofs.Literals.{complement_half}
use Rattle.logic.proofs.Parts.{part_antecedent}
use Rattle.table.specs.Format.{kind_meant}
use Rattle.table.specs.declared.edition.Edition.{Edition}
use Rattle.files.specs.Contents.{Content, fact_of, rule_of, entry_of, pair_of, theory_from}
use Rattle.files.proofs.Proper.{Proper}
use Rattle.files.proofs.Theories.{fact_place, body_place, superior_place}
use Rattle.parting.specs.Parting.{literal_in, rule_in, number_in, entry_in, pair_in, fact_kept, entry_kept, pair_kept, part_of}
use Rattle.parting.proofs.Numbering.{kept_at, kept_place, number_apart, number_at, number_place, rule_was, number_was}
use Rattle.parting.proofs.Proper.{superior_was}

module _ (c : Content) (a : ℕ) where
  -- rule r of the whole is rule s of the part
  unfoldable pub like : ℕ → ℕ → Bool
  like r s = ltb r (length c.rules) and rule_in c a r and eqb s (number_in c a r)

  -- by its parts; and it is the same rule
  like_intro : (r s : ℕ) → r < length c.rules → T (rule_in c a r) → s ≡ number_in c a r → T (like r s)
  unfolding like
  like_intro r s h t e = and_intro _ _ (and_intro _ _ (lt→ltb _ _ h) t) (eq→eqb _ _ e)

  like_elim : (r s : ℕ) → T (like r s) → (r < length c.rules) × T (rule_in c a r) × (s ≡ number_in c a r)
  unfolding like
  like_elim r s l = (ltb→lt _ _ (and_left _ _ (and_left _ _ l)), and_right _ _ (and_left _ _ l), eqb→eq _ _ (and_right _ _ l))

  like_rule : (r s : ℕ) → T (like r s) → rule_of c r ≡ rule_of (part_of c a) s
  like_rule r s l = let (h, t, e) = like_elim r s l in sym (ap (rule_of (part_of c a)) e ∙ (number_at c a r h t).1)

  -- the same facts
  same_facts : (q : ℕ) → T (literal_in c a q) → is_fact (theory_from c) q ≡ is_fact (theory_from (part_of c a)) q
  same_facts q w =
      test_eq _ _
      (λ t. let (i, h, e) = (fact_place c q).0 t in
      let (k, f) = kept_at (fact_of c) (length c.facts) (fact_kept c a) _ i h (subst (λ z. T (literal_in c a z)) (sym e) w) in
      (fact_place (part_of c a) q).1 (_, k, f ∙ e))
      (λ t. let (j, h, e) = (fact_place (part_of c a) q).0 t in
      let (i, k, _, _, f) = kept_place (fact_of c) (length c.facts) (fact_kept c a) _ j h in
      (fact_place c q).1 (i, k, sym f ∙ e))

  -- the same antecedents
  same_bodies : (r s q : ℕ) → T (like r s) → member q (body_of (theory_from c) r) ≡ member q (body_of (theory_from (part_of c a)) s)
  same_bodies r s q l =
      let (_, t, e) = like_elim r s l in
      test_eq _ _
      (λ u. let (i, h, x, y) = (body_place c r q).0 u in
      let (k, f) = kept_at (λ i. entry_in c a (entry_of c i)) (length c.entries) (entry_kept c a) _ i h (subst (λ z. T (rule_in c a z)) (sym x) t) in
      (body_place (part_of c a) s q).1 (_, k, ap (λ z. z.rule) f ∙ ap (number_in c a) x ∙ sym e, ap (λ z. z.literal.0) f ∙ y))
      (λ u. let (j, h, x, y) = (body_place (part_of c a) s q).0 u in
      let (i, k, v, _, f) = kept_place (λ i. entry_in c a (entry_of c i)) (length c.entries) (entry_kept c a) _ j h in
      (body_place c r q).1 (i, k, number_apart c a _ r v t (ap (λ z. z.rule) (sym f) ∙ x ∙ e), ap (λ z. z.literal.0) (sym f) ∙ y))

  -- the same superiority
  same_pairs : (e : Edition) → Proper e c → (t s u v : ℕ) → T (like t u) → T (like s v) → superior (theory_from c) t s ≡ superior (theory_from (part_of c a)) u v
  same_pairs e p t s u v l m =
      let (h, x, f) = like_elim t u l in
      let (k, y, g) = like_elim s v m in
      test_eq _ _
      (λ w. let (i, b, m, n) = (superior_place c t s).0 w in
      let (j, o) = kept_at (λ i. pair_in c a (pair_of c i)) (length c.pairs) (pair_kept c a) _ i b
      (and_intro _ _ (subst (λ z. T (rule_in c a z)) (sym m) x) (subst (λ z. T (rule_in c a z)) (sym n) y)) in
      (superior_place (part_of c a) u v).1 (_, j, ap (λ z. z.stronger) o ∙ ap (number_in c a) m ∙ sym f, ap (λ z. z.weaker) o ∙ ap (number_in c a) n ∙ sym g))
      (λ w. subst T (ap₂ (superior (theory_from c)) (ap (rule_was c a) f ∙ number_was c a t h x) (ap (rule_was c a) g ∙ number_was c a s k y)) (superior_was e c a p u v w))

-- The whole and the part correspond within the part.
module _ (e : Edition) (c : Content) (a : ℕ) (p : Proper e c) (h : a < c.atoms) where
  pub part_corresponds : Corresponds (theory_from c) (theory_from (part_of c a)) (λ q. in_part (theory_from c) a (atom q)) (like c a)
  unfolding theory_from literal_in rule_in
  part_corresponds =
      record {
        atoms = refl;
        facts = same_facts c a;
        complements = λ q t. subst (λ z. T (in_part (theory_from c) a z)) (sym (complement_half q)) t;
        antecedents = λ r q b. part_antecedent (theory_from c) p.ranges a r q h b;
        there = λ r b t. (number_in c a r, like_intro c a r _ b t refl);
        back = λ s b _. let (r, k, t, g, _) = number_place c a s b in (r, like_intro c a r s k t (sym g));
        below = λ r s l. let (b, t, g) = like_elim c a r s l in (b, subst (λ z. z < length (part_of c a).rules) (sym g) (number_at c a r b t).0);
        kinds = λ r s l. ap (λ z. kind_meant z.kind) (like_rule c a r s l);
        heads = λ r s l. ap (λ z. z.head.0) (like_rule c a r s l);
        bodies = same_bodies c a;
        pairs = λ t s u v l m _. same_pairs c a e p t s u v l m;
      }
