-- The part of a proper content is proper. Assumes nothing.
use Prim.Native.Nat.{ℕ, ◌*◌, ◌≤◌, ◌<◌}
use native.Mathlib.Omega.{arith}
use borrow.Author.Tests.{le-ltb}
use mathlib.Core.Path.{◌≡◌, refl, sym, ◌∙◌, ap, subst}
use mathlib.Core.Bool.{Bool, false}
use mathlib.Core.List.{map, map-map}
use lib.Dec.{T, lt→ltb}
use lib.ListN.{length}
use Rattle.logic.specs.Tests.{◌or◌, upto, pick}
use Rattle.logic.specs.Theory.{proper, superior}
use Rattle.logic.specs.Cycle.{Leads, one, more}
use Rattle.logic.proofs.Tests.{and_intro, and_left, and_right, every_intro, every_of_intro}
use Rattle.logic.proofs.Lists.{member_pick, member_upto}
use Rattle.logic.proofs.Rising.{rising_upto, rising_pick}
use Rattle.table.specs.declared.format.Sizes.{Sizes}
use Rattle.table.specs.declared.edition.Edition.{Edition}
use Rattle.table.specs.Refusals.{oversize, bad_left}
use Rattle.table.proofs.Legal.{limited}
use Rattle.files.specs.Contents.{Content, fact_of, entry_of, pair_of, sizes_for, Row, fact_row, rule_row, entry_row, pair_row, theory_from}
use Rattle.files.proofs.Proper.{RowBefore, Rising, Proper}
use Rattle.files.proofs.Theories.{body_place, superior_place, fact_literal, head_literal, entry_literal, pair_rules}
use Rattle.files.proofs.Rows.{rows_rise, rows_at, before_kept}
use Rattle.parting.specs.Parting.{number_in, entry_in, pair_in, fact_kept, entry_kept, pair_kept, part_of}
use Rattle.parting.proofs.Numbering.{kept_le, kept_place, number_rises, number_at, number_place, rule_was, number_was}

-- sizes that are no greater are within the limits too
smaller_fits : (s t : Sizes) → oversize s ≡ false → t.atoms ≤ s.atoms → t.facts ≤ s.facts → t.rules ≤ s.rules → t.entries ≤ s.entries → t.pairs ≤ s.pairs
    → oversize t ≡ false
unfolding oversize ◌or◌
smaller_fits s t o a f r e p =
    let l = limited s o in
    let a' : t.atoms ≤ 512 = omega (arith, l.atoms) in
    let f' : t.facts ≤ 1024 = omega (arith, l.facts) in
    let r' : t.rules ≤ 1024 = omega (arith, l.rules) in
    let e' : t.entries ≤ 4096 = omega (arith, l.entries) in
    let p' : t.pairs ≤ 2048 = omega (arith, l.pairs) in
    simp (le-ltb _ _ a', le-ltb _ _ f', le-ltb _ _ r', le-ltb _ _ e', le-ltb _ _ p')

-- the rows of a list that keeps the places that pass, each before that of any greater place
kept_rise : {A : Type 0} (f : A → Row) (g : ℕ → A) (n : ℕ) (p : ℕ → Bool) → ((i j : ℕ) → i < j → j < n → T (p i) → T (p j) → RowBefore (f (g i)) (f (g j)))
    → Rising (map f (map g (pick (upto n) p)))
kept_rise f g n p r =
    subst Rising (sym (map-map f g (pick (upto n) p)))
    (rows_rise _ (pick (upto n) p) (rising_pick 0 (upto n) p (rising_upto n))
    (λ i j h u v. let (_, t) = member_pick (upto n) p i u in let (m, s) = member_pick (upto n) p j v in r i j h (member_upto n j m) t s))

-- a way leads on by the images of its steps
leads_map : {R S : ℕ → ℕ → Bool} (f : ℕ → ℕ) → ((t s : ℕ) → T (R t s) → T (S (f t) (f s))) → {t s : ℕ} → Leads R t s → Leads S (f t) (f s)
leads_map f g (one {r} {s} p) = one (g r s p)
leads_map f g (more {r} {s} p l) = more (g r s p) (leads_map f g l)

-- no list of a part is longer
pub part_limits : (c : Content) (a : ℕ) → oversize (sizes_for c) ≡ false → oversize (sizes_for (part_of c a)) ≡ false
part_limits c a o = smaller_fits (sizes_for c) (sizes_for (part_of c a)) o (omega arith) (kept_le _ _ _) (kept_le _ _ _) (kept_le _ _ _) (kept_le _ _ _)

module _ (e : Edition) (c : Content) (a : ℕ) (p : Proper e c) where
  -- each rule is one of the whole, so each entry and pair is of rules of the part
  part_users : (j : ℕ) → j < length (part_of c a).entries → (entry_of (part_of c a) j).rule < length (part_of c a).rules
  part_users j h =
      let (i, k, t, _, f) = kept_place (λ i. entry_in c a (entry_of c i)) (length c.entries) (entry_kept c a) _ j h in
      subst (λ z. z.rule < length (part_of c a).rules) (sym f) (number_at c a _ (p.users i k) t).0

  part_pairs : (j : ℕ) → j < length (part_of c a).pairs
      → ((pair_of (part_of c a) j).stronger < length (part_of c a).rules) × ((pair_of (part_of c a) j).weaker < length (part_of c a).rules)
  part_pairs j h =
      let (i, k, t, _, f) = kept_place (λ i. pair_in c a (pair_of c i)) (length c.pairs) (pair_kept c a) _ j h in
      let (x, y) = pair_rules e c p i k in
      subst (λ z. (z.stronger < length (part_of c a).rules) × (z.weaker < length (part_of c a).rules)) (sym f)
      ((number_at c a _ x (and_left _ _ t)).0, (number_at c a _ y (and_right _ _ t)).0)

  -- no literal and no rule number is out of range
  part_ranges : T (proper (theory_from (part_of c a)))
  unfolding theory_from
  part_ranges =
      and_intro _ _
      (and_intro _ _
      (and_intro _ _
      (every_intro _ _ (λ j h. let (i, k, _, _, f) = kept_place (fact_of c) (length c.facts) (fact_kept c a) _ j h in
      lt→ltb _ _ (subst (λ z. z < 2 * c.atoms) (sym f) (fact_literal e c p i k))))
      (every_intro _ _ (λ s h. let (r, k, _, _, f) = number_place c a s h in lt→ltb _ _ (subst (λ z. z.head.0 < 2 * c.atoms) (sym f) (head_literal e c p r k)))))
      (every_intro _ _ (λ s _. every_of_intro _ _ (λ q u.
      let (j, h, _, g) = (body_place (part_of c a) s q).0 u in
      let (i, k, _, _, f) = kept_place (λ i. entry_in c a (entry_of c i)) (length c.entries) (entry_kept c a) _ j h in
      lt→ltb q (2 * c.atoms) (subst (λ z. z < 2 * c.atoms) (ap (λ z. z.literal.0) (sym f) ∙ g) (entry_literal e c p i k))))))
      (every_intro _ _ (λ j h. let (x, y) = part_pairs j h in and_intro _ _ (lt→ltb _ _ x) (lt→ltb _ _ y)))

  -- a rule that is over another in the part is so in the whole
  pub superior_was : (t s : ℕ) → T (superior (theory_from (part_of c a)) t s) → T (superior (theory_from c) (rule_was c a t) (rule_was c a s))
  superior_was t s u =
      let (j, h, x, y) = (superior_place (part_of c a) t s).0 u in
      let (i, k, v, _, f) = kept_place (λ i. pair_in c a (pair_of c i)) (length c.pairs) (pair_kept c a) _ j h in
      let (m, n) = pair_rules e c p i k in
      (superior_place c _ _).1 (
        i,
        k,
        sym (number_was c a _ m (and_left _ _ v)) ∙ ap (rule_was c a) (ap (λ z. z.stronger) (sym f) ∙ x),
        sym (number_was c a _ n (and_right _ _ v)) ∙ ap (rule_was c a) (ap (λ z. z.weaker) (sym f) ∙ y),
      )

  -- The part of a proper content is proper, whatever the atom.
  pub part_proper : Proper e (part_of c a)
  part_proper =
      record {
        limits = part_limits c a p.limits;
        lefts = λ s h. let (r, k, _, _, f) = number_place c a s h in subst (λ z. bad_left e (rule_row z).left ≡ false) (sym f) (p.lefts r k);
        ranges = part_ranges;
        users = part_users;
        facts = kept_rise fact_row (fact_of c) (length c.facts) (fact_kept c a) (λ i j h k _ _. rows_at fact_row c.facts _ refl p.facts i j h k);
        entries = kept_rise entry_row (λ i. entry_in c a (entry_of c i)) (length c.entries) (entry_kept c a) (λ i j h k t _.
            before_kept _ _ _ _ (λ l. number_rises c a _ _ l t) (ap (number_in c a)) (λ l. l) (rows_at entry_row c.entries _ refl p.entries i j h k));
        pairs = kept_rise pair_row (λ i. pair_in c a (pair_of c i)) (length c.pairs) (pair_kept c a) (λ i j h k t _.
            before_kept _ _ _ _ (λ l. number_rises c a _ _ l (and_left _ _ t)) (ap (number_in c a)) (λ l. number_rises c a _ _ l (and_right _ _ t))
            (rows_at pair_row c.pairs _ refl p.pairs i j h k));
        acyclic = λ (s, l). p.acyclic (rule_was c a s, leads_map (rule_was c a) superior_was l);
      }
