-- What a legal layout says determines the theory, as it is listed. Assumes nothing.
use Prim.Native.Nat.{ℕ, ◌+◌, ◌*◌, ◌%◌, ◌≤◌, ◌<◌}
use native.Mathlib.Omega.{arith}
use mathlib.Core.Path.{◌≡◌, sym, ◌∙◌, ap, subst}
use mathlib.Core.Logic.{⊎_elim}
use mathlib.Core.List.{List, map}
use lib.Dec.{T, eqb, eqb→eq, eqb_refl}
use Rattle.logic.specs.Tests.{member, upto, pick}
use Rattle.logic.specs.Theory.{superior}
use Rattle.logic.specs.Content.{SameContent}
use Rattle.logic.proofs.Tests.{and_intro, and_left, and_right, some_intro, some_elim, at_most}
use Rattle.logic.proofs.Lists.{member_map_intro, member_pick_intro, member_upto_intro}
use Rattle.logic.proofs.Rising.{rising_values}
use Rattle.logic.proofs.Contents.{content_sym}
use Rattle.table.specs.declared.format.Sizes.{Sizes}
use Rattle.std.specs.Prelude.{Ok}
use Rattle.table.specs.declared.edition.Edition.{Edition}
use Rattle.table.specs.Editions.{layout_of}
use Rattle.table.specs.Format.{facts_from, rules_from, entries_from, pairs_from, kind_of, kind_meant, fact_at, rule_at, entry_at, pair_at, body_in, theory_in, theory_of}
use Rattle.table.specs.Refusals.{judgement_of, Legal}
use Rattle.table.proofs.Legal.{legal, theory_read, limited, ranged, left_past, right_past, body_entry, rule_below, literal_below, weaker_below}
use Rattle.table.proofs.Sorted.{Before, before_key, facts_rise, entries_rise, pairs_rise}

-- one row of a section in another: both its words
Row : (ℕ → ℕ) → (ℕ → ℕ) → (ℕ → ℕ) → (ℕ → ℕ) → ℕ → ℕ → Type 0
Row f g p q m i = (j : ℕ) × (j < m) × (p j ≡ f i) × (q j ≡ g i)

-- two sections that rise by both words, and have the same rows: they are one
rows_same : (f g p q : ℕ → ℕ) (n m : ℕ) → ((i : ℕ) → i < n → g i < 65536) → ((i : ℕ) → i < m → q i < 65536)
    → ((i j : ℕ) → i < j → j < n → Before (f i) (g i) (f j) (g j)) → ((i j : ℕ) → i < j → j < m → Before (p i) (q i) (p j) (q j))
    → ((i : ℕ) → i < n → Row f g p q m i) → ((j : ℕ) → j < m → Row p q f g n j) → (n ≡ m) × ((i : ℕ) → i < n → (f i ≡ p i) × (g i ≡ q i))
unfolding Row
rows_same f g p q n m small small' rise rise' there back =
    let (c, v) = rising_values (λ i. 65536 * f i + g i) (λ i. 65536 * p i + q i) n m
    (λ i j h l. before_key (f i) (g i) (f j) (g j) (small i (omega arith)) (rise i j h l))
    (λ i j h l. before_key (p i) (q i) (p j) (q j) (small' i (omega arith)) (rise' i j h l))
    (λ i h. let (j, k, d, e) = there i h in (j, k, omega (arith, d, e)))
    (λ j h. let (i, k, d, e) = back j h in (i, k, omega (arith, d, e))) in
    (c, λ i h. let a = small i h in let b = small' i (subst (λ z. i < z) c h) in let e = v i h in (omega arith, omega arith))

-- the facts, entries and pairs of one layout in another that says the same
module _ (b : List ℕ) (s : Sizes) (l : Legal b s) (c : List ℕ) (t : Sizes) (m : Legal c t) (w : SameContent (theory_in b s) (theory_in c t)) where
  fact_in : (i : ℕ) → i < s.facts → (j : ℕ) × (j < t.facts) × ((fact_at c t j).0 ≡ (fact_at b s i).0)
  unfolding theory_in
  fact_in i h =
      let (j, k, e) = some_elim _ _ (subst T (w.facts (fact_at b s i).0) (some_intro s.facts _ i h (eqb_refl (fact_at b s i).0))) in (j, k, eqb→eq _ _ e)

  entry_in_lem : (i : ℕ) → i < s.entries
      → Row (λ z. (entry_at b s z).rule) (λ z. (entry_at b s z).literal.0) (λ z. (entry_at c t z).rule) (λ z. (entry_at c t z).literal.0) t.entries i
  unfolding Row theory_in body_in
  entry_in_lem i h =
      let r : (entry_at b s i).rule < s.rules = rule_below b s (ranged b s l.ranges) i h in
      let here : T (member (entry_at b s i).literal.0 (body_in b s (entry_at b s i).rule)) =
      member_map_intro (λ z. (entry_at b s z).literal.0) _ i (member_pick_intro (upto s.entries) _ i (member_upto_intro s.entries i h) (eqb_refl (entry_at b s i).rule)) in
      let (j, k, e, f) = body_entry c t (ranged c t m.ranges) (entry_at b s i).rule (entry_at b s i).literal.0
      (subst T (w.bodies (entry_at b s i).rule (entry_at b s i).literal.0 r) here) in
      (j, k, e, sym f)

  pair_in_lem : (i : ℕ) → i < s.pairs
      → Row (λ z. (pair_at b s z).stronger) (λ z. (pair_at b s z).weaker) (λ z. (pair_at c t z).stronger) (λ z. (pair_at c t z).weaker) t.pairs i
  unfolding Row theory_in superior
  pair_in_lem i h =
      let (j, k, e) = some_elim _ _ (subst T (w.pairs (pair_at b s i).stronger (pair_at b s i).weaker)
      (some_intro s.pairs _ i h (and_intro _ _ (eqb_refl (pair_at b s i).stronger) (eqb_refl (pair_at b s i).weaker)))) in
      (j, k, eqb→eq _ _ (and_left _ _ e), eqb→eq _ _ (and_right _ _ e))

  literal_word : (i : ℕ) → i < s.entries → (entry_at b s i).literal.0 < 65536
  literal_word i h = omega (arith, literal_below b s (ranged b s l.ranges) i h, (limited s l.limits).atoms)

  weaker_word : (i : ℕ) → i < s.pairs → (pair_at b s i).weaker < 65536
  weaker_word i h = omega (arith, weaker_below b s (ranged b s l.ranges) i h, (limited s l.limits).rules)

module _ (b : List ℕ) (s : Sizes) (l : Legal b s) (c : List ℕ) (t : Sizes) (m : Legal c t) (w : SameContent (theory_in b s) (theory_in c t)) where
  facts_are : (s.facts ≡ t.facts) × ((i : ℕ) → i < s.facts → (fact_at b s i).0 ≡ (fact_at c t i).0)
  facts_are =
      rising_values (λ i. (fact_at b s i).0) (λ i. (fact_at c t i).0) s.facts t.facts (facts_rise b s l.sorted) (facts_rise c t m.sorted)
      (fact_in b s l c t m w) (fact_in c t m b s l (content_sym w))

  entries_are : (s.entries ≡ t.entries) × ((i : ℕ) → i < s.entries → ((entry_at b s i).rule ≡ (entry_at c t i).rule) × ((entry_at b s i).literal.0 ≡ (entry_at c t i).literal.0))
  entries_are =
      rows_same (λ z. (entry_at b s z).rule) (λ z. (entry_at b s z).literal.0) (λ z. (entry_at c t z).rule) (λ z. (entry_at c t z).literal.0) s.entries t.entries
      (literal_word b s l c t m w) (literal_word c t m b s l (content_sym w)) (entries_rise b s l.sorted) (entries_rise c t m.sorted) (entry_in_lem b s l c t m w)
      (entry_in_lem c t m b s l (content_sym w))

  pairs_are : (s.pairs ≡ t.pairs) × ((i : ℕ) → i < s.pairs → ((pair_at b s i).stronger ≡ (pair_at c t i).stronger) × ((pair_at b s i).weaker ≡ (pair_at c t i).weaker))
  pairs_are =
      rows_same (λ z. (pair_at b s z).stronger) (λ z. (pair_at b s z).weaker) (λ z. (pair_at c t z).stronger) (λ z. (pair_at c t z).weaker) s.pairs t.pairs
      (weaker_word b s l c t m w) (weaker_word c t m b s l (content_sym w)) (pairs_rise b s l.sorted) (pairs_rise c t m.sorted) (pair_in_lem b s l c t m w)
      (pair_in_lem c t m b s l (content_sym w))

  -- the sizes are the same
  pub sizes_same : s ≡ t
  unfolding theory_in
  sizes_same = λ k. record { atoms = w.atoms k; facts = facts_are.0 k; rules = w.rules k; entries = entries_are.0 k; pairs = pairs_are.0 k }

  -- and so is what stands at each place, to the end of each section and past it
  pub fact_same : (i : ℕ) → fact_at b s i ≡ fact_at c t i
  fact_same i =
      ⊎_elim (λ h k. record { 0 = (right_past b s (facts_from s) s.facts i h ∙ sym (right_past c t (facts_from t) t.facts i (subst (λ n. n ≤ i) facts_are.0 h))) k })
      (λ h k. record { 0 = facts_are.1 i h k }) (at_most s.facts i)

  pub kind_same : (r : ℕ) → kind_meant (rule_at b s r).kind ≡ kind_meant (rule_at c t r).kind
  unfolding theory_in
  kind_same r =
      ⊎_elim (λ h. ap (λ n. kind_meant (kind_of (n % 4))) (left_past b (rules_from s) s.rules r h ∙ sym (left_past c (rules_from t) t.rules r (subst (λ n. n ≤ r) w.rules h))))
      (w.kinds r) (at_most s.rules r)

  pub head_same : (r : ℕ) → (rule_at b s r).head.0 ≡ (rule_at c t r).head.0
  unfolding theory_in
  head_same r =
      ⊎_elim (λ h. right_past b s (rules_from s) s.rules r h ∙ sym (right_past c t (rules_from t) t.rules r (subst (λ n. n ≤ r) w.rules h)))
      (w.heads r) (at_most s.rules r)

  pub entry_same : (i : ℕ) → entry_at b s i ≡ entry_at c t i
  entry_same i =
      ⊎_elim (λ h k. record {
        rule = (left_past b (entries_from s) s.entries i h ∙ sym (left_past c (entries_from t) t.entries i (subst (λ n. n ≤ i) entries_are.0 h))) k;
        literal = record { 0 = (right_past b s (entries_from s) s.entries i h ∙ sym (right_past c t (entries_from t) t.entries i (subst (λ n. n ≤ i) entries_are.0 h))) k };
      })
      (λ h k. record { rule = (entries_are.1 i h).0 k; literal = record { 0 = (entries_are.1 i h).1 k } }) (at_most s.entries i)

  pub pair_same : (i : ℕ) → pair_at b s i ≡ pair_at c t i
  pair_same i =
      ⊎_elim (λ h k. record {
        stronger = (left_past b (pairs_from s) s.pairs i h ∙ sym (left_past c (pairs_from t) t.pairs i (subst (λ n. n ≤ i) pairs_are.0 h))) k;
        weaker = (right_past b s (pairs_from s) s.pairs i h ∙ sym (right_past c t (pairs_from t) t.pairs i (subst (λ n. n ≤ i) pairs_are.0 h))) k;
      })
      (λ h k. record { stronger = (pairs_are.1 i h).0 k; weaker = (pairs_are.1 i h).1 k }) (at_most s.pairs i)

  body_same : (r : ℕ) → body_in b s r ≡ body_in c t r
  unfolding body_in
  body_same r = λ k. map (λ i. (entry_same i k).literal.0) (pick (upto (entries_are.0 k)) (λ i. eqb (entry_same i k).rule r))

  -- so the theory is one
  pub one_theory : theory_in b s ≡ theory_in c t
  unfolding theory_in
  one_theory = λ k. record {
    atoms = w.atoms k;
    facts = facts_are.0 k;
    fact = λ i. (fact_same i k).0;
    rules = w.rules k;
    rule = λ r. record { kind = kind_same r k; head = head_same r k; body = body_same r k };
    pairs = pairs_are.0 k;
    pair = λ i. record { stronger = (pair_same i k).stronger; weaker = (pair_same i k).weaker };
  }

-- Two accepted tables with the same content, whatever their editions and the origins of their rules, are judged alike and say one theory.
pub same_tables : (e d : Edition) (b c : List ℕ) (s t : Sizes) → judgement_of e b ≡ Ok s → judgement_of d c ≡ Ok t → SameContent (theory_of e b) (theory_of d c)
    → (judgement_of e b ≡ judgement_of d c) × (theory_of e b ≡ theory_of d c)
same_tables e d b c s t a f w = (
  a ∙ ap Ok (sizes_same (layout_of e b) s (legal e b s a) (layout_of d c) t (legal d c t f) in_sizes) ∙ sym f,
  sym (theory_read e b s a) ∙ one_theory (layout_of e b) s (legal e b s a) (layout_of d c) t (legal d c t f) in_sizes ∙ theory_read d c t f,
)
  where
    in_sizes : SameContent (theory_in (layout_of e b) s) (theory_in (layout_of d c) t)
    in_sizes =
        subst (λ z. SameContent z (theory_in (layout_of d c) t)) (sym (theory_read e b s a)) (subst (λ z. SameContent (theory_of e b) z) (sym (theory_read d c t f)) w)
