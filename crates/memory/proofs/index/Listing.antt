-- The turns of the loops that mark the facts and the first pairs. Assumes nothing.
use Prim.Native.Nat.{ℕ, ◌+◌, ◌*◌, ◌≤◌, ◌<◌}
use native.Mathlib.Nat.{eq-or-lt_of_le}
use native.Mathlib.Omega.{arith}
use mathlib.Core.Path.{◌≡◌, refl, sym, ◌∙◌, ap, subst}
use mathlib.Core.Logic.{⊎_elim}
use mathlib.Core.List.{List}
use lib.Dec.{eqb, eqb→eq}
use Rattle.std.proofs.Common.{rules}
use Rattle.std.proofs.lemmas.List.{places, length-append, length-take, length-drop, length-replicate, get_or-replicate}
use Rattle.std.proofs.lemmas.Slice.{drop-put_mid}
use borrow.Rule.Slice.PartMut.{put_mid}
use lib.ListN.{length, set, length-set, drop, get_or, replicate, take}
use Rattle.logic.specs.Tests.{some, weigh}
use Rattle.logic.proofs.Tests.{at_most, eq→eqb, lt_suc_cases, some_elim, some_intro, test_cases, test_eq}
use Rattle.logic.proofs.Sums.{weigh_false, weigh_true}
use Rattle.table.specs.declared.format.Sizes.{Sizes}
use Rattle.table.specs.declared.format.Pair.{Pair}
use Rattle.table.specs.declared.format.Literal.{Literal}
use Rattle.table.specs.Format.{fact_at, pair_at, facts_from, theory_in}
use Rattle.table.specs.Refusals.{Legal}
use Rattle.table.proofs.Legal.{limited, ranged, right_in_lem, stronger_below}
use Rattle.memory.specs.Layout.{field_count, field_size, uses_base, memory_size}
use Rattle.memory.specs.Fields.{first_f, fact_f}
use Rattle.memory.specs.Memory.{view, use_at}
use Rattle.memory.specs.Indexing.{Only, Facts, Firsts}
use Rattle.memory.proofs.Views.{kept_none, rest_set, use_same, use_set, view_in, view_same, view_set, view_set_field, view_set_index}

pub only_none : (f : ℕ) (m : List ℕ) → Only f m m
only_none f m = record { others = λ g j n. refl; uses = λ k. refl; kept = kept_none m }

-- a store in the one field
pub only_next : (f i v : ℕ) {m n o : List ℕ} → f < field_count → i < field_size → o ≡ set n (field_size * f + i) v → Only f m n → Only f m o
only_next f i v {m} {n} {o} hf hi e k =
    record {
      others = λ g j ne. ap (λ z. view z g j) e ∙ view_set_field n f i v hf hi g j ne ∙ k.others g j ne;
      uses = λ z. ap (λ y. use_at y z) e ∙ use_set n f i v hf hi z ∙ k.uses z;
      kept = record { size = ap length e ∙ length-set n (field_size * f + i) v ∙ k.kept.size; rest = ap (drop memory_size) e ∙ rest_set n f i v hf hi ∙ k.kept.rest };
    }

-- a word after the store: the one stored, or as it was
pub stored : (f i v : ℕ) (n o : List ℕ) → f < field_count → i < field_size → memory_size ≤ length n → o ≡ set n (field_size * f + i) v → view o f i ≡ v
stored f i v n o hf hi l e = ap (λ z. view z f i) e ∙ view_set n f i v hf hi l

pub stored_not : (f i v : ℕ) (n o : List ℕ) → f < field_count → i < field_size → o ≡ set n (field_size * f + i) v → (j : ℕ) → (j ≡ i → ⊥) → view o f j ≡ view n f j
stored_not f i v n o hf hi e j ne = ap (λ z. view z f j) e ∙ view_set_index n f i v hf hi f j ne

-- every word of a field, at once
mid_below : (a k i : ℕ) (xs ys : List ℕ) → i < a → a ≤ length xs → get_or (put_mid a k xs ys) i 0 ≡ get_or xs i 0
mid_below a k i xs ys h l = search (rules, places)

mid_above : (a k i : ℕ) (xs ys : List ℕ) → a + k ≤ i → length ys ≡ k → a ≤ length xs → get_or (put_mid a k xs ys) i 0 ≡ get_or xs i 0
mid_above a k i xs ys h e l = search (rules, places)

mid_at : (a k i : ℕ) (xs ys : List ℕ) → i < k → length ys ≡ k → a ≤ length xs → get_or (put_mid a k xs ys) (a + i) 0 ≡ get_or ys i 0
mid_at a k i xs ys h e l = search (rules, places)

module _ (f v : ℕ) (m ys : List ℕ) (h : f < field_count) (l : memory_size ≤ length m) (e : ys ≡ replicate (length (take field_size (drop (field_size * f) m))) v) where
  whole : length (take field_size (drop (field_size * f) m)) ≡ field_size
  whole = simp (length-take, length-drop) (omega arith)

  size : length ys ≡ field_size
  size = ap length e ∙ length-replicate _ v ∙ whole

  abbrev after : List ℕ
  after = put_mid (field_size * f) field_size m ys

  others : (g j : ℕ) → (g ≡ f → ⊥) → view after g j ≡ view m g j
  others g j ne =
      view_same m after g j
      (λ hg hj. ⊎_elim (λ t. mid_below (field_size * f) field_size (field_size * g + j) m ys (omega arith) (omega arith))
      (λ t. mid_above (field_size * f) field_size (field_size * g + j) m ys (omega arith) size (omega arith)) (at_most (g + 1) f))

  uses : (k : ℕ) → use_at after k ≡ use_at m k
  uses k = use_same m after k (λ t. mid_above (field_size * f) field_size (uses_base + k) m ys (omega arith) size (omega arith))

  past : drop memory_size after ≡ drop memory_size m
  past = drop-put_mid (field_size * f) field_size m ys memory_size (omega arith) (omega arith) size

  filled_word : (r : ℕ) → r < field_size → view after f r ≡ v
  filled_word r t =
      view_in after f r h t ∙ mid_at (field_size * f) field_size r m ys t size (omega arith) ∙ ap (λ z. get_or z r 0) e
      ∙ get_or-replicate _ r v 0 (omega (arith, whole))

  pub filled : Only f m after × ((r : ℕ) → r < field_size → view after f r ≡ v)
  filled = (record { others = others; uses = uses; kept = record { size = length-mid; rest = past } }, filled_word)
    where
      length-mid : length after ≡ length m
      length-mid = simp (length-append, length-take, length-drop) (omega (arith, size))

module _ (b : List ℕ) (s : Sizes) (a : Legal b s) where
  pub facts_none : (m : List ℕ) → ((q : ℕ) → view m fact_f q ≡ 0) → Facts (theory_in b s) 0 m m
  facts_none m z =
      record {
        only = only_none fact_f m;
        marked = λ q h. z q ∙ sym (weigh_false _ 1 (λ t. let (k, l, u) = some_elim 0 _ t in absurd (omega arith)));
      }

  fact_small : (i : ℕ) → i < s.facts → (fact_at b s i).0 < field_size
  fact_small i h =
      omega (arith, right_in_lem b s (facts_from s) s.facts i h, (ranged b s a.ranges).facts i h, (limited s a.limits).atoms)

  -- a fact that was read
  module _ {m n : List ℕ} (i : ℕ) (h : i < s.facts) (p : Literal) (e : p ≡ fact_at b s i) (k : Facts (theory_in b s) i m n) where
    pub facts_small : p.0 < field_size
    facts_small = subst (λ l. l.0 < field_size) (sym e) (fact_small i h)

    pub facts_room : memory_size ≤ length m → memory_size ≤ length n
    facts_room l = omega (arith, k.only.kept.size)

    pub facts_next : {o : List ℕ} → memory_size ≤ length m → o ≡ set n (field_size * fact_f + p.0) 1 → Facts (theory_in b s) (i + 1) m o
    unfolding theory_in
    facts_next {o} l f = record { only = only_next fact_f p.0 1 (omega arith) facts_small f k.only; marked = marks }
      where
        same : (fact_at b s i).0 ≡ p.0
        same = ap (λ z. z.0) (sym e)

        here : (q : ℕ) → q ≡ p.0 → view o fact_f q ≡ weigh (some (i + 1) (λ j. eqb (fact_at b s j).0 q)) 1
        here q g =
            ap (view o fact_f) g ∙ stored fact_f p.0 1 n o (omega arith) facts_small (facts_room l) f
            ∙ sym (weigh_true _ 1 (some_intro (i + 1) _ i (omega arith) (eq→eqb _ _ (same ∙ sym g))))

        there : (q : ℕ) → q < field_size → (q ≡ p.0 → ⊥) → view o fact_f q ≡ weigh (some (i + 1) (λ j. eqb (fact_at b s j).0 q)) 1
        there q u g =
            stored_not fact_f p.0 1 n o (omega arith) facts_small f q g ∙ k.marked q u
            ∙ ap (λ z. weigh z 1) (test_eq _ _
            (λ t. let (j, v, w) = some_elim i (λ x. eqb (fact_at b s x).0 q) t in some_intro (i + 1) (λ x. eqb (fact_at b s x).0 q) j (omega arith) w)
            (λ t. let (j, v, w) = some_elim (i + 1) (λ x. eqb (fact_at b s x).0 q) t in
            ⊎_elim (λ x. some_intro i (λ y. eqb (fact_at b s y).0 q) j x w)
            (λ x. absurd (g (sym (eqb→eq _ _ w) ∙ ap (λ y. (fact_at b s y).0) x ∙ same))) (lt_suc_cases j i (omega arith))))

        marks : (q : ℕ) → q < field_size → view o fact_f q ≡ weigh (some (i + 1) (λ j. eqb (fact_at b s j).0 q)) 1
        marks q u = ⊎_elim (λ t. here q (eqb→eq q p.0 t)) (λ t. there q u (λ g. t (eq→eqb q p.0 g))) (test_cases (eqb q p.0))

  pub firsts_none : (m : List ℕ) → ((r : ℕ) → r < field_size → view m first_f r ≡ s.pairs) → Firsts (theory_in b s) s.pairs m m
  unfolding theory_in
  firsts_none m e = record { only = only_none first_f m; first = λ i h l. absurd (omega arith); none = λ r h _. e r h }

  -- a pair that was read, before those passed
  module _ (i : ℕ) (h : i < s.pairs) (p : Pair) (e : p ≡ pair_at b s i) where
    pub firsts_small : p.stronger < field_size
    firsts_small =
        let same : p.stronger ≡ (pair_at b s i).stronger = ap (λ z. z.stronger) e in
        omega (arith, stronger_below b s (ranged b s a.ranges) i h, (limited s a.limits).rules)

    pub firsts_next : {m n o : List ℕ} (w : ℕ) → w ≡ i + 1 → Firsts (theory_in b s) w m n → memory_size ≤ length m → o ≡ set n (field_size * first_f + p.stronger) i → Firsts (theory_in b s) i m o
    unfolding theory_in
    firsts_next {m} {n} {o} w x k l f =
        record {
          only = only_next first_f p.stronger i (omega arith) firsts_small f k.only;
          first = λ j u v. ⊎_elim (λ t. here j u (eqb→eq _ _ t)) (λ t. there j u v (λ g. t (eq→eqb _ _ g))) (test_cases (eqb (pair_at b s j).stronger p.stronger));
          none = λ r u v. stored_not first_f p.stronger i n o (omega arith) firsts_small f r (λ g. v i (omega arith) h (same ∙ sym g)) ∙ k.none r u (λ j c. v j (omega arith));
        }
      where
        same : (pair_at b s i).stronger ≡ p.stronger
        same = ap (λ z. z.stronger) (sym e)

        now_at : view o first_f p.stronger ≡ i
        now_at = stored first_f p.stronger i n o (omega arith) firsts_small (omega (arith, k.only.kept.size)) f

        here : (j : ℕ) → i ≤ j → (pair_at b s j).stronger ≡ p.stronger
            → (i ≤ view o first_f (pair_at b s j).stronger) × (view o first_f (pair_at b s j).stronger ≤ j)
            × ((pair_at b s (view o first_f (pair_at b s j).stronger)).stronger ≡ (pair_at b s j).stronger)
        here j u g =
            let word : view o first_f (pair_at b s j).stronger ≡ i = ap (view o first_f) g ∙ now_at in
            (omega arith, omega arith, ap (λ z. (pair_at b s z).stronger) word ∙ same ∙ sym g)

        there : (j : ℕ) → i ≤ j → j < s.pairs → ((pair_at b s j).stronger ≡ p.stronger → ⊥)
            → (i ≤ view o first_f (pair_at b s j).stronger) × (view o first_f (pair_at b s j).stronger ≤ j)
            × ((pair_at b s (view o first_f (pair_at b s j).stronger)).stronger ≡ (pair_at b s j).stronger)
        there j u v g =
            let same_word : view o first_f (pair_at b s j).stronger ≡ view n first_f (pair_at b s j).stronger =
            stored_not first_f p.stronger i n o (omega arith) firsts_small f (pair_at b s j).stronger g in
            let past : i + 1 ≤ j = ⊎_elim (λ x. absurd (g (ap (λ y. (pair_at b s y).stronger) (sym x) ∙ same))) (λ x. omega arith) (eq-or-lt_of_le u) in
            let r = k.first j (omega arith) v in
            (omega (arith, r.0), omega (arith, r.1), ap (λ z. (pair_at b s z).stronger) same_word ∙ r.2)
