-- The rows of the joined table, section after section, by what is read of both tables. Assumes nothing.
use Prim.Native.Nat.{ℕ, ◌+◌, ◌-◌, ◌*◌, ◌≤◌, ◌<◌}
use native.Mathlib.Nat.{zero-add, sub-zero}
use native.Mathlib.Omega.{arith}
use mathlib.Core.Path.{◌≡◌, sym, ◌∙◌, ap, ap₂, subst}
use mathlib.Core.List.{List, ◌++◌, map, map-append, append_assoc, map-map}
use lib.Dec.{eqb}
use lib.ListN.{length, length-append, length-map}
use Rattle.logic.specs.Tests.{◌or◌, total, count_below, upto, pick}
use Rattle.logic.specs.Theory.{complement, head_of, is_fact, superior}
use Rattle.logic.proofs.Lists.{member_upto, pick_same}
use Rattle.logic.proofs.Sums.{count_upto}
use Rattle.logic.proofs.Pigeon.{count_le}
use Rattle.table.specs.declared.format.Sizes.{Sizes}
use Rattle.table.specs.declared.format.Entry.{Entry}
use Rattle.table.specs.Format.{rule_at, entry_at, pair_at, theory_in}
use Rattle.table.specs.Refusals.{Legal}
use Rattle.table.proofs.Legal.{limited}
use Rattle.standing.specs.Marks.{marked, MarkedBy}
use Rattle.standing.proofs.Marking.{marked_by}
use Rattle.files.specs.Contents.{Content, content_in, sizes_for, later_entry, later_pair, Row, fact_row, rule_row, entry_row, pair_row, rows_of, theory_from}
use Rattle.files.proofs.Saying.{count_upto_map, theory_says}
use Rattle.writing.specs.declared.columns.Side.{Side}
use Rattle.writing.specs.Columns.{word_in, with_words, column}
use Rattle.writing.proofs.Appending.{words_then, column_length}
use Rattle.joining.specs.Joining.{in_either, over, pairs_below, joined}
use Rattle.joining.proofs.Lists.{map_below}
use Rattle.joining.proofs.Pairing.{pairs_canonical}
use Rattle.joining.proofs.Rows.{tour_rows, pairs_count}
use Rattle.join.specs.Heads.{ByHeads}
use Rattle.join.specs.Written.{Words, pair_words, RulesOfBoth, HousePairs}
use Rattle.join.proofs.Rowing.{words_after}

module _ (b : List ℕ) (s : Sizes) (c : List ℕ) (t : Sizes) where
  -- the joined content, by what is read
  pub joined_in : Content
  joined_in =
      record {
        atoms = s.atoms;
        facts = pick (upto (2 * s.atoms)) (in_either (theory_in b s) (theory_in c t));
        rules = map (rule_at b s) (upto s.rules) ++ map (rule_at c t) (upto t.rules);
        entries = map (entry_at b s) (upto s.entries) ++ map (later_entry s.rules) (map (entry_at c t) (upto t.entries));
        pairs = pairs_below (s.rules + t.rules) (s.rules + t.rules) (over (theory_in b s) (theory_in c t));
      }

  pub joined_in_lem : joined (content_in b s) (content_in c t) ≡ joined_in
  unfolding joined_in
  joined_in_lem = λ k. record {
    atoms = s.atoms;
    facts = pick (upto (2 * s.atoms)) (in_either (sym (theory_says b s) k) (sym (theory_says c t) k));
    rules = map (rule_at b s) (upto s.rules) ++ map (rule_at c t) (upto t.rules);
    entries = map (entry_at b s) (upto s.entries) ++ map (later_entry (house k)) (map (entry_at c t) (upto t.entries));
    pairs = pairs_below (house k + tour k) (house k + tour k) (over (sym (theory_says b s) k) (sym (theory_says c t) k));
  }
    where
      house : length (map (rule_at b s) (upto s.rules)) ≡ s.rules
      house = count_upto_map (rule_at b s) s.rules

      tour : length (map (rule_at c t) (upto t.rules)) ≡ t.rules
      tour = count_upto_map (rule_at c t) t.rules

  -- the joined facts are few
  pub facts_few : {n : ℕ} → Legal b s → n ≡ length (joined (content_in b s) (content_in c t)).facts → n ≤ 1024
  facts_few l e = omega (arith, e, count_upto (2 * s.atoms) (in_either (theory_from (content_in b s)) (theory_from (content_in c t))), count_le (2 * s.atoms) (in_either (theory_from (content_in b s)) (theory_from (content_in c t))), (limited s l.limits).atoms)

  -- its sizes
  module _ (l : Legal b s) (m : Legal c t) where
    pub joined_sizes : sizes_for (joined (content_in b s) (content_in c t))
        ≡ record {
          atoms = s.atoms;
          facts = count_below (2 * s.atoms) (in_either (theory_in b s) (theory_in c t));
          rules = s.rules + t.rules;
          entries = s.entries + t.entries;
          pairs = s.pairs + t.pairs + total s.rules (λ x. count_below t.rules (λ j. eqb (head_of (theory_in c t) j) (complement (head_of (theory_in b s) x))));
        }
    unfolding joined_in
    joined_sizes = ap sizes_for joined_in_lem ∙ (λ k. record {
      atoms = s.atoms;
      facts = count_upto (2 * s.atoms) (in_either (theory_in b s) (theory_in c t)) k;
      rules = rules k;
      entries = entries k;
      pairs = pairs_count b s l c t m k;
    })
      where
        rules : length (map (rule_at b s) (upto s.rules) ++ map (rule_at c t) (upto t.rules)) ≡ s.rules + t.rules
        rules = length-append (map (rule_at b s) (upto s.rules)) _ ∙ ap₂ ◌+◌ (count_upto_map (rule_at b s) s.rules) (count_upto_map (rule_at c t) t.rules)

        entries : length (map (entry_at b s) (upto s.entries) ++ map (later_entry s.rules) (map (entry_at c t) (upto t.entries))) ≡ s.entries + t.entries
        entries =
            length-append (map (entry_at b s) (upto s.entries)) _
            ∙ ap₂ ◌+◌ (count_upto_map (entry_at b s) s.entries) (length-map (map (entry_at c t) (upto t.entries)) (later_entry s.rules) ∙ count_upto_map (entry_at c t) t.entries)

  -- the words of each section, as they are written
  module _ (side : Side) where
    -- the words of a list
    words : {A : Type 0} → (A → Row) → List A → List ℕ
    words row l = map (word_in side) (map row l)

    words_length : {A : Type 0} (row : A → Row) (l : List A) → length (words row l) ≡ length l
    unfolding words
    words_length row l = length-map (map row l) (word_in side) ∙ length-map l row

    words_append : {A : Type 0} (row : A → Row) (l k : List A) → words row (l ++ k) ≡ words row l ++ words row k
    unfolding words
    words_append row l k = ap (map (word_in side)) (map-append row l k) ∙ map-append (word_in side) (map row l) (map row k)

    section_words : {A : Type 0} (row : A → Row) (f : ℕ → A) (n : ℕ) → column side (λ i. row (f i)) n ≡ words row (map f (upto n))
    unfolding words
    section_words row f n = sym (ap (map (word_in side)) (map-map row f (upto n)) ∙ map-map (word_in side) (λ i. row (f i)) (upto n))

    fact_words : (facts others : List ℕ) → MarkedBy (is_fact (theory_in b s)) 1024 facts → MarkedBy (is_fact (theory_in c t)) 1024 others → 2 * s.atoms ≤ 1024
        → map (λ q. word_in side (fact_row q)) (pick (upto (2 * s.atoms)) (λ q. marked facts q or marked others q)) ≡ words fact_row joined_in.facts
    unfolding joined_in words
    fact_words facts others f g h =
        sym (map-map (word_in side) fact_row (pick (upto (2 * s.atoms)) (λ q. marked facts q or marked others q)))
        ∙ ap (λ l. map (word_in side) (map fact_row l)) (pick_same (upto (2 * s.atoms)) (in_either (theory_in b s) (theory_in c t)) (λ q. marked facts q or marked others q) (λ q m.
        let k : q < 2 * s.atoms = member_upto (2 * s.atoms) q m in
        ap₂ ◌or◌ (marked_by (is_fact (theory_in b s)) f q (omega arith)) (marked_by (is_fact (theory_in c t)) g q (omega arith))))

    rule_words_lem : column side (λ r. rule_row (rule_at b s r)) s.rules ++ column side (λ r. rule_row (rule_at c t r)) t.rules ≡ words rule_row joined_in.rules
    unfolding joined_in
    rule_words_lem =
        ap₂ ◌++◌ (section_words rule_row (rule_at b s) s.rules) (section_words rule_row (rule_at c t) t.rules)
        ∙ sym (words_append rule_row (map (rule_at b s) (upto s.rules)) (map (rule_at c t) (upto t.rules)))

    -- the house's rules keep their numbers
    entry_kept_lem : (e : Entry) → later_entry 0 e ≡ e
    entry_kept_lem e = λ k. record { rule = zero-add e.rule k; literal = e.literal }

    entry_words_lem : column side (λ i. entry_row (later_entry 0 (entry_at b s i))) s.entries ++ column side (λ i. entry_row (later_entry s.rules (entry_at c t i))) t.entries
        ≡ words entry_row joined_in.entries
    unfolding joined_in
    entry_words_lem =
        ap₂ ◌++◌
        (map_below _ (λ i. word_in side (entry_row (entry_at b s i))) s.entries (λ i _. ap (λ e. word_in side (entry_row e)) (entry_kept_lem (entry_at b s i)))
        ∙ section_words entry_row (entry_at b s) s.entries)
        (section_words entry_row (λ i. later_entry s.rules (entry_at c t i)) t.entries
        ∙ ap (words entry_row) (sym (map-map (later_entry s.rules) (entry_at c t) (upto t.entries))))
        ∙ sym (words_append entry_row (map (entry_at b s) (upto s.entries)) (map (later_entry s.rules) (map (entry_at c t) (upto t.entries))))

    pair_words_lem : Legal b s → Legal c t → pair_words side (pairs_below s.rules (s.rules + t.rules) (over (theory_in b s) (theory_in c t)))
        ++ column side (λ i. pair_row (later_pair s.rules (pair_at c t (0 + i)))) (t.pairs - 0) ≡ words pair_row joined_in.pairs
    unfolding joined_in words
    pair_words_lem l m =
        ap₂ ◌++◌ (sym (map-map (word_in side) pair_row (pairs_below s.rules (s.rules + t.rules) (over (theory_in b s) (theory_in c t)))))
        (ap (λ n. column side (λ i. pair_row (later_pair s.rules (pair_at c t (0 + i)))) n) (sub-zero t.pairs)
        ∙ map_below _ (λ i. word_in side (pair_row (later_pair s.rules (pair_at c t i)))) t.pairs (λ i _. ap (λ j. word_in side (pair_row (later_pair s.rules (pair_at c t j)))) (zero-add i))
        ∙ section_words pair_row (λ i. later_pair s.rules (pair_at c t i)) t.pairs
        ∙ ap (λ l. map (word_in side) (map pair_row l)) (sym (map-map (later_pair s.rules) (pair_at c t) (upto t.pairs)) ∙ ap (map (later_pair s.rules)) (pairs_canonical c t m)))
        ∙ sym (words_append pair_row (pairs_below s.rules (s.rules + t.rules) (over (theory_in b s) (theory_in c t))) (map (later_pair s.rules) (pairs_below t.rules t.rules (superior (theory_in c t)))))
        ∙ ap (λ l. map (word_in side) (map pair_row l)) (sym (tour_rows b s l c t m))

    -- the place after the rules and entries of both
    pub rules_room : Legal b s → Legal c t → (out : List ℕ) (at : ℕ) {out' : List ℕ} {after : ℕ} → RulesOfBoth side b s c t out at out' after → after ≤ at + 20480
    rules_room l m out at (e, _) =
        omega (
          arith,
          e,
          length-append (column side (λ r. rule_row (rule_at b s r)) s.rules ++ column side (λ r. rule_row (rule_at c t r)) t.rules)
              (column side (λ i. entry_row (later_entry 0 (entry_at b s i))) s.entries ++ column side (λ i. entry_row (later_entry s.rules (entry_at c t i))) t.entries),
          length-append (column side (λ r. rule_row (rule_at b s r)) s.rules) (column side (λ r. rule_row (rule_at c t r)) t.rules),
          length-append (column side (λ i. entry_row (later_entry 0 (entry_at b s i))) s.entries) (column side (λ i. entry_row (later_entry s.rules (entry_at c t i))) t.entries),
          column_length side (λ r. rule_row (rule_at b s r)) s.rules,
          column_length side (λ r. rule_row (rule_at c t r)) t.rules,
          column_length side (λ i. entry_row (later_entry 0 (entry_at b s i))) s.entries,
          column_length side (λ i. entry_row (later_entry s.rules (entry_at c t i))) t.entries,
          (limited s l.limits).rules,
          (limited t m.limits).rules,
          (limited s l.limits).entries,
          (limited t m.limits).entries,
        )

    -- all rows
    all_words : map (word_in side) (rows_of joined_in) ≡ words fact_row joined_in.facts ++ (words rule_row joined_in.rules ++ (words entry_row joined_in.entries ++ words pair_row joined_in.pairs))
    unfolding rows_of words
    all_words =
        map-append (word_in side) (map fact_row joined_in.facts) _
        ∙ ap (words fact_row joined_in.facts ++◌) (map-append (word_in side) (map rule_row joined_in.rules) _
        ∙ ap (words rule_row joined_in.rules ++◌) (map-append (word_in side) (map entry_row joined_in.entries) (map pair_row joined_in.pairs)))

    -- one array: the facts, the rules and entries of both, the pairs of the house and those of the tour
    pub side_words : (l : Legal b s) (m : Legal c t) (facts others : List ℕ) → MarkedBy (is_fact (theory_in b s)) 1024 facts → MarkedBy (is_fact (theory_in c t)) 1024 others
        → (out o₁ o₂ o₃ : List ℕ) {o₄ : List ℕ} (at : ℕ) {n p₂ p₃ : ℕ} → n ≡ length (joined (content_in b s) (content_in c t)).facts
        → o₁ ≡ with_words out at (map (λ q. word_in side (fact_row q)) (pick (upto (2 * s.atoms)) (λ q. marked facts q or marked others q)))
        → RulesOfBoth side b s c t o₁ (at + 2 * n) o₂ p₂ → {rules pairs : ℕ} {first next : List ℕ} → ByHeads (theory_in c t) first next → rules ≡ t.rules
        → HousePairs side s.rules b s rules first next o₂ p₂ o₃ p₃ → pairs ≡ t.pairs
        → o₄ ≡ with_words o₃ p₃ (column side (λ i. pair_row (later_pair s.rules (pair_at c t (0 + i)))) (pairs - 0))
        → o₄ ≡ with_words out at (map (word_in side) (rows_of (joined (content_in b s) (content_in c t))))
    side_words l m facts others f g out o₁ o₂ o₃ at {n} {p₂} {p₃} e u v x y w r z =
        words_then out at ((F ++ (R ++ E)) ++ H) K three.1 three.0 (z ∙ ap (λ k. with_words o₃ p₃ (column side (λ i. pair_row (later_pair s.rules (pair_at c t (0 + i)))) (k - 0))) r)
        ∙ ap (with_words out at) whole
      where
        F : List ℕ
        F = map (λ q. word_in side (fact_row q)) (pick (upto (2 * s.atoms)) (λ q. marked facts q or marked others q))

        R : List ℕ
        R = column side (λ r. rule_row (rule_at b s r)) s.rules ++ column side (λ r. rule_row (rule_at c t r)) t.rules

        E : List ℕ
        E = column side (λ i. entry_row (later_entry 0 (entry_at b s i))) s.entries ++ column side (λ i. entry_row (later_entry s.rules (entry_at c t i))) t.entries

        H : List ℕ
        H = pair_words side (pairs_below s.rules (s.rules + t.rules) (over (theory_in b s) (theory_in c t)))

        K : List ℕ
        K = column side (λ i. pair_row (later_pair s.rules (pair_at c t (0 + i)))) (t.pairs - 0)

        literals : 2 * s.atoms ≤ 1024
        literals = omega (arith, (limited s l.limits).atoms)

        first : Words out at F o₁ (at + 2 * n)
        first = (ap (λ k. at + 2 * k) (e ∙ ap (λ x. length x.facts) joined_in_lem ∙ sym (words_length fact_row joined_in.facts) ∙ ap length (sym (fact_words facts others f g literals))), u)

        house : Words o₂ p₂ H o₃ p₃
        house = subst (λ k. Words o₂ p₂ (pair_words side (pairs_below s.rules (s.rules + k) (over (theory_in b s) (theory_in c t)))) o₃ p₃) y (w c t m (sym y) x)

        three : Words out at ((F ++ (R ++ E)) ++ H) o₃ p₃
        three = words_after out at (F ++ (R ++ E)) H (words_after out at F (R ++ E) first v) house

        whole : ((F ++ (R ++ E)) ++ H) ++ K ≡ map (word_in side) (rows_of (joined (content_in b s) (content_in c t)))
        whole =
            append_assoc (F ++ (R ++ E)) H K ∙ append_assoc F (R ++ E) (H ++ K) ∙ ap (F ++◌) (append_assoc R E (H ++ K))
            ∙ ap₂ ◌++◌ (fact_words facts others f g literals) (ap₂ ◌++◌ rule_words_lem (ap₂ ◌++◌ entry_words_lem (pair_words_lem l m))) ∙ sym all_words
            ∙ ap (λ x. map (word_in side) (rows_of x)) (sym joined_in_lem)
