-- The file of a proper content is accepted, and what an accepted file says is a proper content. Assumes nothing.
use Prim.Native.Nat.{ℕ, zero, suc, ◌+◌, ◌-◌, ◌*◌, ◌/◌, ◌%◌, ◌≤◌, ◌<◌}
use native.Mathlib.Nat.{div-add-mod, le_refl, le_antisymm, lt_irrefl, lt_of_lt_of_le, zero-lt-suc}
use native.Mathlib.Omega.{arith}
use borrow.Author.Tests.{le-ltb, eq-eqb}
use mathlib.Core.Path.{◌≡◌, refl, sym, ◌∙◌, ap, ap₂, subst}
use mathlib.Core.Logic.{inr, ⊎_elim}
use mathlib.Core.Bool.{Bool, false}
use mathlib.Core.List.{List, map, map-map}
use lib.Dec.{T, ltb, eqb, leb→le, lt→ltb}
use lib.ListN.{length, get_or}
use Rattle.logic.specs.Tests.{◌and◌, ◌or◌, isnt, every, upto}
use Rattle.logic.specs.Theory.{proper, superior}
use Rattle.logic.specs.Cycle.{Cycle}
use Rattle.logic.proofs.Tests.{of_false, false_of, at_most, eq→eqb, and_intro, or_left, or_right, every_intro, some_none}
use Rattle.logic.proofs.Lists.{member_upto}
use Rattle.logic.proofs.Rising.{rising_upto}
use Rattle.logic.proofs.Cycle.{cyclic_sound}
use Rattle.table.specs.declared.format.Sizes.{Sizes}
use Rattle.std.specs.Prelude.{Ok}
use Rattle.table.specs.declared.edition.Edition.{Edition}
use Rattle.table.specs.declared.edition.Edition.TheVariants.{Old, Two}
use Rattle.table.specs.Editions.{layout_of, unmarked}
use Rattle.table.specs.Format.{kind_number, sizes_of, left, rules_from, kind_of, origin_of, origin_number, fact_at, entry_at, pair_at}
use Rattle.table.specs.Refusals.{truncated, oversize, wrong_length, some_at_least, bad_fact, bad_left, bad_rule, bad_kind, out_of_range, section_from, section_size, left_from, section_left, section_right, rises, disorder, cycle, judgement_of, Legal}
use Rattle.table.proofs.Legal.{Passed, passed, accepted, legal, Ranged, ranged, proper_theory, rule_below, no_cycle, left_in_lem}
use Rattle.table.proofs.Sections.{no_disorder}
use Rattle.table.proofs.Sorted.{Before, before_left, before_right, facts_rise, entries_rise, pairs_rise}
use Rattle.content.proofs.Files.{left_small, rule_left, origin_back}
use Rattle.files.specs.Contents.{Content, content_in, content_of, fact_of, rule_of, entry_of, pair_of, sizes_for, Row, fact_row, rule_row, entry_row, pair_row, words_of, bytes_of, marked, file_of, theory_from}
use Rattle.files.proofs.Proper.{RowBefore, Rising, Proper}
use Rattle.files.proofs.Theories.{fact_literal, head_literal, entry_literal, pair_rules}
use Rattle.files.proofs.Saying.{sizes_say, rule_says, entry_says, theory_says}
use Rattle.files.proofs.Rows.{rows_rise, rows_at}
use Rattle.files.proofs.Reading.{file_layout, file_sizes, file_length, fact_stands, rule_stands, entry_stands, pair_stands, file_content}

-- tests that fail
neither : (a b : Bool) → a ≡ false → b ≡ false → a or b ≡ false
unfolding ◌or◌
neither a b e f = ap₂ ◌or◌ e f

none_at_least : (n limit : ℕ) (f : ℕ → ℕ) → ((i : ℕ) → i < n → f i < limit) → some_at_least n limit f ≡ false
none_at_least n limit f b = sym (some_none n _ (λ i h t. lt_irrefl (f i) (lt_of_lt_of_le (b i h) (leb→le limit (f i) t))))

in_range : (b : List ℕ) (s : Sizes) → Ranged b s → out_of_range b s ≡ false
unfolding out_of_range
in_range b s g =
    neither _ _
    (neither _ _ (neither _ _ (none_at_least _ _ _ g.facts) (none_at_least _ _ _ g.heads)) (neither _ _ (none_at_least _ _ _ g.users) (none_at_least _ _ _ g.literals)))
    (neither _ _ (none_at_least _ _ _ g.stronger) (none_at_least _ _ _ g.weaker))

-- a row before another, as a test
later : Row → Row → Bool
later v w = ltb v.left w.left or (eqb v.left w.left and ltb v.right w.right)

before_later : (v w : Row) → RowBefore v w → T (later v w)
unfolding later
before_later v w t =
    ⊎_elim
    (λ h. let e : v.left ≡ w.left = le_antisymm (before_left _ _ _ _ t) h in or_right _ _ (and_intro _ _ (eq→eqb _ _ e) (lt→ltb _ _ (before_right _ _ _ _ e t))))
    (λ h. or_left _ _ (lt→ltb _ _ h)) (at_most w.left v.left)

-- the first n rows, each before the next
Ordered : (ℕ → Row) → ℕ → Type 0
Ordered w n = (i : ℕ) → i + 1 < n → T (later (w i) (w (i + 1)))

rising_ordered : {A : Type 0} (f : A → Row) (l : List A) (d : A) → f d ≡ fact_row 0 → Rising (map f l) → Ordered (λ i. f (get_or l i d)) (length l)
unfolding Ordered
rising_ordered f l d e r i h = before_later _ _ (rows_at f l d e r i (i + 1) (omega arith) h)

-- a section whose rows are ordered
section_rises : (b : List ℕ) (s : Sizes) (k : ℕ) (w : ℕ → Row)
    → ((i : ℕ) → i < section_size s k → (section_left b s k i ≡ (w i).left) × (section_right b s k i ≡ (w i).right))
    → Ordered w (section_size s k) → T (every (section_size s k - 1) (rises b s k))
unfolding rises later Ordered
section_rises b s k w at o = every_intro _ _ (λ i h.
    let here = at i (omega arith) in
    let next = at (i + 1) (omega arith) in
    coe 0 1 (z. T (later (record { left = sym here.0 z; right = sym here.1 z }) (record { left = sym next.0 z; right = sym next.1 z }))) (o i (omega arith)))

module _ (c : Content) (f : Ordered (λ i. fact_row (fact_of c i)) (length c.facts)) (e : Ordered (λ i. entry_row (entry_of c i)) (length c.entries))
    (p : Ordered (λ i. pair_row (pair_of c i)) (length c.pairs)) where
  section_sorted : (k : ℕ) → k < 3 → T (every (section_size (sizes_for c) k - 1) (rises (bytes_of (words_of c)) (sizes_for c) k))
  unfolding section_size section_from left_from
  section_sorted zero h = section_rises _ (sizes_for c) 0 (λ i. fact_row (fact_of c i)) (λ i l. (refl, (fact_stands c i l).1)) f
  section_sorted (suc zero) h = section_rises _ (sizes_for c) 1 (λ i. entry_row (entry_of c i)) (entry_stands c) e
  section_sorted (suc (suc zero)) h = section_rises _ (sizes_for c) 2 (λ i. pair_row (pair_of c i)) (pair_stands c) p
  section_sorted (suc (suc (suc k))) h = absurd (omega arith)

  file_sorted : disorder (bytes_of (words_of c)) (sizes_for c) ≡ false
  file_sorted = sym (no_disorder _ (sizes_for c) 3 (le_refl 3) section_sorted)

-- a file begins as its edition does
mark_read : (e : Edition) (l : List ℕ) → unmarked e (marked e l) ≡ false
unfolding unmarked marked isnt
mark_read Old l = refl
mark_read Two l = refl

module _ (e : Edition) (c : Content) (p : Proper e c) where
  file_kinds : bad_kind e (bytes_of (words_of c)) (sizes_for c) ≡ false
  unfolding bad_kind bad_fact bad_rule
  file_kinds =
      neither _ _
      (none_at_least _ 1 _ (λ i h. subst (λ z. z < 1) (sym (fact_stands c i h).0) (zero-lt-suc 0)))
      (sym (some_none _ _ (λ r h t. of_false _ (p.lefts r h) (subst (λ w. T (bad_left e w)) (rule_stands c r h).0 t))))

  file_ranged : Ranged (bytes_of (words_of c)) (sizes_for c)
  file_ranged =
      record {
        facts = λ i h. subst (λ z. z < 2 * c.atoms) (sym (fact_stands c i h).1) (fact_literal e c p i h);
        heads = λ r h. subst (λ z. z < 2 * c.atoms) (sym (rule_stands c r h).1) (head_literal e c p r h);
        users = λ i h. subst (λ z. z < length c.rules) (sym (entry_stands c i h).0) (p.users i h);
        literals = λ i h. subst (λ z. z < 2 * c.atoms) (sym (entry_stands c i h).1) (entry_literal e c p i h);
        stronger = λ i h. subst (λ z. z < length c.rules) (sym (pair_stands c i h).0) (pair_rules e c p i h).0;
        weaker = λ i h. subst (λ z. z < length c.rules) (sym (pair_stands c i h).1) (pair_rules e c p i h).1;
      }

  file_acyclic : cycle (bytes_of (words_of c)) (sizes_for c) ≡ false
  unfolding cycle
  file_acyclic = false_of _ (λ t. p.acyclic (subst (λ d. Cycle (superior d)) (theory_says _ (sizes_for c) ∙ ap theory_from (file_content c)) (cyclic_sound _ _ t)))

  in_layout : (P : List ℕ → Type 0) → P (bytes_of (words_of c)) → P (layout_of e (file_of e c))
  in_layout P = subst P (sym (file_layout e c))

  file_passed : Passed e (file_of e c) (sizes_for c)
  unfolding truncated wrong_length isnt
  file_passed =
      record {
        whole = neither _ _ (mark_read e (bytes_of (words_of c))) (in_layout (λ l. ltb (length l) 10 ≡ false) (le-ltb (length (bytes_of (words_of c))) 10 (omega (arith, file_length c))));
        read = in_layout (λ l. sizes_of l ≡ sizes_for c) (file_sizes c);
        limits = p.limits;
        length = in_layout (λ l. wrong_length l (sizes_for c) ≡ false) (ap isnt (eq-eqb _ _ (file_length c)));
        kinds = in_layout (λ l. bad_kind e l (sizes_for c) ≡ false) file_kinds;
        ranges = in_layout (λ l. out_of_range l (sizes_for c) ≡ false) (in_range _ (sizes_for c) file_ranged);
        sorted = in_layout (λ l. disorder l (sizes_for c) ≡ false) (file_sorted c (rising_ordered fact_row c.facts _ refl p.facts)
            (rising_ordered entry_row c.entries _ refl p.entries) (rising_ordered pair_row c.pairs _ refl p.pairs));
        acyclic = in_layout (λ l. cycle l (sizes_for c) ≡ false) file_acyclic;
      }

-- The file of a proper content is accepted.
pub file_accepted : (e : Edition) (c : Content) → Proper e c → judgement_of e (file_of e c) ≡ Ok (sizes_for c)
file_accepted e c p = accepted e (file_of e c) (sizes_for c) (file_passed e c p)

-- a left word that is not bad is that of its kind and its origin
kind_back : (n : ℕ) → n ≤ 2 → kind_number (kind_of n) ≡ n
unfolding kind_of
kind_back zero h = refl
kind_back (suc zero) h = refl
kind_back (suc (suc zero)) h = refl
kind_back (suc (suc (suc n))) h = absurd (omega arith)

left_back : (e : Edition) (w : ℕ) → bad_left e w ≡ false → kind_number (kind_of (w % 4)) + 4 * origin_number (origin_of (w / 4)) ≡ w
left_back e w h =
    let (k, o) = left_small e w h in
    let i : kind_number (kind_of (w % 4)) ≡ w % 4 = kind_back (w % 4) k in
    let j : origin_number (origin_of (w / 4)) ≡ w / 4 = origin_back (w / 4) o in
    ap₂ (λ x y. x + 4 * y) i j ∙ whole
  where
    whole : w % 4 + 4 * (w / 4) ≡ w
    whole = omega (arith, div-add-mod w 4)

-- with equal left words, by the right ones
before_second : (x y : ℕ) → x < y → Before 0 x 0 y
unfolding Before
before_second x y h = inr (refl, h)

-- rows that rise as they are read
read_rise : {A : Type 0} (f : A → Row) (g : ℕ → A) (n : ℕ) → ((i j : ℕ) → i < j → j < n → RowBefore (f (g i)) (f (g j))) → Rising (map f (map g (upto n)))
read_rise f g n r = subst Rising (sym (map-map f g (upto n))) (rows_rise _ (upto n) (rising_upto n) (λ i j h _ v. r i j h (member_upto n j v)))

-- a rule's left word is that of the rule that it says
pub left_said : (e : Edition) (b : List ℕ) (s : Sizes) → bad_kind e b s ≡ false → (r : ℕ) → r < s.rules → (rule_row (rule_of (content_in b s) r)).left ≡ left b (rules_from s + r)
left_said e b s k r h =
    ap (λ z. (rule_row z).left) (sym (rule_says b s r)) ∙ ap (λ w. kind_number (kind_of (w % 4)) + 4 * origin_number (origin_of (w / 4))) (left_in_lem b (rules_from s) s.rules r h)
    ∙ left_back e _ (rule_left e b s k r h)

layout_proper : (e : Edition) (b : List ℕ) (s : Sizes) → Legal b s → bad_kind e b s ≡ false → Proper e (content_in b s)
layout_proper e b s l k =
    record {
      limits = ap oversize (sizes_say b s) ∙ l.limits;
      lefts = λ r h. let i : r < s.rules = subst (λ z. r < z.rules) (sizes_say b s) h in ap (bad_left e) (left_said e b s k r i) ∙ rule_left e b s k r i;
      ranges = subst (λ d. T (proper d)) (theory_says b s) (proper_theory b s (ranged b s l.ranges));
      users = λ i h. let j : i < s.entries = subst (λ z. i < z.entries) (sizes_say b s) h in
          subst (λ z. (entry_of (content_in b s) i).rule < z.rules) (sym (sizes_say b s)) (subst (λ z. z.rule < s.rules) (entry_says b s i) (rule_below b s (ranged b s l.ranges) i j));
      facts = read_rise fact_row (λ i. (fact_at b s i).0) s.facts (λ i j h m. before_second _ _ (facts_rise b s l.sorted i j h m));
      entries = read_rise entry_row (entry_at b s) s.entries (entries_rise b s l.sorted);
      pairs = read_rise pair_row (pair_at b s) s.pairs (pairs_rise b s l.sorted);
      acyclic = λ c. no_cycle b s l (subst (λ d. Cycle (superior d)) (sym (theory_says b s)) c);
    }

-- What an accepted file says is a proper content.
pub content_proper : (e : Edition) (b : List ℕ) (s : Sizes) → judgement_of e b ≡ Ok s → Proper e (content_of e b)
content_proper e b s a =
    subst (λ z. Proper e (content_in (layout_of e b) z)) (sym (passed e b s a).read) (layout_proper e (layout_of e b) s (legal e b s a) (passed e b s a).kinds)
