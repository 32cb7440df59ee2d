-- The pairs of the joined table, one rule of the house after the other. Assumes nothing.
use Prim.Native.Nat.{ℕ, ◌+◌, ◌-◌, ◌*◌, ◌≤◌, ◌<◌}
use native.Mathlib.Nat.{zero-add, le_antisymm}
use native.Mathlib.Numerals.{add-one}
use native.Mathlib.Omega.{arith}
use mathlib.Core.Path.{◌≡◌, refl, sym, ◌∙◌, ap, ap₂, subst}
use mathlib.Core.Bool.{Bool}
use mathlib.Core.List.{List, ◌++◌, map, map-append, append_assoc, map-map}
use lib.Dec.{eqb→eq}
use lib.ListN.{length, get_or, length-append}
use Rattle.logic.specs.Tests.{upto, pick}
use Rattle.logic.specs.Theory.{complement, head_of, superior}
use Rattle.table.specs.declared.format.Sizes.{Sizes}
use Rattle.table.specs.Format.{pair_at, theory_in}
use Rattle.table.specs.Refusals.{Legal}
use Rattle.files.specs.Contents.{Row, later_pair, pair_row, bytes_of}
use Rattle.writing.specs.declared.columns.Side.{Side}
use Rattle.writing.specs.Columns.{word_in, with_words, column}
use Rattle.writing.proofs.Appending.{words_then, column_length}
use Rattle.joining.specs.Joining.{over, pairs_below, pairs_under}
use Rattle.joining.proofs.Lists.{map_below}
use Rattle.joining.proofs.Pairing.{pair, own_strong, own_row}
use Rattle.joining.proofs.Rows.{house_row}
use Rattle.join.specs.Heads.{Next, Chain, with_head, ByHeads}
use Rattle.join.specs.Written.{Words, pair_words, AddedPairs, HousePairs}
use Rattle.join.proofs.Heading.{against_small}

-- words after words, with the place after them
pub words_after : (out : List ℕ) (at : ℕ) (xs ys : List ℕ) {a b : List ℕ} {k m : ℕ} → Words out at xs a k → Words a k ys b m → Words out at (xs ++ ys) b m
words_after out at xs ys {k = k} {m} (e, f) (g, h) = (sum, words_then out at xs ys f e h)
  where
    sum : m ≡ at + 2 * length (xs ++ ys)
    sum = omega (arith, e, g, length-append xs ys)

pub column_words : (side : Side) (row : ℕ → Row) (n : ℕ) (a : List ℕ) (k : ℕ) {b : List ℕ} {m : ℕ} → m ≡ n → b ≡ with_words a k (column side row n) → Words a k (column side row n) b (k + 2 * m)
column_words side row n a k f e = (ap (λ m. k + 2 * m) (f ∙ sym (column_length side row n)), e)

-- the arrays' chain of the rules with one head
chain : (c : List ℕ) (t : Sizes) (q : ℕ) (first next : List ℕ) → q < 1024 → ByHeads (theory_in c t) first next → Chain (with_head (theory_in c t) q) t.rules (get_or first q 0) next
unfolding theory_in
chain c t q first next h w =
    record {
      starts = w.begins q h;
      goes = λ j k u. subst (λ z. Next (with_head (theory_in c t) z) t.rules (j + 1) (get_or next j 0)) (eqb→eq (head_of (theory_in c t) j) q u) (w.goes j k);
    }

module _ (side : Side) (b : List ℕ) (s : Sizes) (l : Legal b s) where
  -- the words of rule x over others
  over_words : ℕ → List ℕ → List ℕ
  over_words x k = map (λ y. word_in side (record { left = x; right = y })) k

  -- the pairs of the house's rule x, as they are read
  own_words : (x : ℕ) {from to : ℕ} → x < s.rules → from ≡ pairs_under (theory_in b s) x → to ≡ pairs_under (theory_in b s) (x + 1)
      → column side (λ i. pair_row (later_pair 0 (pair_at b s (from + i)))) (to - from) ≡ over_words x (pick (upto s.rules) (superior (theory_in b s) x))
  unfolding over_words
  own_words x {from} {to} h e f =
      ap₂ (λ y z. column side (λ i. pair_row (later_pair 0 (pair_at b s (y + i)))) (z - y)) e f
      ∙ map_below _ (λ i. word (weak i)) count
      (λ i k. ap₂ (λ t w. word_in side (record { left = t; right = w })) (zero-add _ ∙ own_strong b s l x i k) (zero-add _))
      ∙ sym (map-map word weak (upto count)) ∙ ap (map word) (own_row b s l x h)
    where
      word : ℕ → ℕ
      word y = word_in side (record { left = x; right = y })

      weak : ℕ → ℕ
      weak i = (pair_at b s (pairs_under (theory_in b s) x + i)).weaker

      count : ℕ
      count = pairs_under (theory_in b s) (x + 1) - pairs_under (theory_in b s) x

  module _ (c : List ℕ) (t : Sizes) (m : Legal c t) (x : ℕ) (h : x < s.rules) where
    -- the tour's rules against the house's rule x
    attackers : List ℕ
    attackers = pick (upto t.rules) (with_head (theory_in c t) (complement (head_of (theory_in b s) x)))

    -- the words of the next row
    row_words : pair_words side (pairs_below (x + 1) (s.rules + t.rules) (over (theory_in b s) (theory_in c t)))
        ≡ (pair_words side (pairs_below x (s.rules + t.rules) (over (theory_in b s) (theory_in c t))) ++ over_words x (pick (upto s.rules) (superior (theory_in b s) x)))
        ++ map (λ j. word_in side (record { left = x; right = s.rules + j })) attackers
    unfolding pairs_below over_words attackers
    row_words =
        ap (λ z. pair_words side (pairs_below z n R)) (add-one x) ∙ map-append (λ p. word_in side (pair_row p)) (pairs_below x n R) (map (pair x) (pick (upto n) (R x)))
        ∙ ap (pair_words side (pairs_below x n R) ++◌)
        (map-map (λ p. word_in side (pair_row p)) (pair x) (pick (upto n) (R x)) ∙ ap (map word) (house_row b s l c t m x h) ∙ map-append word (pick (upto s.rules) (superior (theory_in b s) x)) (map (λ j. s.rules + j) attackers)
        ∙ ap (map word (pick (upto s.rules) (superior (theory_in b s) x)) ++◌) (map-map word (λ j. s.rules + j) attackers))
        ∙ sym (append_assoc (pair_words side (pairs_below x n R)) (map word (pick (upto s.rules) (superior (theory_in b s) x))) (map (λ j. word (s.rules + j)) attackers))
      where
        n : ℕ
        n = s.rules + t.rules

        R : ℕ → ℕ → Bool
        R = over (theory_in b s) (theory_in c t)

        word : ℕ → ℕ
        word y = word_in side (record { left = x; right = y })

  -- the rows passed: none, one more, all
  module _ (n : ℕ) (first next out : List ℕ) (at : ℕ) where
    pub rows_none : HousePairs side 0 b s n first next out at out at
    unfolding pairs_below bytes_of
    rows_none c t m e w = (omega arith, refl)

    pub rows_next : (x : ℕ) {a g o : List ℕ} {place from to start after place' : ℕ} → x < s.rules → from ≡ pairs_under (theory_in b s) x
        → to ≡ pairs_under (theory_in b s) (x + 1) → HousePairs side x b s n first next out at a place
        → g ≡ with_words a place (column side (λ i. pair_row (later_pair 0 (pair_at b s (from + i)))) (to - from)) → after ≡ place + 2 * (to - from)
        → start ≡ get_or first (complement (head_of (theory_in b s) x)) 0 → AddedPairs side x s.rules n start next g after o place'
        → HousePairs side (x + 1) b s n first next out at o place'
    unfolding attackers
    rows_next x {a} {g} {o} {place} {from} {to} {start} {after} {place'} h e f r u v z d c t m i w =
        subst (λ k. Words out at (pair_words side (pairs_below (x + 1) (s.rules + k) (over (theory_in b s) (theory_in c t)))) o place') i
        (subst (λ k. Words out at k o place') (sym (row_words c t m x h))
        (words_after out at _ _ (words_after out at _ _ before own) added))
      where
        before : Words out at (pair_words side (pairs_below x (s.rules + t.rules) (over (theory_in b s) (theory_in c t)))) a place
        before = subst (λ k. Words out at (pair_words side (pairs_below x (s.rules + k) (over (theory_in b s) (theory_in c t)))) a place) (sym i) (r c t m i w)

        own : Words a place (over_words x (pick (upto s.rules) (superior (theory_in b s) x))) g after
        own = subst (λ k. Words a place k g after) (own_words x h e f) (v ∙ ap (λ k. place + 2 * k) (sym (column_length side _ (to - from))), u)

        against : ℕ
        against = complement (head_of (theory_in b s) x)

        test : ℕ → Bool
        test = with_head (theory_in c t) against

        added : Words g after (map (λ j. word_in side (record { left = x; right = s.rules + j })) (attackers c t m x h)) o place'
        added =
            subst (λ k. Words g after (map (λ j. word_in side (record { left = x; right = s.rules + j })) (pick (upto k) test)) o place') (sym i)
            (d test (subst (λ k. Chain test k start next) i (subst (λ k. Chain test t.rules k next) (sym z) (chain c t against first next (against_small b s l x h) w))))

    pub rows_all : (x : ℕ) {o : List ℕ} {place : ℕ} → x ≤ s.rules → s.rules ≤ x → HousePairs side x b s n first next out at o place
        → HousePairs side s.rules b s n first next out at o place
    rows_all x {o} {place} h k r = subst (λ z. HousePairs side z b s n first next out at o place) (le_antisymm h k) r
