-- The part of the right array that holds a rule's entries. Assumes nothing.
use Prim.Native.Nat.{ℕ, suc, ◌+◌, ◌-◌, ◌*◌, ◌/◌, ◌≤◌, ◌<◌}
use native.Mathlib.Nat.{lt_irrefl, le_of_suc-le-suc}
use native.Mathlib.Omega.{arith}
use mathlib.Core.Path.{◌≡◌, refl, sym, ◌∙◌, ap, ap₂, subst}
use borrow.Author.Tests.{le-ltb}
use mathlib.Core.Logic.{⊎_elim}
use mathlib.Core.Bool.{false, cond}
use mathlib.Core.List.{List, [], ◌∷◌, map, map-map}
use lib.Dec.{T, ltb, eqb, eqb→eq, ltb→lt, lt→ltb}
use lib.ListN.{length, take, drop, get_or, length-take, length-drop}
use lib.Seq.{get_or-take, get_or-drop}
use Rattle.logic.specs.Tests.{member, upto, pick}
use Rattle.logic.proofs.Tests.{at_most, cond_true, eq→eqb}
use Rattle.logic.proofs.Lists.{member_here, member_there, member_map, member_map_intro, member_upto, member_upto_intro, member_pick, member_pick_intro}
use Rattle.logic.proofs.Rising.{rising_map, rising_upto, rising_pick, rising_same, count_down, count_up}
use Rattle.logic.proofs.Sums.{total_le, weigh_imply}
use Rattle.logic.proofs.Pigeon.{count_le}
use Rattle.table.specs.declared.format.Sizes.{Sizes}
use Rattle.table.specs.declared.edition.Edition.{Edition}
use Rattle.table.specs.Editions.{layout_of}
use Rattle.table.specs.Format.{word, span_of, entries_from, entry_at, body_in}
use Rattle.table.specs.Bodies.{entries_below, entry_byte, body_part, body_bytes, body_literals, words_of, Body}
use Rattle.table.specs.declared.judge.Refusal.{Refusal}
use Rattle.std.specs.Prelude.{Ok, Err}
use Rattle.table.specs.Refusals.{disorder, judgement_of, Legal}
use Rattle.table.proofs.Legal.{right_in_lem, legal, whole_length, ranged, body_entry, rule_below}
use Rattle.table.proofs.Sorted.{before_left, entries_rise}

pub below_bound : (b : List ℕ) (s : Sizes) (r : ℕ) → entries_below b s r ≤ s.entries
unfolding entries_below
below_bound b s r = count_le s.entries (λ i. ltb (entry_at b s i).rule r)

-- as they are read
pub read_bound : (b : List ℕ) (s : Sizes) (r : ℕ) {x : ℕ} → x ≡ entries_below b s r → x ≤ s.entries
read_bound b s r e = subst (λ k. k ≤ s.entries) (sym e) (below_bound b s r)

below_grows : (b : List ℕ) (s : Sizes) (r : ℕ) → entries_below b s r ≤ entries_below b s (r + 1)
unfolding entries_below
below_grows b s r = total_le s.entries _ _ (λ i _. weigh_imply (ltb (entry_at b s i).rule r) _ 1 (λ t. let h : (entry_at b s i).rule < r = ltb→lt _ _ t in lt→ltb (entry_at b s i).rule (r + 1) (omega arith)))

pub read_grows : (b : List ℕ) (s : Sizes) (r : ℕ) {x y : ℕ} → x ≡ entries_below b s r → y ≡ entries_below b s (r + 1) → x ≤ y
read_grows b s r {x} {y} e f = subst (λ k. k ≤ y) (sym e) (subst (λ k. entries_below b s r ≤ k) (sym f) (below_grows b s r))

-- the part as it is taken
pub part_read : (b : List ℕ) (s : Sizes) (r span x y : ℕ) {l : List ℕ} → r < s.rules → span ≡ span_of s → x ≡ entries_below b s r
    → y ≡ entries_below b s (r + 1)
    → l ≡ take (10 + 2 * (span + entries_from s) + 2 * y - (10 + 2 * (span + entries_from s) + 2 * x)) (drop (10 + 2 * (span + entries_from s) + 2 * x) b)
    → l ≡ body_part b s r
unfolding body_part
part_read b s r span x y h e f g i =
    i ∙ ap (λ k. take (10 + 2 * (k + entries_from s) + 2 * y - (10 + 2 * (k + entries_from s) + 2 * x)) (drop (10 + 2 * (k + entries_from s) + 2 * x) b)) e
    ∙ ap₂ (λ k m. take (entry_byte s m - entry_byte s k) (drop (entry_byte s k) b)) f g ∙ sym (cond_true (ltb r s.rules) _ _ (lt→ltb r s.rules h))

pub part_none : (b : List ℕ) (s : Sizes) (r : ℕ) → s.rules ≤ r → [] ≡ body_part b s r
unfolding body_part
part_none b s r h = simp (le-ltb r s.rules h)

map_same : (f g : ℕ → ℕ) (l : List ℕ) → ((x : ℕ) → T (member x l) → f x ≡ g x) → map f l ≡ map g l
map_same f g [] e = refl
map_same f g (x ∷ l) e = ap₂ (λ y k. y ∷ k) (e x (member_here x l)) (map_same f g l (λ y m. e y (member_there y x l m)))

-- the words of a part of a file
pub word_inside : (l : List ℕ) (j : ℕ) → 2 * j + 1 < length l → word l j ≡ get_or l (2 * j) 0 + 256 * get_or l (2 * j + 1) 0
unfolding word
word_inside l j h = cond_true (ltb j (length l / 2)) _ _ (lt→ltb j (length l / 2) (omega arith))

part_length : (b : List ℕ) (k m : ℕ) → 2 * (k + m) ≤ length b → length (take (2 * m) (drop (2 * k) b)) ≡ 2 * m
part_length b k m h = simp (length-take, length-drop) (omega arith)

part_word : (b : List ℕ) (k m j : ℕ) → 2 * (k + m) ≤ length b → j < m → word (take (2 * m) (drop (2 * k) b)) j ≡ word b (k + j)
part_word b k m j h l =
    word_inside (take (2 * m) (drop (2 * k) b)) j (omega (arith, part_length b k m h)) ∙ ap₂ (λ x y. x + 256 * y) (byte (2 * j) _ (omega arith) (omega arith)) (byte (2 * j + 1) _ (omega arith) (omega arith))
    ∙ sym (word_inside b (k + j) (omega arith))
  where
    byte : (i n : ℕ) → i < 2 * m → 2 * k + i ≡ n → get_or (take (2 * m) (drop (2 * k) b)) i 0 ≡ get_or b n 0
    byte i n v e = get_or-take (2 * m) (drop (2 * k) b) i 0 v ∙ get_or-drop (2 * k) b i 0 ∙ ap (λ z. get_or b z 0) e

empty_list : (l : List ℕ) → ((q : ℕ) → T (member q l) → ⊥) → l ≡ []
empty_list [] n = refl
empty_list (x ∷ l) n = absurd (n x (member_here x l))

module _ (b : List ℕ) (s : Sizes) (w : length b ≡ 10 + 4 * span_of s) (o : disorder b s ≡ false) (r : ℕ) where
  a : ℕ
  a = entries_below b s r

  z : ℕ
  z = entries_below b s (r + 1)

  rule : ℕ → ℕ
  rule i = (entry_at b s i).rule

  -- the rules of later entries are no smaller
  rules_rise : (i j : ℕ) → i < j → j < s.entries → rule i ≤ rule j
  unfolding rule
  rules_rise i j l m = before_left _ _ _ _ (entries_rise b s o i j l m)

  -- an entry is of a rule below n just where it stands below the count of those
  down : (n i j : ℕ) → i < j → j < s.entries → T (ltb (rule j) n) → T (ltb (rule i) n)
  down n i j l m t = let u : rule j < n = ltb→lt _ _ t in let v : rule i ≤ rule j = rules_rise i j l m in lt→ltb (rule i) n (omega arith)

  place_below : (n i : ℕ) → i < s.entries → rule i < n → i < entries_below b s n
  unfolding entries_below rule
  place_below n i h l = count_down (λ j. ltb (entry_at b s j).rule n) s.entries (down n) i h (lt→ltb _ _ l)

  below_place : (n i : ℕ) → i < entries_below b s n → rule i < n
  unfolding entries_below rule
  below_place n i l = ltb→lt _ _ (count_up (λ j. ltb (entry_at b s j).rule n) s.entries (down n) i l)

  -- the entries of rule r stand from a on, before z
  run : map (λ j. a + j) (upto (z - a)) ≡ pick (upto s.entries) (λ i. eqb (rule i) r)
  unfolding a z
  run = rising_same 0 _ _ (rising_map (λ j. a + j) (z - a) (λ i j h l. omega arith)) (rising_pick 0 (upto s.entries) _ (rising_upto s.entries)) inside outside
    where
      last : z ≤ s.entries
      last = below_bound b s (r + 1)

      inside : (i : ℕ) → T (member i (map (λ j. a + j) (upto (z - a)))) → T (member i (pick (upto s.entries) (λ k. eqb (rule k) r)))
      inside i m =
          let (j, u, e) = member_map (λ k. a + k) (upto (z - a)) i m in
          let h : j < z - a = member_upto (z - a) j u in
          let up : rule i < r + 1 = below_place (r + 1) i (omega arith) in
          let low : rule i < r → i < a = λ l. place_below r i (omega (arith, last)) l in
          member_pick_intro (upto s.entries) _ i (member_upto_intro s.entries i (omega (arith, last)))
          (eq→eqb (rule i) r (⊎_elim (λ l. absurd (lt_irrefl i (omega (arith, low l)))) (λ l. omega arith) (at_most (suc (rule i)) r)))

      outside : (i : ℕ) → T (member i (pick (upto s.entries) (λ k. eqb (rule k) r))) → T (member i (map (λ j. a + j) (upto (z - a))))
      outside i m =
          let (u, t) = member_pick (upto s.entries) _ i m in
          let h : i < s.entries = member_upto s.entries i u in
          let e : rule i ≡ r = eqb→eq (rule i) r t in
          let up : i < z = place_below (r + 1) i h (omega arith) in
          let low : a ≤ i = ⊎_elim (λ l. absurd (lt_irrefl r (omega (arith, below_place r i l)))) (λ l. le_of_suc-le-suc l) (at_most (suc i) a) in
          let n : a + (i - a) ≡ i = omega arith in
          subst (λ k. T (member k (map (λ j. a + j) (upto (z - a))))) n (member_map_intro (λ j. a + j) (upto (z - a)) (i - a) (member_upto_intro (z - a) (i - a) (omega arith)))

  -- the words of a body's bytes are its literals
  pub body_words : r < s.rules → words_of (body_part b s r) ≡ body_in b s r
  unfolding body_part body_in a z rule
  body_words h =
      ap words_of part ∙ ap (λ n. map (word (take (2 * (z - a)) (drop (2 * k) b))) (upto n)) half
      ∙ map_same _ (λ j. (entry_at b s (a + j)).literal.0) (upto (z - a)) (λ j m. literal j (member_upto (z - a) j m))
      ∙ sym (map-map (λ i. (entry_at b s i).literal.0) (λ j. a + j) (upto (z - a))) ∙ ap (map (λ i. (entry_at b s i).literal.0)) run
    where
      k : ℕ
      k = 5 + (span_of s + entries_from s) + a

      first : a ≤ z
      first = read_grows b s r refl refl

      last : z ≤ s.entries
      last = below_bound b s (r + 1)

      part : cond (ltb r s.rules) (take (entry_byte s z - entry_byte s a) (drop (entry_byte s a) b)) [] ≡ take (2 * (z - a)) (drop (2 * k) b)
      part =
          cond_true (ltb r s.rules) _ [] (lt→ltb r s.rules h)
          ∙ ap₂ (λ x y. take x (drop y b)) (let e : entry_byte s z - entry_byte s a ≡ 2 * (z - a) = omega arith in e) (let e : entry_byte s a ≡ 2 * k = omega arith in e)

      fits : 2 * (k + (z - a)) ≤ length b
      fits = omega (arith, first, last)

      half : length (take (2 * (z - a)) (drop (2 * k) b)) / 2 ≡ z - a
      half = omega (arith, part_length b k (z - a) fits)

      literal : (j : ℕ) → j < z - a → word (take (2 * (z - a)) (drop (2 * k) b)) j ≡ (entry_at b s (a + j)).literal.0
      literal j l =
          part_word b k (z - a) j fits l ∙ ap (word b) (let e : k + j ≡ 5 + span_of s + (entries_from s + (a + j)) = omega arith in e)
          ∙ sym (right_in_lem b s (entries_from s) s.entries (a + j) (omega (arith, last)))

-- what is handed back, by the judgement
pub accepted_body : (e : Edition) (b : List ℕ) (r : ℕ) (s : Sizes) (l : List ℕ) {k : List ℕ} → judgement_of e b ≡ Ok s → k ≡ layout_of e b → l ≡ body_part k s r
    → Body e b r l
unfolding body_bytes body_literals upto
accepted_body e b r s l {k} a h f =
    record {
      bytes = taken ∙ ap (λ j. body_bytes (layout_of e b) j r) (sym a);
      literals =
          ap words_of taken ∙ ⊎_elim (body_words (layout_of e b) s (whole_length (layout_of e b) s g.whole) g.sorted r) none (at_most (suc r) s.rules)
          ∙ ap (λ j. body_literals (layout_of e b) j r) (sym a);
    }
  where
    taken : l ≡ body_part (layout_of e b) s r
    taken = f ∙ ap (λ z. body_part z s r) h

    g : Legal (layout_of e b) s
    g = legal e b s a

    none : s.rules < suc r → words_of (body_part (layout_of e b) s r) ≡ body_in (layout_of e b) s r
    none h = ap words_of (sym (part_none (layout_of e b) s r (le_of_suc-le-suc h))) ∙ sym (empty_list (body_in (layout_of e b) s r) (λ q m.
        let (i, k, u, _) = body_entry (layout_of e b) s (ranged (layout_of e b) s g.ranges) r q m in
        lt_irrefl r (omega (arith, rule_below (layout_of e b) s (ranged (layout_of e b) s g.ranges) i k))))

pub refused_body : (e : Edition) (b : List ℕ) (r : ℕ) (n : Refusal) → judgement_of e b ≡ Err n → Body e b r []
unfolding body_bytes body_literals upto
refused_body e b r n f = record { bytes = ap (λ j. body_bytes (layout_of e b) j r) (sym f); literals = ap (λ j. body_literals (layout_of e b) j r) (sym f) }
