-- A file is determined by its edition and by what it says: two accepted files of one edition are one, if they have the same content and the
-- same origins. Assumes nothing.
use Prim.Native.Nat.{ℕ, zero, suc, ◌+◌, ◌-◌, ◌*◌, ◌/◌, ◌%◌, ◌≤◌, ◌<◌}
use native.Mathlib.Nat.{div-add-mod'}
use native.Mathlib.Omega.{arith}
use mathlib.Core.Path.{◌≡◌, refl, sym, ◌∙◌, ap, ap₂, subst}
use mathlib.Core.Logic.{⊎_elim}
use mathlib.Core.Bool.{false}
use mathlib.Core.List.{List, [], ◌∷◌}
use borrow.Author.Tests.{ltb-false}
use lib.Dec.{eqb, eqb→eq}
use lib.ListN.{length, get_or, drop}
use lib.Seq.{get_or-drop, ext_get_or}
use Rattle.logic.specs.Theory as theory
use Rattle.logic.specs.Content.{SameContent}
use Rattle.logic.proofs.Tests.{test_cases, of_false, false_of, isnt_intro, at_most, some_intro}
use Rattle.table.specs.declared.format.Sizes.{Sizes}
use Rattle.std.specs.Prelude.{Ok}
use Rattle.table.specs.declared.edition.Edition.{Edition}
use Rattle.table.specs.declared.edition.Edition.TheVariants.{Old, Two}
use Rattle.table.specs.Editions.{Bytes, layout_of, unmarked}
use Rattle.table.specs.Format.{word, sizes_of, span_of, left, right, facts_from, rules_from, entries_from, pairs_from, left_in, right_in, kind_of, kind_meant, origin_of, origin_number, rule_at, origin_at, theory_in, theory_of}
use Rattle.table.specs.Refusals.{bad_left, bad_rule, bad_kind, judgement_of, Legal}
use Rattle.table.proofs.Legal.{legal, passed, marked, or_fails, theory_read, whole_length, left_in_lem, right_in_lem}
use Rattle.table.proofs.Sections.{fact_left}
use Rattle.table.proofs.Bodies.{word_inside}
use Rattle.content.proofs.Contents.{sizes_same, fact_same, kind_same, head_same, entry_same, pair_same}

-- a rule's left word that is not bad has a kind and an origin
pub left_small : (e : Edition) (w : ℕ) → bad_left e w ≡ false → (w % 4 ≤ 2) × (w / 4 ≤ 3)
unfolding bad_left
left_small Old zero h = (omega arith, omega arith)
left_small Old (suc zero) h = (omega arith, omega arith)
left_small Old (suc (suc zero)) h = (omega arith, omega arith)
left_small Old (suc (suc (suc w))) h = absurd (let k : suc (suc (suc w)) ≤ 2 = ltb-false _ _ h in omega arith)
left_small Two w h = let (k, o) = or_fails _ _ h in (ltb-false _ _ k, ltb-false _ _ o)

-- and is what they are
kind_code : theory.Kind → ℕ
kind_code theory.strict = 0
kind_code theory.defeasible = 1
kind_code theory.defeater = 2

kind_back : (n : ℕ) → n ≤ 2 → kind_code (kind_meant (kind_of n)) ≡ n
unfolding kind_code kind_meant kind_of
kind_back zero h = refl
kind_back (suc zero) h = refl
kind_back (suc (suc zero)) h = refl
kind_back (suc (suc (suc n))) h = absurd (omega arith)

pub origin_back : (n : ℕ) → n ≤ 3 → origin_number (origin_of n) ≡ n
unfolding origin_of
origin_back zero h = refl
origin_back (suc zero) h = refl
origin_back (suc (suc zero)) h = refl
origin_back (suc (suc (suc zero))) h = refl
origin_back (suc (suc (suc (suc n)))) h = absurd (omega arith)

left_is : (e : Edition) (w : ℕ) → bad_left e w ≡ false → w ≡ origin_number (origin_of (w / 4)) * 4 + kind_code (kind_meant (kind_of (w % 4)))
left_is e w h =
    let (k, o) = left_small e w h in
    sym (div-add-mod' w 4) ∙ ap₂ (λ x y. x * 4 + y) (sym (origin_back (w / 4) o)) (sym (kind_back (w % 4) k))

-- an accepted table's rules
pub rule_left : (e : Edition) (b : List ℕ) (s : Sizes) → bad_kind e b s ≡ false → (r : ℕ) → r < s.rules → bad_left e (left b (rules_from s + r)) ≡ false
unfolding bad_kind bad_rule
rule_left e b s k r h = false_of _ (λ t. of_false _ (or_fails _ _ k).1 (some_intro s.rules _ r h t))

-- two layouts with the same sizes, which the readers read alike
pub record ReadAlike (b c : List ℕ) (s : Sizes) : Type 0 where
  pub facts : (i : ℕ) → i < s.facts → right b s (facts_from s + i) ≡ right c s (facts_from s + i)
  pub zeros : (i : ℕ) → i < s.facts → left b (facts_from s + i) ≡ left c (facts_from s + i)
  pub kinds : (r : ℕ) → r < s.rules → left b (rules_from s + r) ≡ left c (rules_from s + r)
  pub heads : (r : ℕ) → r < s.rules → right b s (rules_from s + r) ≡ right c s (rules_from s + r)
  pub users : (i : ℕ) → i < s.entries → left b (entries_from s + i) ≡ left c (entries_from s + i)
  pub literals : (i : ℕ) → i < s.entries → right b s (entries_from s + i) ≡ right c s (entries_from s + i)
  pub stronger : (i : ℕ) → i < s.pairs → left b (pairs_from s + i) ≡ left c (pairs_from s + i)
  pub weaker : (i : ℕ) → i < s.pairs → right b s (pairs_from s + i) ≡ right c s (pairs_from s + i)

-- what holds in each section of an array holds in the whole array
by_section : (P : ℕ → Type 0) (s : Sizes) → ((i : ℕ) → i < s.facts → P (facts_from s + i)) → ((i : ℕ) → i < s.rules → P (rules_from s + i))
    → ((i : ℕ) → i < s.entries → P (entries_from s + i)) → ((i : ℕ) → i < s.pairs → P (pairs_from s + i)) → (i : ℕ) → i < span_of s → P i
by_section P s f r e p i h =
    ⊎_elim
    (λ a. ⊎_elim
    (λ b. ⊎_elim
    (λ c. let g : pairs_from s + (i - pairs_from s) ≡ i = omega arith in subst P g (p (i - pairs_from s) (omega arith)))
    (λ c. let g : entries_from s + (i - entries_from s) ≡ i = omega arith in subst P g (e (i - entries_from s) (omega arith))) (at_most (pairs_from s) i))
    (λ b. let g : rules_from s + (i - rules_from s) ≡ i = omega arith in subst P g (r (i - rules_from s) (omega arith))) (at_most (entries_from s) i))
    (λ a. let g : facts_from s + i ≡ i = omega arith in subst P g (f i a)) (at_most s.facts i)

module _ (b c : List ℕ) (s : Sizes) (z : sizes_of b ≡ sizes_of c) (a : ReadAlike b c s) where
  size_word : (k : ℕ) → k < 5 → word b k ≡ word c k
  size_word zero h = ap (λ y. y.atoms) z
  size_word (suc zero) h = ap (λ y. y.facts) z
  size_word (suc (suc zero)) h = ap (λ y. y.rules) z
  size_word (suc (suc (suc zero))) h = ap (λ y. y.entries) z
  size_word (suc (suc (suc (suc zero)))) h = ap (λ y. y.pairs) z
  size_word (suc (suc (suc (suc (suc k))))) h = absurd (omega arith)

  pub words_alike : (k : ℕ) → k < 5 + 2 * span_of s → word b k ≡ word c k
  words_alike k h =
      ⊎_elim
      (λ d. ⊎_elim
      (λ u. let g : 5 + span_of s + (k - (5 + span_of s)) ≡ k = omega arith in
      subst (λ n. word b n ≡ word c n) g (by_section (λ i. right b s i ≡ right c s i) s a.facts a.heads a.literals a.weaker (k - (5 + span_of s)) (omega arith)))
      (λ u. let g : 5 + (k - 5) ≡ k = omega arith in
      subst (λ n. word b n ≡ word c n) g (by_section (λ i. left b i ≡ left c i) s a.zeros a.kinds a.users a.stronger (k - 5) (omega arith)))
      (at_most (5 + span_of s) k))
      (λ d. size_word k d) (at_most 5 k)

-- bytes are determined by their words
bytes_alike : (b c : List ℕ) (n : ℕ) → Bytes b → Bytes c → length b ≡ 2 * n → length c ≡ 2 * n → ((k : ℕ) → k < n → word b k ≡ word c k) → b ≡ c
bytes_alike b c n f g h l w = ext_get_or 0 b c (omega arith) (λ i k. byte i (omega arith))
  where
    byte : (i : ℕ) → i < 2 * n → get_or b i 0 ≡ get_or c i 0
    byte i k =
        let low : get_or b (2 * (i / 2)) 0 < 256 = f (2 * (i / 2)) in
        let low' : get_or c (2 * (i / 2)) 0 < 256 = g (2 * (i / 2)) in
        let sum : get_or b (2 * (i / 2)) 0 + 256 * get_or b (2 * (i / 2) + 1) 0 ≡ get_or c (2 * (i / 2)) 0 + 256 * get_or c (2 * (i / 2) + 1) 0 =
        sym (word_inside b (i / 2) (omega arith)) ∙ w (i / 2) (omega arith) ∙ word_inside c (i / 2) (omega arith) in
        ⊎_elim
        (λ d. let e : 2 * (i / 2) ≡ i = omega arith in
        subst (λ z. get_or b z 0 ≡ get_or c z 0) e (let q : get_or b (2 * (i / 2)) 0 ≡ get_or c (2 * (i / 2)) 0 = omega arith in q))
        (λ d. let e : 2 * (i / 2) + 1 ≡ i = omega arith in
        subst (λ z. get_or b z 0 ≡ get_or c z 0) e (let q : get_or b (2 * (i / 2) + 1) 0 ≡ get_or c (2 * (i / 2) + 1) 0 = omega arith in q))
        (at_most i (2 * (i / 2)))

-- the layout and the edition determine the file
pub layout_bytes : (e : Edition) (b : List ℕ) → Bytes b → Bytes (layout_of e b)
unfolding layout_of
layout_bytes Old b f = f
layout_bytes Two b f = λ i. subst (λ n. n < 256) (sym (get_or-drop 1 b i 0)) (f (1 + i))

pub marked_file : (b : List ℕ) → unmarked Two b ≡ false → b ≡ 2 ∷ drop 1 b
unfolding unmarked
marked_file [] h = absurd (of_false _ h tt)
marked_file (x ∷ b) h = ⊎_elim (λ t. ap (◌∷ b) (eqb→eq x 2 t)) (λ f. absurd (of_false _ h (isnt_intro _ f))) (test_cases (eqb x 2))

layout_file : (e : Edition) (b c : List ℕ) → unmarked e b ≡ false → unmarked e c ≡ false → layout_of e b ≡ layout_of e c → b ≡ c
unfolding layout_of
layout_file Old b c f g h = h
layout_file Two b c f g h = marked_file b f ∙ ap (2 ∷◌) h ∙ sym (marked_file c g)

-- two legal layouts of one edition that say the same, origins too
module _ (e : Edition) (b c : List ℕ) (s : Sizes) (l : Legal b s) (k : bad_kind e b s ≡ false) (m : Legal c s) (n : bad_kind e c s ≡ false)
    (w : SameContent (theory_in b s) (theory_in c s)) (o : (r : ℕ) → r < s.rules → (rule_at b s r).origin ≡ (rule_at c s r).origin) where
  lefts : (from size i : ℕ) → i < size → left_in b from size i ≡ left_in c from size i → left b (from + i) ≡ left c (from + i)
  lefts from size i h d = sym (left_in_lem b from size i h) ∙ d ∙ left_in_lem c from size i h

  rights : (from size i : ℕ) → i < size → right_in b s from size i ≡ right_in c s from size i → right b s (from + i) ≡ right c s (from + i)
  rights from size i h d = sym (right_in_lem b s from size i h) ∙ d ∙ right_in_lem c s from size i h

  -- a rule's left word, by its kind and its origin
  rule_lefts : (r : ℕ) → r < s.rules → left b (rules_from s + r) ≡ left c (rules_from s + r)
  rule_lefts r h =
      left_is e _ (rule_left e b s k r h)
      ∙ ap₂ (λ x y. origin_number x * 4 + kind_code y)
      (ap (λ z. origin_of (z / 4)) (sym (left_in_lem b (rules_from s) s.rules r h)) ∙ o r h ∙ ap (λ z. origin_of (z / 4)) (left_in_lem c (rules_from s) s.rules r h))
      (ap (λ z. kind_meant (kind_of (z % 4))) (sym (left_in_lem b (rules_from s) s.rules r h)) ∙ kind_same b s l c s m w r
      ∙ ap (λ z. kind_meant (kind_of (z % 4))) (left_in_lem c (rules_from s) s.rules r h))
      ∙ sym (left_is e _ (rule_left e c s n r h))

  alike : ReadAlike b c s
  alike =
      record {
        facts = λ i h. rights (facts_from s) s.facts i h (ap (λ x. x.0) (fact_same b s l c s m w i));
        zeros = λ i h. fact_left b s l.facts i h ∙ sym (fact_left c s m.facts i h);
        kinds = rule_lefts;
        heads = λ r h. rights (rules_from s) s.rules r h (head_same b s l c s m w r);
        users = λ i h. lefts (entries_from s) s.entries i h (ap (λ x. x.rule) (entry_same b s l c s m w i));
        literals = λ i h. rights (entries_from s) s.entries i h (ap (λ x. x.literal.0) (entry_same b s l c s m w i));
        stronger = λ i h. lefts (pairs_from s) s.pairs i h (ap (λ x. x.stronger) (pair_same b s l c s m w i));
        weaker = λ i h. rights (pairs_from s) s.pairs i h (ap (λ x. x.weaker) (pair_same b s l c s m w i));
      }

  one_layout : Bytes b → Bytes c → b ≡ c
  one_layout f g =
      bytes_alike b c (5 + 2 * span_of s) f g (whole_length b s l.whole ∙ even) (whole_length c s m.whole ∙ even)
      (words_alike b c s (l.read ∙ sym m.read) alike)
    where
      even : 10 + 4 * span_of s ≡ 2 * (5 + 2 * span_of s)
      even = omega arith

-- Document 02, S-5, "the unique file": two accepted files of one edition that say the same A, facts, kinds, heads, antecedents and pairs, and
-- the same origins, are one.
pub one_file : (e : Edition) (b c : List ℕ) (s t : Sizes) → Bytes b → Bytes c → judgement_of e b ≡ Ok s → judgement_of e c ≡ Ok t
    → SameContent (theory_of e b) (theory_of e c) → ((r : ℕ) → r < s.rules → origin_at e b r ≡ origin_at e c r) → b ≡ c
one_file e b c s t f g a d w o =
    layout_file e b c (marked e b (passed e b s a).whole) (marked e c (passed e c t d).whole)
    (one_layout e (layout_of e b) (layout_of e c) s (legal e b s a) (passed e b s a).kinds legal_c (passed e c s d').kinds in_sizes origins
    (layout_bytes e b f) (layout_bytes e c g))
  where
    said : SameContent (theory_in (layout_of e b) s) (theory_in (layout_of e c) t)
    said = subst (λ z. SameContent z (theory_in (layout_of e c) t)) (sym (theory_read e b s a)) (subst (λ z. SameContent (theory_of e b) z) (sym (theory_read e c t d)) w)

    same : t ≡ s
    same = sym (sizes_same (layout_of e b) s (legal e b s a) (layout_of e c) t (legal e c t d) said)

    d' : judgement_of e c ≡ Ok s
    d' = d ∙ ap Ok same

    legal_c : Legal (layout_of e c) s
    legal_c = legal e c s d'

    in_sizes : SameContent (theory_in (layout_of e b) s) (theory_in (layout_of e c) s)
    in_sizes = subst (λ z. SameContent (theory_in (layout_of e b) s) (theory_in (layout_of e c) z)) same said

    origins : (r : ℕ) → r < s.rules → (rule_at (layout_of e b) s r).origin ≡ (rule_at (layout_of e c) s r).origin
    origins r h =
        ap (λ z. (rule_at (layout_of e b) z r).origin) (sym (legal e b s a).read) ∙ o r h ∙ ap (λ z. (rule_at (layout_of e c) z r).origin) legal_c.read
