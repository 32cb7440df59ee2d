-- An accepted file of bytes is the file of what it says. Assumes nothing.
use Prim.Native.Nat.{ℕ, ◌+◌, ◌*◌, ◌/◌, ◌%◌, ◌<◌}
use native.Mathlib.Omega.{arith}
use mathlib.Core.Path.{◌≡◌, refl, sym, ◌∙◌, ap, subst}
use mathlib.Core.Logic.{⊎_elim}
use mathlib.Core.Bool.{false}
use mathlib.Core.List.{List}
use lib.ListN.{length, get_or}
use lib.Seq.{ext_get_or}
use Rattle.logic.proofs.Tests.{at_most}
use Rattle.table.specs.declared.format.Sizes.{Sizes}
use Rattle.std.specs.Prelude.{Ok}
use Rattle.table.specs.declared.edition.Edition.{Edition}
use Rattle.table.specs.declared.edition.Edition.TheVariants.{Old, Two}
use Rattle.table.specs.Editions.{Bytes, layout_of, unmarked}
use Rattle.table.specs.Format.{word, span_of, left, right, facts_from, rules_from, entries_from, pairs_from}
use Rattle.table.specs.Refusals.{bad_kind, judgement_of, Legal}
use Rattle.table.proofs.Legal as judged
use Rattle.table.proofs.Legal.{legal, passed, whole_length, left_in_lem, right_in_lem}
use Rattle.table.proofs.Sections.{fact_left}
use Rattle.table.proofs.Bodies.{word_inside}
use Rattle.content.proofs.Files.{ReadAlike, words_alike, layout_bytes, marked_file}
use Rattle.files.specs.Contents.{Content, content_in, content_of, fact_of, rule_of, entry_of, pair_of, sizes_for, Row, fact_row, rule_row, entry_row, pair_row, words_of, bytes_of, marked, file_of}
use Rattle.files.proofs.Saying.{sizes_say, fact_says, rule_says, entry_says, pair_says}
use Rattle.files.proofs.Reading.{bytes_length, low_byte, high_byte, word_bytes, file_sizes, file_length, fact_stands, rule_stands, entry_stands, pair_stands}
use Rattle.files.proofs.Accepting.{left_said}

-- bytes that are read as given words are those of the words
low_part : (x y w : ℕ) → x < 256 → w ≡ x + 256 * y → x ≡ w % 256
low_part x y w h e = omega arith

high_part : (x y w : ℕ) → x < 256 → w ≡ x + 256 * y → y ≡ w / 256
high_part x y w h e = omega arith

only_bytes : (b ws : List ℕ) → Bytes b → length b ≡ 2 * length ws → ((k : ℕ) → k < length ws → word b k ≡ get_or ws k 0) → b ≡ bytes_of ws
only_bytes b ws f l w = ext_get_or 0 b (bytes_of ws) (l ∙ sym (bytes_length ws)) (λ i h. byte i (omega arith))
  where
    sum : (k : ℕ) → k < length ws → get_or ws k 0 ≡ get_or b (2 * k) 0 + 256 * get_or b (2 * k + 1) 0
    sum k h = sym (w k h) ∙ word_inside b k (omega arith)

    byte : (i : ℕ) → i < 2 * length ws → get_or b i 0 ≡ get_or (bytes_of ws) i 0
    byte i h =
        let k : i / 2 < length ws = omega arith in
        ⊎_elim
        (λ d. let e : 2 * (i / 2) ≡ i = omega arith in
        subst (λ z. get_or b z 0 ≡ get_or (bytes_of ws) z 0) e (low_part _ _ _ (f (2 * (i / 2))) (sum (i / 2) k) ∙ sym (low_byte ws (i / 2))))
        (λ d. let e : 2 * (i / 2) + 1 ≡ i = omega arith in
        subst (λ z. get_or b z 0 ≡ get_or (bytes_of ws) z 0) e (high_part _ _ _ (f (2 * (i / 2))) (sum (i / 2) k) ∙ sym (high_byte ws (i / 2))))
        (at_most i (2 * (i / 2)))

-- a layout that has the rows of a content at their places
abbrev Placed : List ℕ → Sizes → ℕ → ℕ → (ℕ → Row) → Type 0
Placed b s from n w = (i : ℕ) → i < n → (left b (from + i) ≡ (w i).left) × (right b s (from + i) ≡ (w i).right)

record Laid (c : Content) (b : List ℕ) (s : Sizes) : Type 0 where
  facts : Placed b s (facts_from s) s.facts (λ i. fact_row (fact_of c i))
  rules : Placed b s (rules_from s) s.rules (λ r. rule_row (rule_of c r))
  entries : Placed b s (entries_from s) s.entries (λ i. entry_row (entry_of c i))
  pairs : Placed b s (pairs_from s) s.pairs (λ i. pair_row (pair_of c i))

laid_alike : (c : Content) (b d : List ℕ) (s : Sizes) → Laid c b s → Laid c d s → ReadAlike b d s
laid_alike c b d s p q =
    record {
      facts = λ i h. (p.facts i h).1 ∙ sym (q.facts i h).1;
      zeros = λ i h. (p.facts i h).0 ∙ sym (q.facts i h).0;
      kinds = λ r h. (p.rules r h).0 ∙ sym (q.rules r h).0;
      heads = λ r h. (p.rules r h).1 ∙ sym (q.rules r h).1;
      users = λ i h. (p.entries i h).0 ∙ sym (q.entries i h).0;
      literals = λ i h. (p.entries i h).1 ∙ sym (q.entries i h).1;
      stronger = λ i h. (p.pairs i h).0 ∙ sym (q.pairs i h).0;
      weaker = λ i h. (p.pairs i h).1 ∙ sym (q.pairs i h).1;
    }

-- the file of a content has them, and so has a legal layout, of what it says
file_laid : (c : Content) → Laid c (bytes_of (words_of c)) (sizes_for c)
file_laid c = record { facts = fact_stands c; rules = rule_stands c; entries = entry_stands c; pairs = pair_stands c }

module _ (e : Edition) (b : List ℕ) (s : Sizes) (l : Legal b s) (k : bad_kind e b s ≡ false) where
  layout_laid : Laid (content_in b s) b s
  layout_laid =
      record {
        facts = λ i h. (fact_left b s l.facts i h, sym (right_in_lem b s (facts_from s) s.facts i h) ∙ fact_says b s i);
        rules = λ r h. (sym (left_said e b s k r h), sym (right_in_lem b s (rules_from s) s.rules r h) ∙ ap (λ z. z.head.0) (rule_says b s r));
        entries = λ i h. (
          sym (left_in_lem b (entries_from s) s.entries i h) ∙ ap (λ z. z.rule) (entry_says b s i),
          sym (right_in_lem b s (entries_from s) s.entries i h) ∙ ap (λ z. z.literal.0) (entry_says b s i),
        );
        pairs = λ i h. (
          sym (left_in_lem b (pairs_from s) s.pairs i h) ∙ ap (λ z. z.stronger) (pair_says b s i),
          sym (right_in_lem b s (pairs_from s) s.pairs i h) ∙ ap (λ z. z.weaker) (pair_says b s i),
        );
      }

  abbrev words : List ℕ
  words = words_of (content_in b s)

  words_length : length words ≡ 5 + 2 * span_of s
  words_length = omega (arith, sym (bytes_length words) ∙ file_length (content_in b s) ∙ ap (λ z. 10 + 4 * span_of z) (sizes_say b s))

  only_layout : Bytes b → b ≡ bytes_of words
  only_layout f =
      only_bytes b words f (omega (arith, whole_length b s l.whole, words_length)) (λ i h.
      words_alike b (bytes_of words) s (l.read ∙ sym (file_sizes (content_in b s) ∙ sizes_say b s))
      (laid_alike (content_in b s) b (bytes_of words) s layout_laid (subst (Laid (content_in b s) (bytes_of words)) (sizes_say b s) (file_laid (content_in b s)))) i (omega (arith, words_length))
      ∙ word_bytes words i)

-- a file with its mark is its layout with the mark
marked_layout : (e : Edition) (b : List ℕ) → unmarked e b ≡ false → b ≡ marked e (layout_of e b)
unfolding layout_of marked
marked_layout Old b h = refl
marked_layout Two b h = marked_file b h

-- An edition and a content have no other accepted file.
pub only_file : (e : Edition) (b : List ℕ) (s : Sizes) → Bytes b → judgement_of e b ≡ Ok s → b ≡ file_of e (content_of e b)
only_file e b s f a =
    let p = passed e b s a in
    marked_layout e b (judged.marked e b p.whole)
    ∙ ap (marked e) (only_layout e (layout_of e b) s (legal e b s a) p.kinds (layout_bytes e b f))
    ∙ ap (λ z. file_of e (content_in (layout_of e b) z)) (sym p.read)
