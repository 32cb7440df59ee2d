-- What the two calls answer and write, number by number. Assumes nothing.
use Prim.Native.Nat.{ℕ, zero, suc, ◌≤◌, ◌<◌}
use native.Mathlib.Nat.{le_refl, le_step, le_of_suc-le, lt_irrefl, lt_of_lt_of_le, lt_of_not-le}
use native.Mathlib.Omega.{arith}
use mathlib.Core.Path.{◌≡◌, refl, sym, ◌∙◌, ap, ap₂, subst}
use mathlib.Core.Bool.{false, cond}
use mathlib.Core.List.{List, [], ◌∷◌, ◌++◌, map, map-append}
use Rattle.std.specs.Prelude.{Ok, Err}
use borrow.Author.Tests.{lt-ltb, le-ltb}
use lib.Dec.{T, leb, le→leb, leb→le}
use lib.ListN.{length, get_or, take, drop, length-map}
use lib.Seq.{sets, take-suc}
use Rattle.logic.specs.Tests.{upto}
use Rattle.logic.specs.Theory.{proper}
use Rattle.logic.specs.Parts.{smallest, parts_list}
use Rattle.logic.proofs.Tests.{false_of, of_false}
use Rattle.logic.proofs.Lists.{length_upto}
use Rattle.logic.proofs.Parts.{parts_right}
use Rattle.table.specs.declared.format.Sizes.{Sizes}
use Rattle.table.specs.declared.judge.Refusal.{Refusal}
use Rattle.table.specs.declared.judge.Refusal.TheVariants.{OutOfRange, ShortLog, ShortOutput}
use Rattle.table.specs.declared.edition.Edition.{Edition}
use Rattle.table.specs.Editions.{layout_of}
use Rattle.table.specs.Format.{theory_in, theory_of}
use Rattle.table.specs.Refusals.{Judgement, judgement_of, refused_by, Legal}
use Rattle.table.proofs.Legal.{refused_not, pass, legal, limited, ranged, proper_theory, theory_read}
use Rattle.files.specs.Contents.{Content, content_in, content_of, sizes_for, file_of}
use Rattle.files.proofs.Saying.{said}
use Rattle.writing.specs.Answers.{Written, numbers_of}
use Rattle.writing.specs.Output.{output_after, Wrote}
use Rattle.writing.proofs.Answering.{wrote_not, wrote_new}
use Rattle.writing.proofs.Appending.{written_whole}
use Rattle.parting.specs.Parting.{part_of, part_file}
use Rattle.parting.proofs.Parted.{part_of_lem}
use Rattle.parts.specs.Answers.{Listing, listing_number}
use Rattle.parts.specs.Chains.{Words}
use Rattle.parts.specs.Calls.{with_list, list_judgement, ListedLayout, Listed, with_atom, part_judgement, PartedLayout, Parted}

-- 5, 12, or the file
module _ (e : Edition) (b : List ℕ) (s : Sizes) (atom : ℕ) (out : List ℕ) where
  abbrev whole : Content
  whole = part_of (content_in b s) atom

  module _ (h : atom < s.atoms) where
    known : leb s.atoms atom ≡ false
    known = false_of _ (λ t. lt_irrefl atom (lt_of_lt_of_le h (leb→le _ _ t)))

    pub output_short : {out' : List ℕ} {a : Written} {n : ℕ} → n ≡ length (file_of e whole) → length out < n → (a ≡ Err ShortOutput) × (out' ≡ out)
        → PartedLayout e b s atom out out' a
    unfolding with_atom
    output_short g k w = wrote_not ShortOutput _ (file_of e whole) (simp (known, lt-ltb (length out) (length (file_of e whole)) (subst (λ z. length out < z) g k))) w

    pub file_whole : {out' : List ℕ} {n : ℕ} → n ≡ length (file_of e whole) → n ≤ length out → out' ≡ sets out 0 (file_of e whole) → PartedLayout e b s atom out out' (Ok n)
    unfolding with_atom
    file_whole g k f =
        let room : length (file_of e whole) ≤ length out = subst (λ z. z ≤ length out) g k in
        wrote_new (sizes_for whole) _ (file_of e whole) (simp (known, le-ltb (length out) (length (file_of e whole)) room)) (ap Ok g)
        (written_whole out (file_of e whole) room f)

-- what a table is refused by comes before what is said of the atom
table_first : (n : Refusal) (atom : ℕ) (c : Content) (file : List ℕ) (k : ℕ) → with_atom (Err n) atom c file k ≡ Err n
unfolding with_atom
table_first n atom c file k = refl

-- a call that writes a part has accepted the table and the atom
part_passed : (j : Judgement) (atom : ℕ) (c : Content) (file : List ℕ) (n : ℕ) (z : Sizes) → with_atom j atom c file n ≡ Ok z
    → (s : Sizes) × (j ≡ Ok s) × (atom < s.atoms)
unfolding with_atom
part_passed (Err k) atom c file n z f = absurd (refused_not (sym (table_first k atom c file n) ∙ f))
part_passed (Ok s) atom c file n z f =
    let (g, _) = pass (leb s.atoms atom) OutOfRange _ z f in (s, refl, lt_of_not-le (λ h. of_false _ g (le→leb _ _ h)))

module _ (e : Edition) (b : List ℕ) (atom : ℕ) (out : List ℕ) where
  parted : {out' : List ℕ} (a : Written) → Wrote (part_judgement e b atom (length out)) (part_file e b atom) out out' a → Parted e b atom out out' (numbers_of a)
  parted a w =
      record {
        answer = ap numbers_of w.answer;
        written = w.output;
        file = λ z f. let (s, j, h) = part_passed (judgement_of e b) atom (part_of (content_of e b) atom) (part_file e b atom) (length out) z f in part_of_lem e b s atom j h;
      }

  pub parted_by : (s : Sizes) (l : List ℕ) {out' : List ℕ} (a : Written) → judgement_of e b ≡ Ok s → l ≡ layout_of e b → PartedLayout e l s atom out out' a
      → Parted e b atom out out' (numbers_of a)
  parted_by s l {out'} a j f w =
      parted a
      (subst (λ i. Wrote (with_atom i atom (part_of (content_of e b) atom) (part_file e b atom) (length out)) (part_file e b atom) out out' a) (sym j)
      (subst (λ z. Wrote (with_atom (Ok s) atom (part_of z atom) (file_of e (part_of z atom)) (length out)) (file_of e (part_of z atom)) out out' a) (said e b l s j f) w))

-- the first words of a list, one by one
take_each : (f : ℕ → ℕ) (l : List ℕ) (n : ℕ) → n ≤ length l → ((i : ℕ) → i < n → get_or l i 0 ≡ f i) → take n l ≡ map f (upto n)
unfolding upto
take_each f l zero h e = refl
take_each f l (suc n) h e =
    take-suc l n 0 h
    ∙ ap₂ (λ k x. k ++ (x ∷ [])) (take_each f l n (le_of_suc-le h) (λ i k. e i (le_step k))) (e n (le_refl (suc n))) ∙ sym (map-append f (upto n) (n ∷ []))

-- 9, or the list
module _ (b : List ℕ) (s : Sizes) (list : List ℕ) where
  pub list_whole : (words : List ℕ) {list' : List ℕ} {n : ℕ} → Legal b s → Words (theory_in b s) words → n ≡ s.atoms → n ≤ length list → list' ≡ take n words ++ drop n list
      → ListedLayout b s list list' (Ok tt)
  unfolding with_list listing_number refused_by output_after theory_in
  list_whole words {list'} l w e h f =
      let t = le-ltb (length list) s.atoms (subst (λ z. z ≤ length list) e h) in (
        sym (ap (λ x. refused_by (cond x (Err ShortLog) (Ok s))) t),
        f ∙ ap (λ z. take z words ++ drop z list) e
            ∙ ap₂ (λ k z. k ++ drop z list) (take_each (smallest (theory_in b s)) words s.atoms few w.each) (sym (length-map (upto s.atoms) (smallest (theory_in b s)) ∙ length_upto s.atoms))
            ∙ sym (ap (λ x. output_after (cond x (Err ShortLog) (Ok s)) (parts_list (theory_in b s)) list) t),
      )
    where
      few : s.atoms ≤ length words
      few = omega (arith, w.size, (limited s l.limits).atoms)

-- a call that lists has accepted the table
list_passed : (j : Judgement) (n : ℕ) (z : Sizes) → with_list j n ≡ Ok z → (s : Sizes) × (j ≡ Ok s)
unfolding with_list
list_passed (Err k) n z f = absurd (refused_not f)
list_passed (Ok s) n z f = (s, refl)

module _ (e : Edition) (b list : List ℕ) where
  accepted_proper : (s : Sizes) → judgement_of e b ≡ Ok s → T (proper (theory_of e b))
  accepted_proper s j = subst (λ d. T (proper d)) (theory_read e b s j) (proper_theory (layout_of e b) s (ranged (layout_of e b) s (legal e b s j).ranges))

  listed : {list' : List ℕ} {n : ℕ} → n ≡ refused_by (list_judgement e b (length list)) → list' ≡ output_after (list_judgement e b (length list)) (parts_list (theory_of e b)) list
      → Listed e b list list' n
  listed f g =
      record {
        answer = f;
        written = g;
        parts = λ z h. let (s, j) = list_passed (judgement_of e b) (length list) z h in parts_right (theory_of e b) (accepted_proper s j);
      }

  pub listed_by : (s : Sizes) (l : List ℕ) {list' : List ℕ} (a : Listing) → judgement_of e b ≡ Ok s → l ≡ layout_of e b → ListedLayout l s list list' a
      → Listed e b list list' (listing_number a)
  listed_by s l a j f (g, h) =
      listed (g ∙ ap (λ i. refused_by (with_list i (length list))) (sym j))
      (h ∙ ap₂ (λ i d. output_after (with_list i (length list)) (parts_list d) list) (sym j) (ap (λ z. theory_in z s) f ∙ theory_read e b s j))
