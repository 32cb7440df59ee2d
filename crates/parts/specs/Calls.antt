-- Document 02, S-8: what the two calls answer, what they leave in the list and the output, and what that is.
use Rattle.std.specs.Prelude.{ℕ, ◌≡◌, cond, List, ltb, leb, length, Ok, Err}
use Rattle.logic.specs.Parts.{parts_list, Parts}
use Rattle.table.specs.declared.format.Sizes.{Sizes}
use Rattle.table.specs.declared.judge.Refusal.TheVariants.{OutOfRange, ShortLog, ShortOutput}
use Rattle.table.specs.declared.edition.Edition.{Edition}
use Rattle.table.specs.Format.{theory_in, theory_of}
use Rattle.table.specs.Refusals.{Judgement, judgement_of, refused_by}
use Rattle.files.specs.Contents.{Content, content_in, content_of, sizes_for, file_of}
use Rattle.writing.specs.declared.answer.WrittenNumbers.{WrittenNumbers}
use Rattle.writing.specs.Answers.{Written, numbers_of}
use Rattle.writing.specs.Output.{answer_to, output_after, Wrote}
use Rattle.parting.specs.Parting.{part_of, part_file, Part}
use Rattle.parts.specs.Answers.{Listing, listing_number}

-- "a list below A words gets 9, after 1 to 7"
unfoldable pub with_list : Judgement → ℕ → Judgement
with_list (Err n) words = Err n
with_list (Ok s) words = cond (ltb words s.atoms) (Err ShortLog) (Ok s)

abbrev pub list_judgement : Edition → List ℕ → ℕ → Judgement
list_judgement e b words = with_list (judgement_of e b) words

-- the list of a layout that is legal
abbrev pub ListedLayout : List ℕ → Sizes → List ℕ → List ℕ → Listing → Type 0
ListedLayout b s list list' a =
    (listing_number a ≡ refused_by (with_list (Ok s) (length list)))
    × (list' ≡ output_after (with_list (Ok s) (length list)) (parts_list (theory_in b s)) list)

-- What the call for the list hands over: the answer's number, the list whole ("Refusals write nothing, and words .. past the result are
-- untouched"), and, where it is written, what it is.
pub record Listed (e : Edition) (b list list' : List ℕ) (n : ℕ) : Type 0 where
  pub answer : n ≡ refused_by (list_judgement e b (length list))
  pub written : list' ≡ output_after (list_judgement e b (length list)) (parts_list (theory_of e b)) list
  pub parts : (s : Sizes) → list_judgement e b (length list) ≡ Ok s → Parts (theory_of e b) (parts_list (theory_of e b))

-- "After 1 to 7 on the table it gets 5 if that atom isn't below A, then 12 for a short output."
unfoldable pub with_atom : Judgement → ℕ → Content → List ℕ → ℕ → Judgement
with_atom (Err n) atom c file out = Err n
with_atom (Ok s) atom c file out =
    cond (leb s.atoms atom) (Err OutOfRange) (cond (ltb out (length file)) (Err ShortOutput) (Ok (sizes_for c)))

abbrev pub part_judgement : Edition → List ℕ → ℕ → ℕ → Judgement
part_judgement e b atom out = with_atom (judgement_of e b) atom (part_of (content_of e b) atom) (part_file e b atom) out

-- the part of an atom of a layout that is legal
abbrev pub PartedLayout : Edition → List ℕ → Sizes → ℕ → List ℕ → List ℕ → Written → Type 0
PartedLayout e b s atom out out' a =
    Wrote (with_atom (Ok s) atom (part_of (content_in b s) atom) (file_of e (part_of (content_in b s) atom)) (length out))
    (file_of e (part_of (content_in b s) atom)) out out' a

-- What the call for a part's own table hands over: the answer's numbers, the output whole ("Refusals write nothing, and .. bytes past the
-- result are untouched"), and, where a file is written, what it is.
pub record Parted (e : Edition) (b : List ℕ) (atom : ℕ) (out out' : List ℕ) (n : WrittenNumbers) : Type 0 where
  pub answer : n ≡ numbers_of (answer_to (part_judgement e b atom (length out)) (part_file e b atom))
  pub written : out' ≡ output_after (part_judgement e b atom (length out)) (part_file e b atom) out
  pub file : (s : Sizes) → part_judgement e b atom (length out) ≡ Ok s → Part e b atom (part_file e b atom)
