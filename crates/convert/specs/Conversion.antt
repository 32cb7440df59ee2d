-- Document 02, S-5: "A converter goes from old layout to edition two with origin 0, and back, each way giving the unique file with the same A,
-- facts, kinds, heads, antecedents and pairs."
use Rattle.std.specs.Prelude.{ℕ, ◌<◌, ◌≡◌, Bool, false, cond, List, ltb, length, Ok, Err}
use Rattle.logic.specs.Tests.{some}
use Rattle.logic.specs.Content.{SameContent}
use Rattle.table.specs.declared.format.Sizes.{Sizes}
use Rattle.table.specs.declared.format.Origin.TheVariants.{None}
use Rattle.table.specs.declared.judge.Refusal.TheVariants.{ShortLog, HasOrigin}
use Rattle.table.specs.Refusals.{Judgement, judgement_of}
use Rattle.table.specs.declared.edition.Edition.{Edition}
use Rattle.table.specs.declared.edition.Edition.TheVariants.{Old, Two}
use Rattle.table.specs.Editions.{Bytes, layout_of}
use Rattle.table.specs.Format.{origin_number, rule_at, origin_at, theory_of}
use Rattle.files.specs.Contents.{content_of, file_of}
use Rattle.writing.specs.declared.answer.WrittenNumbers.{WrittenNumbers}
use Rattle.writing.specs.Answers.{numbers_of}
use Rattle.writing.specs.Output.{answer_to, output_after}

-- the edition that a table is written in
unfoldable pub other : Edition → Edition
other Old = Two
other Two = Old

-- The new file: what the table says, in the other edition. Edition two says every origin, and the old layout only 0.
abbrev pub converted : Edition → List ℕ → List ℕ
converted e b = file_of (other e) (content_of e b)

-- 10: "a non-zero origin on the way back"
unfoldable pub has_origin : List ℕ → Sizes → Bool
has_origin b s = some s.rules (λ r. ltb 0 (origin_number (rule_at b s r).origin))

unfoldable pub lost : Edition → List ℕ → Sizes → Bool
lost Old b s = false
lost Two b s = has_origin (layout_of Two b) s

-- "A converter's output shorter than the new file is 9, after 1 to 7 and before 10": by the sizes of the table, whether an origin would be lost,
-- the new file, and the bytes of output that are lent
unfoldable pub with_output : Sizes → Bool → List ℕ → ℕ → Judgement
with_output s lost new out = cond (ltb out (length new)) (Err ShortLog) (cond lost (Err HasOrigin) (Ok s))

-- the judgement of a call: of its table, then of the output
unfoldable pub call_judgement : Judgement → Edition → List ℕ → ℕ → Judgement
call_judgement (Ok s) e b out = with_output s (lost e b s) (converted e b) out
call_judgement (Err n) e b out = Err n

-- A file that says what a table says, in the other edition and with origin 0: it is accepted with the same sizes, it is the only one, and
-- converted back it is the table. (In the old layout every accepted file says origin 0: `old_origins` in content's proofs/Origins.antt.)
pub record Conversion (e : Edition) (b : List ℕ) (s : Sizes) (new : List ℕ) : Type 0 where
  pub accepted : judgement_of (other e) new ≡ Ok s
  pub content : SameContent (theory_of e b) (theory_of (other e) new)
  pub origins : (r : ℕ) → origin_at (other e) new r ≡ None
  pub only : (f : List ℕ) (t : Sizes) → Bytes f → judgement_of (other e) f ≡ Ok t → SameContent (theory_of e b) (theory_of (other e) f)
      → ((r : ℕ) → r < t.rules → origin_at (other e) f r ≡ None) → f ≡ new
  pub back : converted (other e) new ≡ b

-- What the converter hands over: the answer's numbers, the output whole, and, where a file is written, what it is.
pub record Converted (e : Edition) (b out out' : List ℕ) (n : WrittenNumbers) : Type 0 where
  pub answer : n ≡ numbers_of (answer_to (call_judgement (judgement_of e b) e b (length out)) (converted e b))
  pub written : out' ≡ output_after (call_judgement (judgement_of e b) e b (length out)) (converted e b) out
  pub file : (s : Sizes) → call_judgement (judgement_of e b) e b (length out) ≡ Ok s → Conversion e b s (converted e b)
