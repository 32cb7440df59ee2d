-- Document 02, S-7: what a join answers, what it leaves in the output, and what its file is.
use Rattle.std.specs.Prelude.{ℕ, ◌≡◌, cond, List, ltb, eqb, length, Ok, Err}
use Rattle.logic.specs.Tests.{isnt}
use Rattle.table.specs.declared.format.Sizes.{Sizes}
use Rattle.table.specs.declared.judge.Refusal.TheVariants.{TooLarge, AtomsDiffer, ShortOutput}
use Rattle.table.specs.Refusals.{Judgement, oversize, judgement_of}
use Rattle.table.specs.declared.edition.Edition.{Edition}
use Rattle.files.specs.Contents.{Content, content_in, content_of, sizes_for, file_of}
use Rattle.writing.specs.declared.answer.WrittenNumbers.{WrittenNumbers}
use Rattle.writing.specs.Answers.{Written, numbers_of}
use Rattle.writing.specs.Output.{answer_to, output_after, Wrote}
use Rattle.joining.specs.Joining.{joined, joined_file}
use Rattle.joining.specs.Prevailing.{Join}

-- "11, 2 on the joined sizes, 12": by the sizes of both tables, the joined content, its file, and the bytes of output that are lent
unfoldable pub with_output : Sizes → Sizes → Content → List ℕ → ℕ → Judgement
with_output s t c file out =
    cond (isnt (eqb s.atoms t.atoms)) (Err AtomsDiffer)
    (cond (oversize (sizes_for c)) (Err TooLarge) (cond (ltb out (length file)) (Err ShortOutput) (Ok (sizes_for c))))

-- the join of two layouts that are legal
abbrev pub JoinedLayouts : Edition → List ℕ → Sizes → List ℕ → Sizes → List ℕ → List ℕ → Written → Type 0
JoinedLayouts e house s tour t out out' a =
    Wrote (with_output s t (joined (content_in house s) (content_in tour t)) (file_of e (joined (content_in house s) (content_in tour t))) (length out))
    (file_of e (joined (content_in house s) (content_in tour t))) out out' a

-- "Order: 1 to 7 on the house, the same on the tour", and then those
unfoldable pub call_judgement : Judgement → Judgement → Content → List ℕ → ℕ → Judgement
call_judgement (Err n) j c file out = Err n
call_judgement (Ok s) (Err n) c file out = Err n
call_judgement (Ok s) (Ok t) c file out = with_output s t c file out

-- the judgement of a call, in which "both tables are read and the result written in" one edition
abbrev pub join_judgement : Edition → List ℕ → List ℕ → ℕ → Judgement
join_judgement e house tour out =
    call_judgement (judgement_of e house) (judgement_of e tour) (joined (content_of e house) (content_of e tour)) (joined_file e house tour) out

-- What the join hands over: the answer's numbers, the output whole ("A join that is turned away leaves the output untouched; otherwise its
-- bytes past the table are untouched"), and, where a file is written, what it is.
pub record Joined (e : Edition) (house tour out out' : List ℕ) (n : WrittenNumbers) : Type 0 where
  pub answer : n ≡ numbers_of (answer_to (join_judgement e house tour (length out)) (joined_file e house tour))
  pub written : out' ≡ output_after (join_judgement e house tour (length out)) (joined_file e house tour) out
  pub file : (s : Sizes) → join_judgement e house tour (length out) ≡ Ok s → Join e house tour (joined_file e house tour)
