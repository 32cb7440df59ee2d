-- What the new file is: document 02, S-5, "the unique file with the same A, facts, kinds, heads, antecedents and pairs". Assumes nothing.
use Prim.Native.Nat.{ℕ, zero, suc, ◌<◌}
use native.Mathlib.Omega.{arith}
use mathlib.Core.Path.{◌≡◌, refl, sym, ◌∙◌, ap, subst}
use mathlib.Core.Bool.{false}
use mathlib.Core.List.{List, ◌∷◌}
use lib.Dec.{ltb, lt→ltb}
use lib.ListN.{length}
use Rattle.logic.specs.Tests.{isnt}
use Rattle.logic.specs.Content.{SameContent}
use Rattle.logic.proofs.Tests.{of_false, some_intro}
use Rattle.logic.proofs.Contents.{content_refl, content_sym}
use Rattle.table.specs.declared.format.Sizes.{Sizes}
use Rattle.table.specs.declared.format.Origin.TheVariants.{None}
use Rattle.table.specs.declared.judge.Refusal.{Refusal}
use Rattle.table.specs.declared.judge.Refusal.TheVariants.{ShortLog, HasOrigin}
use Rattle.table.specs.Refusals.{Judgement, judgement_of}
use Rattle.std.specs.Prelude.{Ok, Err}
use Rattle.table.specs.declared.edition.Edition.{Edition}
use Rattle.table.specs.declared.edition.Edition.TheVariants.{Old, Two}
use Rattle.table.specs.Editions.{Bytes, layout_of, unmarked}
use Rattle.table.specs.Format.{origin_number, rule_at, origin_at, theory_of}
use Rattle.table.proofs.Legal.{refused_not, accepted_one, pass, passed, accepted, legal}
use Rattle.content.proofs.Files.{layout_bytes, one_file}
use Rattle.content.proofs.Origins.{passed_as, two_kinds, plain_kinds, old_origins}
use Rattle.files.specs.Contents.{content_of, marked, file_of}
use Rattle.files.proofs.Reading.{file_layout, file_says}
use Rattle.files.proofs.Only.{only_file}
use Rattle.writing.specs.Answers.{Written, numbers_of}
use Rattle.writing.specs.Output.{Wrote}
use Rattle.writing.proofs.Answering.{wrote_not}
use Rattle.convert.specs.Conversion.{other, converted, has_origin, lost, with_output, call_judgement, Conversion, Converted}

-- What is copied: the layout, and before it 2 in edition two. It is the new file.
abbrev copied : Edition → List ℕ → List ℕ
copied e b = marked (other e) (layout_of e b)

converted_copied : (e : Edition) (b : List ℕ) (s : Sizes) → Bytes b → judgement_of e b ≡ Ok s → converted e b ≡ copied e b
converted_copied e b s f a = ap (marked (other e)) (sym (ap (layout_of e) (only_file e b s f a) ∙ file_layout e (content_of e b)))

-- no origin is lost
no_origin : (l : List ℕ) (s : Sizes) → has_origin l s ≡ false → (r : ℕ) → r < s.rules → origin_number (rule_at l s r).origin ≡ 0
unfolding has_origin
no_origin l s f r h = none _ (λ p. of_false _ f (some_intro s.rules _ r h (lt→ltb 0 _ p)))
  where
    none : (n : ℕ) → (0 < n → ⊥) → n ≡ 0
    none zero g = refl
    none (suc n) g = absurd (g (omega arith))

-- it is accepted, where no origin is lost
copied_accepted : (e : Edition) (b : List ℕ) (s : Sizes) → judgement_of e b ≡ Ok s → lost e b s ≡ false → judgement_of (other e) (copied e b) ≡ Ok s
unfolding other lost layout_of marked unmarked isnt
copied_accepted Old b s a f =
    accepted Two (2 ∷ b) s (passed_as Old Two b (2 ∷ b) s (passed Old b s a) refl refl (two_kinds b s (passed Old b s a).kinds))
copied_accepted Two b s a f =
    accepted Old (layout_of Two b) s (passed_as Two Old b (layout_of Two b) s (passed Two b s a) refl refl
    (plain_kinds (layout_of Two b) s (passed Two b s a).kinds (no_origin (layout_of Two b) s f)))

-- the layout is the same, and so is what is said
copied_theory : (e : Edition) (b : List ℕ) → theory_of e b ≡ theory_of (other e) (copied e b)
unfolding other layout_of marked
copied_theory Old b = refl
copied_theory Two b = refl

copied_origins : (e : Edition) (b : List ℕ) (s : Sizes) → judgement_of e b ≡ Ok s → lost e b s ≡ false → (r : ℕ) → origin_at (other e) (copied e b) r ≡ None
unfolding other layout_of marked
copied_origins Old b s a f r = ap (λ z. (rule_at b z r).origin) (legal Old b s a).read ∙ old_origins b s a r
copied_origins Two b s a f r =
    let n : judgement_of Old (layout_of Two b) ≡ Ok s = copied_accepted Two b s a f in
    ap (λ z. (rule_at (layout_of Two b) z r).origin) (legal Old (layout_of Two b) s n).read ∙ old_origins (layout_of Two b) s n r

copied_bytes : (e : Edition) (b : List ℕ) → Bytes b → Bytes (copied e b)
unfolding other layout_of marked
copied_bytes Old b f = behind
  where
    behind : Bytes (2 ∷ b)
    behind zero = omega arith
    behind (suc i) = f i
copied_bytes Two b f = layout_bytes Two b f

-- there and back
other_back : (e : Edition) → other (other e) ≡ e
unfolding other
other_back Old = refl
other_back Two = refl

converted_back : (e : Edition) (b : List ℕ) (s : Sizes) → Bytes b → judgement_of e b ≡ Ok s → converted (other e) (converted e b) ≡ b
converted_back e b s f a =
    ap (file_of (other (other e))) (file_says (other e) (content_of e b)) ∙ ap (λ d. file_of d (content_of e b)) (other_back e) ∙ sym (only_file e b s f a)

pub conversion : (e : Edition) (b : List ℕ) (s : Sizes) → Bytes b → judgement_of e b ≡ Ok s → lost e b s ≡ false → Conversion e b s (converted e b)
conversion e b s bytes a f =
    let same : copied e b ≡ converted e b = sym (converted_copied e b s bytes a) in
    subst (Conversion e b s) same (record {
      accepted = copied_accepted e b s a f;
      content = subst (λ d. SameContent (theory_of e b) d) (copied_theory e b) (content_refl (theory_of e b));
      origins = copied_origins e b s a f;
      only =
          λ g t h k w o. one_file (other e) g (copied e b) t s h (copied_bytes e b bytes) k (copied_accepted e b s a f)
          (subst (λ d. SameContent (theory_of (other e) g) d) (copied_theory e b) (content_sym w))
          (λ r l. o r l ∙ sym (copied_origins e b s a f r));
      back = ap (converted (other e)) same ∙ converted_back e b s bytes a;
    })

-- a call that accepts has accepted its table, and loses no origin
call_passed : (j : Judgement) (e : Edition) (b : List ℕ) (n : ℕ) (s : Sizes) → call_judgement j e b n ≡ Ok s → (j ≡ Ok s) × (lost e b s ≡ false)
unfolding call_judgement with_output
call_passed (Err k) e b n s f = absurd (refused_not f)
call_passed (Ok t) e b n s f =
    let (_, g) = pass (ltb n (length (converted e b))) ShortLog _ s f in
    let (h, k) = pass (lost e b t) HasOrigin (Ok t) s g in
    (k, subst (λ z. lost e b z ≡ false) (accepted_one k) h)

-- what is handed over, by what was written
pub converted_by : (e : Edition) (b out out' : List ℕ) (a : Written) → Bytes b → Wrote (call_judgement (judgement_of e b) e b (length out)) (converted e b) out out' a
    → Converted e b out out' (numbers_of a)
converted_by e b out out' a f w =
    record {
      answer = ap numbers_of w.answer;
      written = w.output;
      file = λ s c. let (g, h) = call_passed (judgement_of e b) e b (length out) s c in conversion e b s f g h;
    }

module _ (e : Edition) (b out out' : List ℕ) (a : Written) (f : Bytes b) where
  pub converted_not : (n : Refusal) → judgement_of e b ≡ Err n → (a ≡ Err n) × (out' ≡ out) → Converted e b out out' (numbers_of a)
  unfolding call_judgement
  converted_not n h w =
      converted_by e b out out' a f (wrote_not n _ (converted e b) (ap (λ i. call_judgement i e b (length out)) h) w)

  -- by the sizes and the layout of a table that is accepted, in each direction
  module _ (s : Sizes) (l : List ℕ) (g : judgement_of e b ≡ Ok s) (k : l ≡ layout_of e b) where
    converted_file : Wrote (with_output s (lost e b s) (copied e b) (length out)) (copied e b) out out' a → Converted e b out out' (numbers_of a)
    unfolding call_judgement
    converted_file w =
        converted_by e b out out' a f (subst (λ j. Wrote (call_judgement j e b (length out)) (converted e b) out out' a) (sym g)
        (subst (λ z. Wrote (with_output s (lost e b s) z (length out)) z out out' a) (sym (converted_copied e b s f g)) w))

    pub converted_two : e ≡ Old → Wrote (with_output s false (2 ∷ l) (length out)) (2 ∷ l) out out' a → Converted e b out out' (numbers_of a)
    unfolding other lost marked
    converted_two h w =
        converted_file (subst (λ d. Wrote (with_output s (lost d b s) (copied d b) (length out)) (copied d b) out out' a) (sym h)
        (subst (λ z. Wrote (with_output s false (2 ∷ z) (length out)) (2 ∷ z) out out' a) (k ∙ ap (λ d. layout_of d b) h) w))

    pub converted_old : e ≡ Two → Wrote (with_output s (has_origin l s) l (length out)) l out out' a → Converted e b out out' (numbers_of a)
    unfolding other lost marked
    converted_old h w =
        converted_file (subst (λ d. Wrote (with_output s (lost d b s) (copied d b) (length out)) (copied d b) out out' a) (sym h)
        (subst (λ z. Wrote (with_output s (has_origin z s) z (length out)) z out out' a) (k ∙ ap (λ d. layout_of d b) h) w))
