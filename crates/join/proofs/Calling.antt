-- What a join answers and writes, number by number. Assumes nothing.
use Prim.Native.Nat.{ℕ, ◌≤◌, ◌<◌}
use mathlib.Core.Path.{◌≡◌, refl, sym, ◌∙◌, ap, ap₂, subst}
use mathlib.Core.Logic.{⊎_elim}
use mathlib.Core.Bool.{Bool, true, false}
use mathlib.Core.List.{List}
use borrow.Author.Tests.{lt-ltb, le-ltb, ltb-false}
use lib.Dec.{T, ltb, eqb, eqb→eq, eqb_refl}
use lib.ListN.{length}
use lib.Seq.{sets}
use Rattle.logic.specs.Tests.{◌or◌, isnt}
use Rattle.logic.proofs.Tests.{true_of, false_of, isnt_intro, isnt_elim, of_false, test_cases}
use Rattle.table.specs.declared.format.Sizes.{Sizes}
use Rattle.table.specs.declared.judge.Refusal.{Refusal}
use Rattle.table.specs.declared.judge.Refusal.TheVariants.{TooLarge, AtomsDiffer, ShortOutput}
use Rattle.table.specs.Refusals.{Judgement, oversize, judgement_of, Legal}
use Rattle.std.specs.Prelude.{Ok, Err}
use Rattle.table.specs.declared.edition.Edition.{Edition}
use Rattle.table.specs.Editions.{layout_of}
use Rattle.table.proofs.Legal.{refused_not, pass, or_fails, limited}
use Rattle.files.specs.Contents.{Content, content_in, content_of, sizes_for, file_of}
use Rattle.files.proofs.Saying.{said}
use Rattle.writing.specs.Answers.{Written, numbers_of}
use Rattle.writing.specs.Output.{Wrote}
use Rattle.writing.proofs.Answering.{wrote_not, wrote_new}
use Rattle.writing.proofs.Appending.{written_whole}
use Rattle.joining.specs.Joining.{joined, joined_file}
use Rattle.joining.proofs.Joins.{join_of}
use Rattle.join.specs.declared.totals.Totals.{Totals}
use Rattle.join.specs.Written.{Counts}
use Rattle.join.specs.Calls.{with_output, call_judgement, join_judgement, JoinedLayouts, Joined}
use Rattle.join.proofs.Assembling.{facts_few}

-- of sizes with few atoms and facts three can be too large
three_limits : (z : Sizes) → ltb 512 z.atoms ≡ false → ltb 1024 z.facts ≡ false → oversize z ≡ (ltb 1024 z.rules or (ltb 4096 z.entries or ltb 2048 z.pairs))
unfolding oversize ◌or◌
three_limits z a f = simp (a, f)

-- 2 on the joined sizes, by the three that can be too large
module _ (b : List ℕ) (s : Sizes) (c : List ℕ) (t : Sizes) (l : Legal b s) {n : Totals} (w : Counts (joined (content_in b s) (content_in c t)) n) where
  large_is : oversize (sizes_for (joined (content_in b s) (content_in c t))) ≡ (ltb 1024 n.rules or (ltb 4096 n.entries or ltb 2048 n.pairs))
  large_is =
      three_limits (sizes_for (joined (content_in b s) (content_in c t))) (le-ltb 512 s.atoms (limited s l.limits).atoms) (le-ltb 1024 _ (facts_few b s c t l refl))
      ∙ ap₂ (λ r k. ltb 1024 r or k) (sym w.1) (ap₂ (λ e p. ltb 4096 e or ltb 2048 p) (sym w.2) (sym w.3))

  pub too_many : {x : Bool} → x ≡ (ltb 1024 n.rules or (ltb 4096 n.entries or ltb 2048 n.pairs)) → x ≡ true → oversize (sizes_for (joined (content_in b s) (content_in c t))) ≡ true
  too_many e f = large_is ∙ sym e ∙ f

  pub few_enough : {x : Bool} → x ≡ (ltb 1024 n.rules or (ltb 4096 n.entries or ltb 2048 n.pairs)) → x ≡ false
      → (oversize (sizes_for (joined (content_in b s) (content_in c t))) ≡ false) × (n.facts ≤ 1024) × (n.rules ≤ 1024) × (n.entries ≤ 4096) × (n.pairs ≤ 2048)
  few_enough e f =
      let (r, k) = or_fails (ltb 1024 n.rules) (ltb 4096 n.entries or ltb 2048 n.pairs) (sym e ∙ f) in
      let (m, p) = or_fails (ltb 4096 n.entries) (ltb 2048 n.pairs) k in
      (large_is ∙ sym e ∙ f, facts_few b s c t l w.0, ltb-false _ _ r, ltb-false _ _ m, ltb-false _ _ p)

  sizes_are : (z : Sizes) → (z.atoms ≡ s.atoms) × (z.facts ≡ n.facts) × (z.rules ≡ n.rules) × (z.entries ≡ n.entries) × (z.pairs ≡ n.pairs)
      → z ≡ sizes_for (joined (content_in b s) (content_in c t))
  sizes_are z (a, f, r, e, p) = λ k. record { atoms = a k; facts = (f ∙ w.0) k; rules = (r ∙ w.1) k; entries = (e ∙ w.2) k; pairs = (p ∙ w.3) k }

  -- what is known of sizes that fit
  pub sized : (z : Sizes) {x : Bool} → x ≡ (ltb 1024 n.rules or (ltb 4096 n.entries or ltb 2048 n.pairs)) → x ≡ false
      → (z.atoms ≡ s.atoms) × (z.facts ≡ n.facts) × (z.rules ≡ n.rules) × (z.entries ≡ n.entries) × (z.pairs ≡ n.pairs)
      → (z ≡ sizes_for (joined (content_in b s) (content_in c t))) × (oversize z ≡ false)
  sized z e f g = let h = sizes_are z g in (h, subst (λ y. oversize y ≡ false) (sym h) (few_enough e f).0)

-- 11, 2, 12, or the file
module _ (e : Edition) (b : List ℕ) (s : Sizes) (c : List ℕ) (t : Sizes) (out : List ℕ) where
  abbrev whole : Content
  whole = joined (content_in b s) (content_in c t)

  pub atoms_differ : {out' : List ℕ} {a : Written} → (s.atoms ≡ t.atoms → ⊥) → (a ≡ Err AtomsDiffer) × (out' ≡ out) → JoinedLayouts e b s c t out out' a
  unfolding with_output
  atoms_differ n w = wrote_not AtomsDiffer _ (file_of e whole) (simp (true_of (isnt (eqb s.atoms t.atoms)) (isnt_intro _ (λ u. n (eqb→eq _ _ u))))) w

  module _ (same : s.atoms ≡ t.atoms) where
    agreed : isnt (eqb s.atoms t.atoms) ≡ false
    agreed = false_of _ (λ u. isnt_elim _ u (subst (λ z. T (eqb s.atoms z)) same (eqb_refl s.atoms)))

    pub sizes_large : {out' : List ℕ} {a : Written} → oversize (sizes_for whole) ≡ true → (a ≡ Err TooLarge) × (out' ≡ out) → JoinedLayouts e b s c t out out' a
    unfolding with_output
    sizes_large f w = wrote_not TooLarge _ (file_of e whole) (simp (agreed, f)) w

    module _ (z : Sizes) (known : z ≡ sizes_for whole) (small : oversize z ≡ false) where
      fit : oversize (sizes_for whole) ≡ false
      fit = subst (λ y. oversize y ≡ false) known small

      pub output_short : {out' : List ℕ} {a : Written} {n : ℕ} → n ≡ length (file_of e whole) → length out < n → (a ≡ Err ShortOutput) × (out' ≡ out)
          → JoinedLayouts e b s c t out out' a
      unfolding with_output
      output_short g h w = wrote_not ShortOutput _ (file_of e whole) (simp (agreed, fit, lt-ltb (length out) (length (file_of e whole)) (subst (λ z. length out < z) g h))) w

      pub file_whole : {out' : List ℕ} {n : ℕ} → n ≡ length (file_of e whole) → n ≤ length out → out' ≡ sets out 0 (file_of e whole) → JoinedLayouts e b s c t out out' (Ok n)
      unfolding with_output
      file_whole g h f =
          let room : length (file_of e whole) ≤ length out = subst (λ z. z ≤ length out) g h in
          wrote_new (sizes_for whole) _ (file_of e whole) (simp (agreed, fit, le-ltb (length out) (length (file_of e whole)) room)) (ap Ok g)
          (written_whole out (file_of e whole) room f)

-- of two tables
module _ (e : Edition) (house tour out : List ℕ) where
  pub both_accepted : (s t : Sizes) (b c : List ℕ) {out' : List ℕ} {a : Written} → judgement_of e house ≡ Ok s → judgement_of e tour ≡ Ok t
      → b ≡ layout_of e house → c ≡ layout_of e tour → JoinedLayouts e b s c t out out' a → Wrote (join_judgement e house tour (length out)) (joined_file e house tour) out out' a
  unfolding call_judgement
  both_accepted s t b c {out'} {a} h k f g w =
      subst (λ j. Wrote j (joined_file e house tour) out out' a)
      (sym (ap₂ (λ i j. call_judgement i j (joined (content_of e house) (content_of e tour)) (joined_file e house tour) (length out)) h k))
      (subst (λ z. Wrote (with_output s t z (file_of e z) (length out)) (file_of e z) out out' a) (ap₂ joined (said e house b s h f) (said e tour c t k g)) w)

  pub tour_refused : (s : Sizes) (n : Refusal) {out' : List ℕ} {a : Written} → judgement_of e house ≡ Ok s → judgement_of e tour ≡ Err n
      → (a ≡ Err n) × (out' ≡ out) → Wrote (join_judgement e house tour (length out)) (joined_file e house tour) out out' a
  unfolding call_judgement
  tour_refused s n h k w =
      wrote_not n _ (joined_file e house tour) (ap₂ (λ i j. call_judgement i j (joined (content_of e house) (content_of e tour)) (joined_file e house tour) (length out)) h k) w

  pub house_refused : (n : Refusal) {out' : List ℕ} {a : Written} → judgement_of e house ≡ Err n
      → (a ≡ Err n) × (out' ≡ out) → Wrote (join_judgement e house tour (length out)) (joined_file e house tour) out out' a
  unfolding call_judgement
  house_refused n h w =
      wrote_not n _ (joined_file e house tour) (ap (λ i. call_judgement i (judgement_of e tour) (joined (content_of e house) (content_of e tour)) (joined_file e house tour) (length out)) h) w

  -- a call that writes has accepted both tables, their atom counts and the joined sizes
  call_passed : (i j : Judgement) (c : Content) (file : List ℕ) (n : ℕ) (z : Sizes) → call_judgement i j c file n ≡ Ok z
      → (s : Sizes) × (t : Sizes) × (i ≡ Ok s) × (j ≡ Ok t) × (s.atoms ≡ t.atoms) × (oversize (sizes_for c) ≡ false)
  unfolding call_judgement with_output
  call_passed (Err k) j c file n z f = absurd (refused_not f)
  call_passed (Ok s) (Err k) c file n z f = absurd (refused_not f)
  call_passed (Ok s) (Ok t) c file n z f =
      let (g, h) = pass (isnt (eqb s.atoms t.atoms)) AtomsDiffer _ z f in
      let (k, _) = pass (oversize (sizes_for c)) TooLarge _ z h in
      (s, t, refl, refl, ⊎_elim (λ u. eqb→eq _ _ u) (λ u. absurd (of_false _ g (isnt_intro _ u))) (test_cases (eqb s.atoms t.atoms)), k)

  pub joined_by : {out' : List ℕ} (a : Written) → Wrote (join_judgement e house tour (length out)) (joined_file e house tour) out out' a → Joined e house tour out out' (numbers_of a)
  joined_by a w =
      record {
        answer = ap numbers_of w.answer;
        written = w.output;
        file = λ z f.
            let (s, t, h, k, same, fit) = call_passed (judgement_of e house) (judgement_of e tour) (joined (content_of e house) (content_of e tour)) (joined_file e house tour) (length out) z f in
            join_of e house tour s t h k same fit;
      }
