-- Conclusions and price depend neither on the origins of rules nor on the edition (document 02, S-5): two accepted tables that say the same have
-- the same run. The judgement and the theory are one (table's `same_tables`), and the record of a run has nothing else of a table, in
-- every reading. Assumes nothing.
use Prim.Native.Nat.{ℕ}
use mathlib.Core.Path.{◌≡◌, sym, ◌∙◌, subst}
use mathlib.Core.List.{List}
use Rattle.logic.specs.Theory.{Theory}
use Rattle.logic.specs.Content.{SameContent}
use Rattle.table.specs.declared.format.Sizes.{Sizes}
use Rattle.table.specs.Refusals.{Judgement}
use Rattle.std.specs.Prelude.{Ok}
use Rattle.table.specs.declared.edition.Edition.{Edition}
use Rattle.table.specs.Format.{theory_of}
use Rattle.table.specs.Refusals.{judgement_of}
use Rattle.content.proofs.Contents.{same_tables}
use Rattle.engine.specs.declared.reading.Reading.{Reading}
use Rattle.engine.specs.declared.answer.Numbers.{Numbers}
use Rattle.engine.specs.Answers.{Ran}

-- a run is determined: its numbers and both buffers
pub one_run : {m : Reading} {j : Judgement} {d : Theory} {budget : ℕ} {log log₁ log₂ scratch scratch₁ scratch₂ : List ℕ} {n k : Numbers} → Ran m j d budget log log₁ scratch scratch₁ n
    → Ran m j d budget log log₂ scratch scratch₂ k → (n ≡ k) × (log₁ ≡ log₂) × (scratch₁ ≡ scratch₂)
one_run r q = (r.answer ∙ sym q.answer, r.written ∙ sym q.written, r.cleared ∙ sym q.cleared)

pub same_run : (m : Reading) (e d : Edition) (b c : List ℕ) (s t : Sizes) → judgement_of e b ≡ Ok s → judgement_of d c ≡ Ok t → SameContent (theory_of e b) (theory_of d c)
    → (budget : ℕ) (log log₁ log₂ scratch scratch₁ scratch₂ : List ℕ) (n k : Numbers) → Ran m (judgement_of e b) (theory_of e b) budget log log₁ scratch scratch₁ n
    → Ran m (judgement_of d c) (theory_of d c) budget log log₂ scratch scratch₂ k → (n ≡ k) × (log₁ ≡ log₂) × (scratch₁ ≡ scratch₂)
same_run m e d b c s t a f w budget log log₁ log₂ scratch scratch₁ scratch₂ n k r q =
    let (j, o) = same_tables e d b c s t a f w in
    one_run r (subst (λ z. Ran m (judgement_of e b) z budget log log₂ scratch scratch₂ k) (sym o)
    (subst (λ i. Ran m i (theory_of d c) budget log log₂ scratch scratch₂ k) (sym j) q))
