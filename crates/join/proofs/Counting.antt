-- The sizes of the joined table, as they are counted. Assumes nothing.
use Prim.Native.Nat.{ℕ, ◌+◌, ◌*◌, ◌≤◌, ◌<◌}
use native.Mathlib.Omega.{arith}
use mathlib.Core.Path.{◌≡◌, sym, ◌∙◌, ap, ap₂}
use mathlib.Core.List.{List}
use lib.Dec.{eqb}
use lib.ListN.{get_or}
use Rattle.logic.specs.Tests.{◌or◌, weigh, total, count_below}
use Rattle.logic.specs.Theory.{complement, head_of, is_fact}
use Rattle.logic.proofs.Sums.{total_ext, total_le, total_const}
use Rattle.logic.proofs.Pigeon.{count_le}
use Rattle.table.specs.declared.format.Sizes.{Sizes}
use Rattle.table.specs.Format.{theory_in}
use Rattle.table.specs.Refusals.{Legal}
use Rattle.table.proofs.Legal.{limited}
use Rattle.standing.specs.Marks.{marked, MarkedBy}
use Rattle.standing.proofs.Marking.{marked_by}
use Rattle.files.specs.Contents.{content_in}
use Rattle.joining.specs.Joining.{joined}
use Rattle.join.specs.Heads.{with_head, Counted}
use Rattle.join.specs.Written.{Counts}
use Rattle.join.proofs.Heading.{against_small}
use Rattle.join.proofs.Assembling.{joined_sizes}

-- as many rules have a head as there are rules, at most
pub counts_few : (c : List ℕ) (t : Sizes) {counts : List ℕ} → Legal c t → Counted (theory_in c t) counts → (q : ℕ) → q < 1024 → get_or counts q 0 ≤ 1024
unfolding theory_in
counts_few c t m w q h = omega (arith, w.each q h, count_le t.rules (with_head (theory_in c t) q), (limited t m.limits).rules)

module _ (b : List ℕ) (s : Sizes) (c : List ℕ) (t : Sizes) (l : Legal b s) (m : Legal c t) where
  -- the added pairs, by the counts of heads
  module _ {counts : List ℕ} (w : Counted (theory_in c t) counts) {added : ℕ} (a : added ≡ total s.rules (λ x. get_or counts (complement (head_of (theory_in b s) x)) 0)) where
    pub added_most : added ≤ 1048576
    added_most =
        omega (
          arith,
          a,
          (limited s l.limits).rules,
          total_const s.rules 1024,
          total_le s.rules (λ x. get_or counts (complement (head_of (theory_in b s) x)) 0) (λ _. 1024) (λ x h. counts_few c t m w _ (against_small b s l x h)),
        )

    added_is : added ≡ total s.rules (λ x. count_below t.rules (λ j. eqb (head_of (theory_in c t) j) (complement (head_of (theory_in b s) x))))
    unfolding theory_in
    added_is = a ∙ total_ext s.rules _ _ (λ x h. w.each _ (against_small b s l x h))

  -- the facts, by their marks
  facts_are : {facts others : List ℕ} {n f : ℕ} → MarkedBy (is_fact (theory_in b s)) 1024 facts → MarkedBy (is_fact (theory_in c t)) 1024 others → n ≡ 2 * s.atoms
      → f ≡ count_below n (λ q. marked facts q or marked others q) → f ≡ count_below (2 * s.atoms) (λ q. is_fact (theory_in b s) q or is_fact (theory_in c t) q)
  facts_are {facts} {others} u v e g =
      g ∙ ap (λ k. count_below k (λ q. marked facts q or marked others q)) e
      ∙ total_ext (2 * s.atoms) _ _ (λ q h. ap (λ x. weigh x 1) (ap₂ ◌or◌ (marked_by (is_fact (theory_in b s)) u q (omega (arith, h, (limited s l.limits).atoms)))
      (marked_by (is_fact (theory_in c t)) v q (omega (arith, h, (limited s l.limits).atoms)))))

  pub totals_are : {facts others counts : List ℕ} {added n f r₁ r₂ e₁ e₂ p₁ p₂ : ℕ} → MarkedBy (is_fact (theory_in b s)) 1024 facts → MarkedBy (is_fact (theory_in c t)) 1024 others
      → Counted (theory_in c t) counts → added ≡ total s.rules (λ x. get_or counts (complement (head_of (theory_in b s) x)) 0) → n ≡ 2 * s.atoms
      → f ≡ count_below n (λ q. marked facts q or marked others q) → r₁ ≡ s.rules → r₂ ≡ t.rules → e₁ ≡ s.entries → e₂ ≡ t.entries → p₁ ≡ s.pairs → p₂ ≡ t.pairs
      → Counts (joined (content_in b s) (content_in c t)) (record { facts = f; rules = r₁ + r₂; entries = e₁ + e₂; pairs = p₁ + p₂ + added })
  totals_are u v w a e g r₁ r₂ e₁ e₂ p₁ p₂ = (
    facts_are u v e g ∙ sym (ap (λ z. z.facts) (joined_sizes b s c t l m)),
    ap₂ ◌+◌ r₁ r₂ ∙ sym (ap (λ z. z.rules) (joined_sizes b s c t l m)),
    ap₂ ◌+◌ e₁ e₂ ∙ sym (ap (λ z. z.entries) (joined_sizes b s c t l m)),
    ap₂ ◌+◌ (ap₂ ◌+◌ p₁ p₂) (added_is w a) ∙ sym (ap (λ z. z.pairs) (joined_sizes b s c t l m)),
  )
