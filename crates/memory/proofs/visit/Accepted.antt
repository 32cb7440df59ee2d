-- Visits of the rules of an accepted table. Assumes nothing.
use Prim.Native.Nat.{ℕ, ◌+◌, ◌*◌, ◌≤◌, ◌<◌}
use native.Mathlib.Omega.{arith}
use mathlib.Core.Path.{◌≡◌, sym, ◌∙◌, subst}
use mathlib.Core.Bool.{false}
use mathlib.Core.List.{List}
use lib.Dec.{T, eqb}
use denote.Enum.Bare.{sameb}
use lib.ListN.{length, set, length-map}
use Rattle.logic.specs.Tests.{upto, pick}
use Rattle.logic.specs.Theory.{body_of}
use Rattle.logic.proofs.Lists.{length_upto, pick_le}
use Rattle.table.specs.declared.format.Sizes.{Sizes}
use Rattle.table.specs.Format.{entry_at, body_in, theory_in}
use Rattle.table.specs.Refusals.{Legal}
use Rattle.table.proofs.Legal.{limited, ranged, head_below}
use Rattle.table.proofs.Pairs.{pairs_in_order}
use Rattle.standing.specs.declared.answer.Standing.{Standing}
use Rattle.standing.specs.declared.answer.Standing.TheVariants.{Firing}
use Rattle.standing.specs.contracts.answer.Standing.{the_type}
use Rattle.standing.specs.Answers.{meant}
use Rattle.memory.specs.Layout.{tag_count, field_count, field_size, memory_size}
use Rattle.memory.specs.Fields.{has}
use Rattle.memory.specs.Memory.{view, Invariant}
use Rattle.memory.specs.Api.{Lacks, Visited}
use Rattle.memory.specs.Deciding.{standing_with, decided_by}
use Rattle.memory.specs.Visits.{WellFormed, Raised, just_reached, Unchanged, Decided}
use Rattle.memory.proofs.visit.Steps.{raised_set, undecided, visited_of}
use Rattle.memory.proofs.deciding.Deciding.{is_firing, just_decided, just_two}

module _ (b : List ℕ) (s : Sizes) where
  pub well_formed : Legal b s → WellFormed (theory_in b s)
  unfolding theory_in
  well_formed e =
      let l = e in
      record {
        order = pairs_in_order b s e;
        few = (limited s l.limits).atoms;
        heads = head_below b s (ranged b s l.ranges);
      }

  -- a body has no more literals than there are entries
  body_short : (r : ℕ) → length (body_of (theory_in b s) r) ≤ s.entries
  unfolding theory_in body_in
  body_short r =
      omega (
        arith,
        length-map (pick (upto s.entries) (λ i. eqb (entry_at b s i).rule r)) (λ i. (entry_at b s i).literal.0),
        pick_le (upto s.entries) (λ i. eqb (entry_at b s i).rule r),
        length_upto s.entries,
      )

  -- what a visit asks
  abbrev pub Asks : List ℕ → ℕ → ℕ → Type 0
  Asks m r t = Invariant (theory_in b s) m × (r < s.rules) × (t < tag_count) × Lacks (view m) t r

  -- by words, and by the same numbers as indices
  module _ (m : List ℕ) {r t r' t' : ℕ} (e : r' ≡ r) (f : t' ≡ t) where
    pub asks_wide : Asks m r t → Asks m r' t'
    asks_wide p = subst (λ y. Asks m y t') (sym e) (subst (λ x. Asks m r x) (sym f) p)

    pub visit_wide : (n : List ℕ) → Visited (theory_in b s) t' r' m n → Visited (theory_in b s) t r m n
    visit_wide n v = subst (λ y. Visited (theory_in b s) t y m n) e (subst (λ x. Visited (theory_in b s) x r' m n) f v)

  module _ (legal : Legal b s) (m : List ℕ) (r t : ℕ) (p : Asks m r t) where
    small : r < field_size
    small = omega (arith, p.1, (limited s legal.limits).rules)

    inside : r < (theory_in b s).rules
    unfolding theory_in
    inside = p.1

    pub definite_asks : t < 2
        → (WellFormed (theory_in b s) × Invariant (theory_in b s) m × (r < s.rules) × (t < 2) × Lacks (view m) t r) × ((r < field_size) × (memory_size ≤ length m))
    definite_asks h = ((well_formed legal, p.0, p.1, h, p.3), (small, p.0.room))

    pub decides_asks : 2 ≤ t → (r < field_size) × (memory_size ≤ length m) × (2 ≤ t) × (t < tag_count)
    decides_asks l = (small, p.0.room, l, p.2)

    pub bump_asks : (has t < field_count) × (r < field_size) × (memory_size ≤ length m) × (view m (has t) r < 65535)
    bump_asks = (
      omega (arith, p.2),
      small,
      p.0.room,
      omega (arith, p.3, p.0.index.sizes r inside, body_short r, (limited s legal.limits).entries),
    )

    -- the antecedent has its tag
    module _ (n : List ℕ) (g : n ≡ set m (field_size * has t + r) (view m (has t) r + 1)) where
      raised : Raised (has t) r 1 m n
      raised = raised_set m (has t) r n (omega (arith, p.2)) small p.0.room g

      pub standing_asks : (r < field_size) × (memory_size ≤ length n) × (0 ≤ 1) × (0 ≤ 1)
      standing_asks = (small, omega (arith, p.0.room, raised.kept.size), omega arith, omega arith)

      just : 2 ≤ t → just_reached (view n) t r ≡ decided_by (view m) t r
      just l = just_decided (view m) (view n) t r l p.2 p.3 raised.words

      -- and the rule is decided by it or not
      pub visit_undecided : 2 ≤ t → decided_by (view m) t r ≡ false → Visited (theory_in b s) t r m n
      visit_undecided l e = undecided (theory_in b s) m n t r p.2 inside p.0 p.3 raised (sym (just l)) e

      pub propagate_asks : (u : ℕ) → t ≡ u → 2 ≤ t → T (decided_by (view m) t r)
          → (WellFormed (theory_in b s) × Decided (theory_in b s) u r n × (r < s.rules) × (2 ≤ u) × (u < tag_count)) × ((r < field_size) × (memory_size ≤ length n))
      propagate_asks u e l y = (
        subst (λ z. WellFormed (theory_in b s) × Decided (theory_in b s) z r n × (r < s.rules) × (2 ≤ z) × (z < tag_count)) e
            (well_formed legal, record { before = m; invariant = p.0; lacks = p.3; raised = raised; just = subst T (sym (just l)) y }, p.1, l, p.2),
        (small, omega (arith, p.0.room, raised.kept.size)),
      )

      pub visit_decided : (o : List ℕ) → Unchanged n o × Invariant (theory_in b s) o → Visited (theory_in b s) t r m o
      visit_decided o k = visited_of (theory_in b s) m n o t r p.2 raised k.0 k.1

  -- the first antecedent with +∂, by how the rule stands after it
  module _ (legal : Legal b s) (m : List ℕ) (r : ℕ) (p : Asks m r 2) (n : List ℕ) (g : n ≡ set m (field_size * has 2 + r) (view m (has 2) r + 1)) where
    pub start_decides : (x : Standing) → meant x ≡ standing_with (view n) 0 0 r → sameb the_type x Firing ≡ decided_by (view m) 2 r
    start_decides x e = is_firing (view n) r x e ∙ sym (just_two (view n) r) ∙ just legal m r 2 p n g (omega arith)
