-- The end of a search: every rule was told of the whole list, so what is not in it is the largest set. Assumes nothing.
use Prim.Native.Nat.{ℕ, suc, ◌*◌, ◌≤◌, ◌<◌}
use native.Mathlib.Nat.{le_antisymm}
use native.Mathlib.Omega.{arith}
use mathlib.Core.Path.{◌≡◌, sym, ◌∙◌, subst}
use mathlib.Core.Logic.{⊎_elim}
use mathlib.Core.Bool.{Bool}
use mathlib.Core.List.{List}
use lib.Dec.{T, eqb, eqb→eq, ltb, lt→ltb}
use lib.ListN.{length, get_or, take}
use Rattle.logic.specs.Tests.{member, some_of}
use Rattle.logic.specs.Theory.{Theory, head_of, body_of}
use Rattle.logic.specs.System.{held}
use Rattle.logic.specs.Largest.{largest}
use Rattle.logic.specs.Unfounded.{unfounded}
use Rattle.logic.proofs.Tests.{test_cases, test_eq, eq→eqb, and_intro, isnt_intro, isnt_elim, some_of_intro, every_of_intro}
use Rattle.logic.proofs.Sums.{weigh_true}
use Rattle.logic.proofs.Largest.{largest_fits, largest-holds}
use Rattle.table.specs.declared.format.Sizes.{Sizes}
use Rattle.table.specs.Format.{theory_in}
use Rattle.table.specs.Refusals.{Legal}
use Rattle.table.proofs.Legal.{limited, ranged, head_below, literal_below, body_entry}
use Rattle.table.proofs.Sorted.{bodies_apart}
use Rattle.memory.specs.Memory.{held_of, antecedents}
use Rattle.memory.specs.Founding.{secure, needy}
use Rattle.memory.proofs.inference.Counting.{pick_all}
use Rattle.searching.specs.Sets.{set_in}
use Rattle.memory.specs.Founding.{held_in}
use Rattle.searching.specs.Leaving.{founds, Reached, told_of}
use Rattle.searching.proofs.Unfounded.{unfounded_of}
use Rattle.searching.proofs.Losing.{Orderly}

-- a table's theory, where it is accepted
pub orderly : (b : List ℕ) (s : Sizes) → Legal b s → Orderly (theory_in b s)
unfolding theory_in
orderly b s l =
    record {
      few = (limited s l.limits).atoms;
      small = (limited s l.limits).rules;
      heads = head_below b s (ranged b s l.ranges);
      apart = bodies_apart b s l;
      within =
          λ r a h m. let (j, k, _, e) = body_entry b s (ranged b s l.ranges) r a m in
          subst (λ x. x < 2 * s.atoms) (sym e) (literal_below b s (ranged b s l.ranges) j k);
    }

module _ (d : Theory) (holds : ℕ → ℕ → Bool) (i : ℕ) (o : Orderly d) (lost gone list : List ℕ) (end : ℕ)
    (k : Reached d holds i d.rules (told_of (take end list)) lost gone list end) where
  -- the literals that stay
  abbrev Stays : ℕ → Type 0
  Stays q = (q < 2 * d.atoms) × (T (member q (take end list)) → ⊥)

  -- a rule all of whose antecedents left has lost all
  lost_all : (r : ℕ) → r < d.rules → ((a : ℕ) → T (member a (body_of d r)) → T (member a (take end list))) → get_or lost r 0 ≡ suc (length (body_of d r))
  lost_all r h f =
      let e : antecedents d (λ a. member a (take end list)) r ≡ length (body_of d r) =
      eqb→eq _ _ (subst T (sym (pick_all (body_of d r) (λ a. member a (take end list)))) (every_of_intro (body_of d r) _ f)) in
      omega (arith, k.losses.counts r h, weigh_true (ltb r d.rules) 1 (lt→ltb r d.rules h))

  -- so a list with all that stay has an antecedent of each needy rule for one of them
  stays_asked : (l : List ℕ) → ((y : ℕ) → Stays y → T (member y l)) → (q : ℕ) → Stays q → (T (secure d holds i q) → ⊥) → (r : ℕ) → r < d.rules → T (needy d holds i r)
      → head_of d r ≡ q → T (some_of (body_of d r) (held l))
  unfolding founds
  stays_asked l a q s n r h m e =
      ⊎_elim (λ u. u)
      (λ u. absurd (s.1 (subst (λ x. T (member x (take end list))) e (k.losses.founded r h
      (and_intro _ _ (and_intro _ _ (eq→eqb _ _ (lost_all r h (left u))) m) (isnt_intro _ (subst (λ x. T (secure d holds i x) → ⊥) (sym e) n)))))))
      (test_cases (some_of (body_of d r) (held l)))
    where
      left : (T (some_of (body_of d r) (held l)) → ⊥) → (x : ℕ) → T (member x (body_of d r)) → T (member x (take end list))
      left u x v =
          ⊎_elim (λ w. w) (λ w. absurd (u (some_of_intro (body_of d r) (held l) x v (a x (o.within r x h v, w))))) (test_cases (member x (take end list)))

  stays_in : (q : ℕ) → Stays q → T (member q (largest (λ l. unfounded d holds (held l) i) (2 * d.atoms)))
  stays_in =
      largest-holds (λ l. unfounded d holds (held l) i) Stays (2 * d.atoms) (λ y s. s.0)
      (λ l a x s. unfounded_of d holds (held l) i x (λ b. s.1 (k.barring.bars x s.0 b)) (stays_asked l a x s))

  pub search_end : (q : ℕ) → q < 2 * d.atoms → eqb (get_or gone q 0) 0 ≡ member q (largest (λ l. unfounded d holds (held l) i) (2 * d.atoms))
  search_end q h =
      k.barring.leaving.listed.marks q h
      ∙ test_eq _ _ (λ t. stays_in q (h, isnt_elim _ t))
      (λ t. isnt_intro _ (λ m. k.barring.leaving.listed.out q m (held (largest (λ l. unfounded d holds (held l) i) (2 * d.atoms)))
      (λ x u. largest_fits (λ l. unfounded d holds (held l) i) (2 * d.atoms) x u) t))

-- of a table, where the whole list was passed
pub search_all : (b : List ℕ) (s : Sizes) (m : List ℕ) (i : ℕ) (lost gone list : List ℕ) (next end : ℕ) → Legal b s → next ≤ end → end ≤ next
    → Reached (theory_in b s) (held_in m) i s.rules (told_of (take next list)) lost gone list end
    → (q : ℕ) → q < 2 * s.atoms → eqb (get_or gone q 0) 0 ≡ member q (set_in (theory_in b s) (held_of m) i)
unfolding theory_in
search_all b s m i lost gone list next end l f g k =
    search_end (theory_in b s) (held_in m) i (orderly b s l) lost gone list end
    (subst (λ n. Reached (theory_in b s) (held_in m) i s.rules (told_of (take n list)) lost gone list end) (le_antisymm f g) k)
