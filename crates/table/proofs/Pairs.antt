-- The pairs of a table that has none of the faults 2, 5 and 6. Assumes nothing.
use Prim.Native.Nat.{ℕ, ◌≤◌, ◌<◌}
use native.Mathlib.Nat.{le_of_eq, eq-or-lt_of_le}
use native.Mathlib.Omega.{arith}
use mathlib.Core.Path.{◌≡◌, sym, ◌∙◌, ap}
use mathlib.Core.Logic.{⊎_elim}
use mathlib.Core.Bool.{false}
use mathlib.Core.List.{List}
use lib.Dec.{eqb, ltb}
use lib.ListN.{length, get_or, take}
use lib.Seq.{length-take-le}
use Rattle.logic.specs.Tests.{count_below}
use Rattle.logic.specs.Theory.{superior}
use Rattle.logic.proofs.Tests.{false_of, some_elim}
use Rattle.logic.proofs.Cycle.{cycle_next, cyclic_sound}
use Rattle.table.specs.declared.format.Sizes.{Sizes}
use Rattle.table.specs.declared.format.Pair.{Pair}
use Rattle.table.specs.Format.{pair_at, theory_in}
use Rattle.table.specs.Refusals.{oversize, out_of_range, disorder, cycle, Legal}
use Rattle.table.specs.Pairs.{PairsInOrder}
use Rattle.table.specs.Release.{removed_by, Zeros, Queued}
use Rattle.table.proofs.Legal.{limited, ranged, stronger_below, weaker_below}
use Rattle.table.proofs.Sorted.{before_left, pairs_rise}
use Rattle.table.proofs.Kahn.{queued_start, queued_end}

module _ (b : List ℕ) (s : Sizes) where
  pub ordered : oversize s ≡ false → out_of_range b s ≡ false → disorder b s ≡ false → PairsInOrder (theory_in b s)
  unfolding theory_in
  ordered e f g =
      record {
        small = (limited s e).rules;
        few = (limited s e).pairs;
        strong = stronger_below b s (ranged b s f);
        weak = weaker_below b s (ranged b s f);
        rising = λ i j l h. ⊎_elim (λ k. le_of_eq (ap (λ n. (pair_at b s n).stronger) k)) (λ k. before_left _ _ _ _ (pairs_rise b s g i j k h)) (eq-or-lt_of_le l);
      }

  -- of a legal layout
  pub pairs_in_order : Legal b s → PairsInOrder (theory_in b s)
  pairs_in_order l = ordered l.limits l.ranges l.sorted

  -- a pair that was read
  pub strong_read : (i : ℕ) (p : Pair) → p ≡ pair_at b s i → p.stronger ≡ ((theory_in b s).pair i).stronger
  unfolding theory_in
  strong_read i p e = ap (λ q. q.stronger) e

  pub weak_read : (i : ℕ) (p : Pair) → p ≡ pair_at b s i → p.weaker ≡ ((theory_in b s).pair i).weaker
  unfolding theory_in
  weak_read i p e = ap (λ q. q.weaker) e

  pub weak_small : PairsInOrder (theory_in b s) → (i : ℕ) (p : Pair) → i < s.pairs → p ≡ pair_at b s i → p.weaker < 1024
  unfolding theory_in
  weak_small o i p h e = let g : p.weaker ≡ ((theory_in b s).pair i).weaker = weak_read i p e in omega (arith, o.weak i h, o.small)

  pub strong_small : PairsInOrder (theory_in b s) → (i : ℕ) (p : Pair) → i < s.pairs → p ≡ pair_at b s i → p.stronger < 1024
  unfolding theory_in
  strong_small o i p h e = let g : p.stronger ≡ ((theory_in b s).pair i).stronger = strong_read i p e in omega (arith, o.strong i h, o.small)

  -- the start and the end of the algorithm on a table's pairs
  pub table_start : PairsInOrder (theory_in b s) → (degree queue : List ℕ) (end : ℕ) → Zeros s.rules degree (take end queue)
      → ((w : ℕ) → w < 1024 → get_or degree w 0 ≡ count_below s.pairs (λ i. eqb (pair_at b s i).weaker w))
      → Queued (theory_in b s) (removed_by (theory_in b s) (take 0 queue)) degree (take end queue)
  unfolding theory_in
  table_start o degree queue end z e = queued_start (theory_in b s) o degree (take end queue) z (λ w h. e w (omega (arith, o.small)))

  pub table_end : PairsInOrder (theory_in b s) → (degree queue : List ℕ) (all : ℕ) → all ≤ length queue
      → Queued (theory_in b s) (removed_by (theory_in b s) (take all queue)) degree (take all queue) → ltb all s.rules ≡ cycle b s
  unfolding theory_in cycle
  table_end o degree queue all h k =
      ap (λ n. ltb n s.rules) (sym (length-take-le all queue h)) ∙ queued_end (theory_in b s) o degree (take all queue) k

  pub no_pairs : s.pairs ≡ 0 → cycle b s ≡ false
  unfolding theory_in cycle superior
  no_pairs e =
      false_of _ (λ t.
      let (r, l) = cyclic_sound _ s.rules t in
      let (_, u, _) = cycle_next _ r l in
      let (i, h, _) = some_elim _ _ u in
      omega (arith, e, h))
