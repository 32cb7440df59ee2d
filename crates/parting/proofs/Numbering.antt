-- The numbers that pass a test, numbered anew from 0 in their order: what is kept of a list, and a part's rules. Assumes nothing.
use Prim.Native.Nat.{ℕ, zero, suc, ◌≤◌, ◌<◌}
use native.Mathlib.Nat.{lt_irrefl, eq-or-lt_of_le, not-suc-le-zero}
use native.Mathlib.Omega.{arith}
use mathlib.Core.Path.{◌≡◌, refl, sym, ◌∙◌, ap, subst}
use mathlib.Core.Logic.{⊎_elim}
use mathlib.Core.Bool.{Bool}
use mathlib.Core.List.{[], ◌∷◌, ◌++◌, map}
use lib.Dec.{T}
use lib.ListN.{length, get_or, length-map, get_or-append}
use lib.Seq.{get_or_at}
use Rattle.logic.specs.Tests.{count_below, total, weigh, upto, pick}
use Rattle.logic.proofs.Tests.{at_most, cond_true, lt_suc_cases}
use Rattle.logic.proofs.Lists.{member_get_d, member_pick, member_upto, pick_append}
use Rattle.logic.proofs.Rising.{rising_upto, rising_pick}
use Rattle.logic.proofs.Sums.{weigh_true, count_upto}
use Rattle.logic.proofs.Pigeon.{count_le}
use Rattle.files.specs.Contents.{Content, rule_of}
use Rattle.files.proofs.Lists.{rising_places}
use Rattle.std.proofs.lemmas.List.{get_or-map}
use Rattle.parting.specs.Parting.{rule_in, number_in, part_of}

-- a function that rises between two numbers tells them apart
rising_apart : (f : ℕ → ℕ) (i j : ℕ) → (i < j → f i < f j) → (j < i → f j < f i) → f i ≡ f j → i ≡ j
rising_apart f i j r s e =
    ⊎_elim (λ h. ⊎_elim (λ g. g) (λ k. absurd (lt_irrefl (f i) (omega (arith, e, r k)))) (eq-or-lt_of_le h))
    (λ k. absurd (lt_irrefl (f j) (omega (arith, e, s k)))) (at_most i j)

module _ (p : ℕ → Bool) where
  -- a number that passes has fewer below it than any greater one, so the count tells those that pass apart
  count_rises : (i j : ℕ) → i < j → T (p i) → count_below i p < count_below j p
  unfolding total
  count_rises i zero h t = absurd (not-suc-le-zero h)
  count_rises i (suc j) h t =
      ⊎_elim (λ k. let u : count_below i p < count_below j p = count_rises i j k t in omega arith)
      (λ e. let u : count_below i p ≡ count_below j p = ap (λ k. count_below k p) e in
      let v : weigh (p j) 1 ≡ 1 = weigh_true (p j) 1 (subst (λ k. T (p k)) e t) in
      omega arith)
      (lt_suc_cases i j h)

  count_apart : (i j : ℕ) → T (p i) → T (p j) → count_below i p ≡ count_below j p → i ≡ j
  count_apart i j t u = rising_apart (λ k. count_below k p) i j (λ h. count_rises i j h t) (λ h. count_rises j i h u)

  -- such a number stands at the place of its count among those that pass below n, and each place has one
  picked_at : (n i d : ℕ) → i < n → T (p i) → get_or (pick (upto n) p) (count_below i p) d ≡ i
  unfolding upto pick
  picked_at zero i d h t = absurd (not-suc-le-zero h)
  picked_at (suc n) i d h t =
      ap (λ l. get_or l (count_below i p) d) (pick_append (upto n) (n ∷ []) p)
      ∙ ⊎_elim (λ k. get_or-append (pick (upto n) p) _ d (count_below i p) (omega (arith, count_upto n p, count_rises i n k t)) ∙ picked_at n i d k t)
      (λ e. ap (λ l. get_or (pick (upto n) p ++ l) (count_below i p) d) (cond_true (p n) (n ∷ []) [] (subst (λ k. T (p k)) e t))
      ∙ get_or_at (pick (upto n) p) n [] d (count_below i p) (count_upto n p ∙ ap (λ k. count_below k p) (sym e)) ∙ sym e) (lt_suc_cases i n h)

  picked_place : (n j : ℕ) → j < length (pick (upto n) p) → (i : ℕ) × (i < n) × T (p i) × (count_below i p ≡ j) × (get_or (pick (upto n) p) j 0 ≡ i)
  picked_place n j h =
      let i : ℕ = get_or (pick (upto n) p) j 0 in
      let (u, t) = member_pick (upto n) p i (member_get_d (pick (upto n) p) j h) in
      let k : i < n = member_upto n i u in
      let rises : (x y : ℕ) → x < y → y < length (pick (upto n) p) → get_or (pick (upto n) p) x 0 < get_or (pick (upto n) p) y 0 =
      rising_places 0 (pick (upto n) p) (rising_pick 0 (upto n) p (rising_upto n)) in (
        i,
        k,
        t,
        rising_apart (λ z. get_or (pick (upto n) p) z 0) (count_below i p) j (λ l. rises (count_below i p) j l h)
            (λ l. rises j (count_below i p) l (omega (arith, count_upto n p, count_rises i n k t))) (picked_at n i 0 k t),
        refl,
      )

-- so of a list that keeps the places that pass
module _ {A : Type 0} (g : ℕ → A) (n : ℕ) (p : ℕ → Bool) where
  kept_count : length (map g (pick (upto n) p)) ≡ count_below n p
  kept_count = length-map (pick (upto n) p) g ∙ count_upto n p

  pub kept_le : length (map g (pick (upto n) p)) ≤ n
  kept_le = omega (arith, kept_count, count_le n p)

  pub kept_at : (d : A) (i : ℕ) → i < n → T (p i) → (count_below i p < length (map g (pick (upto n) p))) × (get_or (map g (pick (upto n) p)) (count_below i p) d ≡ g i)
  kept_at d i h t = (
    omega (arith, kept_count, count_rises p i n h t),
    get_or-map g (pick (upto n) p) (count_below i p) 0 d (omega (arith, count_upto n p, count_rises p i n h t)) ∙ ap g (picked_at p n i 0 h t),
  )

  pub kept_place : (d : A) (j : ℕ) → j < length (map g (pick (upto n) p)) → (i : ℕ) × (i < n) × T (p i) × (count_below i p ≡ j) × (get_or (map g (pick (upto n) p)) j d ≡ g i)
  kept_place d j h =
      let k : j < length (pick (upto n) p) = omega (arith, h, length-map (pick (upto n) p) g) in
      let (i, a, t, e, f) = picked_place p n j k in
      (i, a, t, e, get_or-map g (pick (upto n) p) j 0 d k ∙ ap g f)

-- the rules of a part by their new numbers
module _ (c : Content) (a : ℕ) where
  -- a rule of the whole that is in the part has a number there, under which it stands, and each number of the part is that of a rule
  pub number_at : (r : ℕ) → r < length c.rules → T (rule_in c a r) → (number_in c a r < length (part_of c a).rules) × (rule_of (part_of c a) (number_in c a r) ≡ rule_of c r)
  unfolding number_in
  number_at = kept_at (rule_of c) (length c.rules) (rule_in c a) _

  pub number_place : (s : ℕ) → s < length (part_of c a).rules
      → (r : ℕ) × (r < length c.rules) × T (rule_in c a r) × (number_in c a r ≡ s) × (rule_of (part_of c a) s ≡ rule_of c r)
  unfolding number_in
  number_place = kept_place (rule_of c) (length c.rules) (rule_in c a) _

  -- the new numbers rise and tell the rules apart
  pub number_rises : (r s : ℕ) → r < s → T (rule_in c a r) → number_in c a r < number_in c a s
  unfolding number_in
  number_rises = count_rises (rule_in c a)

  pub number_apart : (r s : ℕ) → T (rule_in c a r) → T (rule_in c a s) → number_in c a r ≡ number_in c a s → r ≡ s
  unfolding number_in
  number_apart = count_apart (rule_in c a)

  -- the number in the whole of a rule of the part
  abbrev pub rule_was : ℕ → ℕ
  rule_was s = get_or (pick (upto (length c.rules)) (rule_in c a)) s 0

  pub number_was : (r : ℕ) → r < length c.rules → T (rule_in c a r) → rule_was (number_in c a r) ≡ r
  unfolding number_in
  number_was r = picked_at (rule_in c a) (length c.rules) r 0
