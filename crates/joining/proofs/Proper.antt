-- The join of two proper contents over the same atoms is proper, if it is within the limits. Assumes nothing.
use Prim.Native.Nat.{ℕ, ◌+◌, ◌*◌, ◌≤◌, ◌<◌}
use native.Mathlib.Nat.{lt_of_lt_of_le}
use native.Mathlib.Omega.{arith}
use mathlib.Core.Path.{◌≡◌, refl, sym, ◌∙◌, ap, subst}
use mathlib.Core.Logic.{inl}
use mathlib.Core.Bool.{false}
use mathlib.Core.List.{List, ◌++◌, map, map-append, map-map}
use lib.Dec.{T, lt→ltb}
use lib.ListN.{length, length-append, length-map}
use Rattle.logic.specs.Tests.{upto}
use Rattle.logic.specs.Theory.{proper}
use Rattle.logic.proofs.Tests.{and_intro, every_intro, every_of_intro}
use Rattle.logic.proofs.Lists.{member_get_d, member_pick, member_upto}
use Rattle.logic.proofs.Rising.{rising_upto, rising_pick}
use Rattle.table.specs.declared.format.Entry.{Entry}
use Rattle.table.specs.declared.edition.Edition.{Edition}
use Rattle.table.specs.Refusals.{oversize, bad_left}
use Rattle.table.proofs.Sorted.{Before}
use Rattle.files.specs.Contents.{Content, rule_of, entry_of, later_entry, sizes_for, Row, fact_row, rule_row, entry_row, theory_from}
use Rattle.std.proofs.lemmas.List.{get_or-map}
use Rattle.files.proofs.Proper.{row_at, RowBefore, Rising, Proper}
use Rattle.files.proofs.Theories.{body_place, head_literal, entry_literal}
use Rattle.files.proofs.Reading.{row_of}
use Rattle.files.proofs.Rows.{before_kept}
use Rattle.joining.specs.Joining.{over, joined}
use Rattle.joining.proofs.Lists.{each_append, each_map}
use Rattle.joining.proofs.Pairing.{pairs_range, rising_append, over_rising, pairs_rising}
use Rattle.joining.proofs.Acyclic.{joined_acyclic}

-- rows with n more on the left rise as before
abbrev later_row : ℕ → Row → Row
later_row n w = record { left = n + w.left; right = w.right }

later_rising : (n : ℕ) (l : List Row) → Rising l → Rising (map (later_row n) l)
later_rising n l r i j h k =
    let v : j < length l = omega (arith, k, length-map l (later_row n)) in
    let u : i < length l = omega arith in
    coe 0 1 (z. RowBefore (sym (row i u) z) (sym (row j v) z)) (before_kept _ _ _ _ (λ m. omega arith) (ap (n +◌)) (λ m. m) (r i j h v))
  where
    row : (i : ℕ) → i < length l → row_at (map (later_row n) l) i ≡ later_row n (row_at l i)
    row i h = get_or-map (later_row n) l i _ _ h

later_entries : (n : ℕ) (l : List Entry) → map entry_row (map (later_entry n) l) ≡ map (later_row n) (map entry_row l)
later_entries n l = map-map entry_row (later_entry n) l ∙ sym (map-map (later_row n) entry_row l)

module _ (e : Edition) (h t : Content) (p : Proper e h) (q : Proper e t) (a : h.atoms ≡ t.atoms) where
  tour_below : (q : ℕ) → q < 2 * t.atoms → q < 2 * h.atoms
  tour_below q k = subst (λ z. q < 2 * z) (sym a) k

  literals : (i : ℕ) → i < length (joined h t).entries → (entry_of (joined h t) i).literal.0 < 2 * h.atoms
  literals =
      each_append (λ z. z.literal.0 < 2 * h.atoms) h.entries _ _ (entry_literal e h p)
      (each_map (λ z. z.literal.0 < 2 * h.atoms) (later_entry (length h.rules)) t.entries _ _ (λ i k. tour_below _ (entry_literal e t q i k)))

  heads : (r : ℕ) → r < length (h.rules ++ t.rules) → (rule_of (joined h t) r).head.0 < 2 * h.atoms
  heads = each_append (λ z. z.head.0 < 2 * h.atoms) h.rules t.rules _ (head_literal e h p) (λ r k. tour_below _ (head_literal e t q r k))

  users : (i : ℕ) → i < length (joined h t).entries → (entry_of (joined h t) i).rule < length (h.rules ++ t.rules)
  users =
      each_append (λ z. z.rule < length (h.rules ++ t.rules)) h.entries _ _ (λ i k. omega (arith, p.users i k, length-append h.rules t.rules))
      (each_map (λ z. z.rule < length (h.rules ++ t.rules)) (later_entry (length h.rules)) t.entries (record { rule = 0; literal = record { 0 = 0 } }) _
      (λ i k. omega (arith, q.users i k, length-append h.rules t.rules)))

  -- no literal and no rule number is out of range
  pub joined_ranges : T (proper (theory_from (joined h t)))
  unfolding theory_from
  joined_ranges =
      and_intro _ _
      (and_intro _ _
      (and_intro _ _
      (every_intro _ _ (λ i k. lt→ltb _ _ (member_upto (2 * h.atoms) _ (member_pick (upto (2 * h.atoms)) _ _ (member_get_d (joined h t).facts i k)).0)))
      (every_intro _ _ (λ r k. lt→ltb _ _ (heads r k))))
      (every_intro _ _ (λ r _. every_of_intro _ _ (λ x u.
      let (i, v, _, f) = (body_place (joined h t) r x).0 u in lt→ltb x (2 * h.atoms) (subst (λ z. z < 2 * h.atoms) f (literals i v)))))
      )
      (every_intro _ _ (λ i k. let (x, y) = pairs_range _ _ (over (theory_from h) (theory_from t)) i k in and_intro _ _ (lt→ltb _ _ (within x)) (lt→ltb _ _ (within y))))
    where
      within : {x : ℕ} → x < length h.rules + length t.rules → x < length (h.rules ++ t.rules)
      within {x} k = subst (λ z. x < z) (sym (length-append h.rules t.rules)) k

  -- the entries of the tour come after those of the house
  joined_entries : Rising (map entry_row (joined h t).entries)
  unfolding Before
  joined_entries =
      subst Rising (sym (map-append entry_row h.entries (map (later_entry n) t.entries) ∙ ap (map entry_row h.entries ++◌) (later_entries n t.entries)))
      (rising_append (map entry_row h.entries) (map (later_row n) (map entry_row t.entries)) p.entries (later_rising n (map entry_row t.entries) q.entries)
      (λ i j k l. inl (lt_of_lt_of_le (first i (subst (λ z. i < z) (length-map h.entries entry_row) k)) (second j l))))
    where
      n : ℕ
      n = length h.rules

      first : (i : ℕ) → i < length h.entries → (row_at (map entry_row h.entries) i).left < n
      first i k = subst (λ w. w.left < n) (sym (row_of entry_row h.entries _ i refl)) (p.users i k)

      second : (j : ℕ) → j < length (map (later_row n) (map entry_row t.entries)) → n ≤ (row_at (map (later_row n) (map entry_row t.entries)) j).left
      second = each_map (λ w. n ≤ w.left) (later_row n) (map entry_row t.entries) (fact_row 0) _ (λ i k. omega arith)

  pub joined_proper : oversize (sizes_for (joined h t)) ≡ false → Proper e (joined h t)
  joined_proper l =
      record {
        limits = l;
        lefts = each_append (λ z. bad_left e (rule_row z).left ≡ false) h.rules t.rules _ p.lefts q.lefts;
        ranges = joined_ranges;
        users = users;
        facts = over_rising 0 (joined h t).facts (rising_pick 0 (upto (2 * h.atoms)) _ (rising_upto (2 * h.atoms)));
        entries = joined_entries;
        pairs = pairs_rising n n (over (theory_from h) (theory_from t));
        acyclic = joined_acyclic e h t p q;
      }
    where
      n : ℕ
      n = length h.rules + length t.rules
