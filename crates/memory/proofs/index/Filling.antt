-- The index as its loops leave it, one after the other: it is the theory's, and the other words are 0. Assumes nothing.
use Prim.Native.Nat.{ℕ, zero, suc, ◌+◌, ◌-◌, ◌*◌, ◌≤◌, ◌<◌}
use native.Mathlib.Omega.{arith}
use mathlib.Core.Path.{◌≡◌, refl, sym, ◌∙◌, ap, ap₂, subst}
use mathlib.Core.Logic.{◌⊎◌, inl, inr, ⊎_elim}
use mathlib.Core.Bool.{Bool}
use mathlib.Core.List.{List, map}
use lib.Dec.{T, eqb, ltb, eqb→eq, ltb→lt}
use lib.ListN.{length}
use Rattle.logic.specs.Tests.{◌and◌, ◌or◌, member, weigh, total, count_below, upto, pick, some}
use Rattle.logic.specs.Theory.{is_fact}
use Rattle.logic.proofs.Tests.{and_left, and_right, at_most, cond_false, eq→eqb, or_elim, test_cases}
use Rattle.logic.proofs.Sums.{total_next, total_zero, weigh_false, weigh_le}
use Rattle.table.specs.declared.format.Sizes.{Sizes}
use Rattle.table.specs.Format.{entry_at, pair_at, body_in, theory_in}
use Rattle.table.specs.Refusals.{Legal}
use Rattle.table.proofs.Legal.{Limited, limited, ranged, head_below, stronger_below}
use Rattle.memory.specs.Layout.{tag_count, field_count, field_size, uses_size, memory_size}
use Rattle.memory.specs.Fields.{has, size_f, head_f, kind_f, naming_f, rivals_f, first_f, beaten_f, lost_f, uses_f, strict_f, support_f, headed_f, fact_f, proved_f, refuted_f, firing_f, out_f, countered_f, unopposed_f, in_index}
use Rattle.memory.specs.Memory.{view, use_at, users, uses_from, Indexed, fires, is_out, Counted}
use Rattle.memory.specs.Indexing.{rules_to, entries_to, Grew, Low, Ruled, Unpaired, Paired, Facts, Firsts, use_count, uses_below, uses_to, Begun, Placed, Started}
use Rattle.memory.proofs.Views.{below_index, kept_then, past_rule}
use Rattle.memory.proofs.index.Turns.{entries_most, rules_most}
use Rattle.memory.proofs.index.Sorting.{uses_few}
use Rattle.memory.proofs.index.Placing.{entry_rules, placed_list}
use Rattle.memory.proofs.index.Fields.{entries_facts, index_headed, index_heads, index_kinds, index_outside, index_pairs, index_sizes, index_stricts, index_supports, index_uses, index_to, rules_facts}

-- outside the memory's indices there is 0
past : (m : List ℕ) (f i : ℕ) → field_size ≤ i → view m f i ≡ 0
unfolding view
past m f i h = cond_false (ltb f field_count and ltb i field_size) _ _ (λ t. let l : i < field_size = ltb→lt i field_size (and_right _ _ t) in omega arith)

module _ (b : List ℕ) (s : Sizes) (a : Legal b s) {m0 m1 : List ℕ} (z : Low m0 0) (g1 : Grew m0 m1 (rules_to (theory_in b s) s.rules)) where
  small : Limited s
  small = limited s a.limits

  pub room_1 : memory_size ≤ length m1
  room_1 = omega (arith, z.room, g1.kept.size)

  pub blank_facts : (q : ℕ) → view m1 fact_f q ≡ 0
  blank_facts q = omega (arith, g1.words fact_f q, z.low fact_f q, rules_facts b s q)

  heads : (r : ℕ) → r < s.rules → ((theory_in b s).rule r).head ≤ field_size
  unfolding theory_in
  heads r h = omega (arith, head_below b s (ranged b s a.ranges) r h, small.atoms)

  module _ {m2 : List ℕ} (g2 : Facts (theory_in b s) s.facts m1 m2) where
    pub low_2 : Low m2 8192
    low_2 = record { room = omega (arith, room_1, g2.only.kept.size); low = λ f i. ⊎_elim (λ t. mine f i (eqb→eq f fact_f t)) (λ t. others f i (λ e. t (eq→eqb f fact_f e))) (test_cases (eqb f fact_f)) }
      where
        mine : (f i : ℕ) → f ≡ fact_f → view m2 f i ≤ 8192
        mine f i e =
            subst (λ k. view m2 k i ≤ 8192) (sym e)
            (⊎_elim (λ h. omega (arith, past m2 fact_f i h)) (λ h. omega (arith, g2.marked i (omega arith), weigh_le (some s.facts (λ k. eqb ((theory_in b s).fact k) i)) 1)) (at_most field_size i))

        others : (f i : ℕ) → (f ≡ fact_f → ⊥) → view m2 f i ≤ 8192
        others f i n = omega (arith, g2.only.others f i n, g1.words f i, z.low f i, rules_most (theory_in b s) s.rules heads f i, small.rules)

    module _ {m3 : List ℕ} (g3 : Grew m2 m3 (entries_to b s s.entries)) where
      pub low_3 : Low m3 memory_size
      low_3 =
          record {
            room = omega (arith, low_2.room, g3.kept.size);
            low = λ f i. omega (arith, low_2.low f i, g3.words f i, entries_most b s s.entries f i, small.entries);
          }

      -- the rules' heads and kinds, which the pairs are weighed by
      pub ruled_3 : Ruled (theory_in b s) m3
      unfolding theory_in
      ruled_3 =
          record {
            heads = λ r h. omega (arith, z.low head_f r, g1.words head_f r, g2.only.others head_f r (λ e. absurd (omega arith)), g3.words head_f r, index_heads b s r h);
            kinds = λ r h. omega (arith, z.low kind_f r, g1.words kind_f r, g2.only.others kind_f r (λ e. absurd (omega arith)), g3.words kind_f r, index_kinds b s r h);
          }

      -- and no pair is counted
      pub unpaired_3 : Unpaired m3
      unpaired_3 =
          record {
            namings = λ r. omega (arith, z.low naming_f r, g1.words naming_f r, g2.only.others naming_f r (λ e. absurd (omega arith)), g3.words naming_f r, (index_pairs b s r).0);
            rivals = λ r. omega (arith, z.low rivals_f r, g1.words rivals_f r, g2.only.others rivals_f r (λ e. absurd (omega arith)), g3.words rivals_f r, (index_pairs b s r).1);
          }

      module _ {m4 : List ℕ} (g4 : Paired (theory_in b s) m3 m4) where
        pub room_4 : memory_size ≤ length m4
        room_4 = omega (arith, low_3.room, g4.kept.size)

        -- all but the facts and the pairs
        words_4 : (f i : ℕ) → (f ≡ fact_f → ⊥) → (f ≡ naming_f → ⊥) → (f ≡ rivals_f → ⊥) → view m4 f i ≡ index_to b s f i
        words_4 f i n o p = omega (arith, z.low f i, g1.words f i, g2.only.others f i n, g3.words f i, g4.others f i o p)

        facts_4 : (q : ℕ) → q < field_size → view m4 fact_f q ≡ weigh (is_fact (theory_in b s) q) 1
        unfolding theory_in
        facts_4 q h = omega (arith, g4.others fact_f q (λ e. absurd (omega arith)) (λ e. absurd (omega arith)), g3.words fact_f q, g2.marked q h, entries_facts b s q)

        module _ {m5 : List ℕ} (g5 : Firsts (theory_in b s) 0 m4 m5) where
          pub room_5 : memory_size ≤ length m5
          room_5 = omega (arith, room_4, g5.only.kept.size)

          pub uses_5 : (q : ℕ) → q < field_size → view m5 uses_f q ≡ use_count b s q
          uses_5 q _ = g5.only.others uses_f q (λ e. absurd (omega arith)) ∙ words_4 uses_f q (λ e. absurd (omega arith)) (λ e. absurd (omega arith)) (λ e. absurd (omega arith)) ∙ index_uses b s q

          module _ {m6 : List ℕ} (g6 : Begun b s (2 * s.atoms) m5 m6) where
            pub room_6 : memory_size ≤ length m6
            room_6 = omega (arith, room_5, g6.only.kept.size)

            pub uses_6 : (q : ℕ) → q < 2 * s.atoms → view m6 uses_f q ≡ uses_below b s q
            uses_6 q h = g6.done q h (omega (arith, small.atoms))

            module _ {m7 : List ℕ} (g7 : Placed b s s.entries m6 m7) where
              room_7 : memory_size ≤ length m7
              room_7 = omega (arith, room_6, g7.kept.size)

              -- all but the firsts and the uses stay, and of these all but the facts and the pairs are the rules' and entries'
              same_7 : (f i : ℕ) → (f ≡ first_f → ⊥) → (f ≡ uses_f → ⊥) → view m7 f i ≡ view m4 f i
              same_7 f i n o = g7.others f i o ∙ g6.only.others f i o ∙ g5.only.others f i n

              words_7 : (f i : ℕ) → (f ≡ fact_f → ⊥) → (f ≡ naming_f → ⊥) → (f ≡ rivals_f → ⊥) → (f ≡ first_f → ⊥) → (f ≡ uses_f → ⊥) → view m7 f i ≡ index_to b s f i
              words_7 f i n o p u v = same_7 f i u v ∙ words_4 f i n o p

              -- a field that is not one of these, by a test that they pass or that it does not
              moving_7 : (f i : ℕ) → (T (in_index f) → ⊥) → view m7 f i ≡ 0
              unfolding in_index ◌and◌ ◌or◌
              moving_7 f i n =
                  words_7 f i (apart fact_f tt) (apart naming_f tt) (apart rivals_f tt) (apart first_f tt) (apart uses_f tt) ∙ index_outside b s f i n
                where
                  apart : (g : ℕ) → T (in_index g) → f ≡ g → ⊥
                  apart g t e = n (subst (λ z. T (in_index z)) (sym e) t)

              fixed : (f i : ℕ) → (f < naming_f) ⊎ ((uses_f < f) × (f < fact_f)) → view m7 f i ≡ index_to b s f i
              fixed f i (inl h) = words_7 f i (λ e. absurd (omega arith)) (λ e. absurd (omega arith)) (λ e. absurd (omega arith)) (λ e. absurd (omega arith)) (λ e. absurd (omega arith))
              fixed f i (inr h) = words_7 f i (λ e. absurd (omega arith)) (λ e. absurd (omega arith)) (λ e. absurd (omega arith)) (λ e. absurd (omega arith)) (λ e. absurd (omega arith))

              ends : (q : ℕ) → q < 2 * s.atoms → view m7 uses_f q ≡ uses_below b s q + use_count b s q
              ends q h = g7.next q h

              begins : (q : ℕ) → q < 2 * s.atoms → uses_from (view m7) q ≡ uses_below b s q
              unfolding total
              begins zero h = refl
              begins (suc q) h =
                  let e : view m7 uses_f q ≡ uses_below b s q + use_count b s q = ends q (omega arith) in
                  cond_false (eqb (suc q) 0) _ _ (λ t. absurd (omega (arith, eqb→eq (suc q) 0 t))) ∙ ap (view m7 uses_f) (let p : suc q - 1 ≡ q = omega arith in p) ∙ e

              uses_list : (q : ℕ) → q < 2 * s.atoms
                  → map (λ k. use_at m7 (uses_from (view m7) q + k)) (upto (view m7 uses_f q - uses_from (view m7) q)) ≡ pick (upto s.rules) (λ r. member q (body_in b s r))
              uses_list q h =
                  let x : uses_from (view m7) q ≡ uses_below b s q = begins q h in
                  let y : view m7 uses_f q - uses_from (view m7) q ≡ use_count b s q = omega (arith, ends q h) in
                  ap₂ (λ o n. map (λ k. use_at m7 (o + k)) (upto n)) x y
                  ∙ placed_list s.entries (λ i. eqb (entry_at b s i).literal.0 q) (λ k. use_at m7 (uses_below b s q + k)) (λ i. (entry_at b s i).rule)
                  (λ j l t. subst (λ p. use_at m7 (uses_below b s p + uses_to b s j p) ≡ (entry_at b s j).rule) (eqb→eq _ _ t) (g7.placed j l))
                  ∙ entry_rules b s a q

              uses_within : (q : ℕ) → q < 2 * s.atoms → (uses_from (view m7) q ≤ view m7 uses_f q) × (view m7 uses_f q ≤ uses_size)
              uses_within q h = (
                omega (arith, begins q h, ends q h),
                omega (arith, ends q h, total_next q (use_count b s), uses_few b s (q + 1), small.entries),
              )

              first_7 : (q : ℕ) → view m7 first_f q ≡ view m5 first_f q
              first_7 q = g7.others first_f q (λ e. absurd (omega arith)) ∙ g6.only.others first_f q (λ e. absurd (omega arith))

              firsts_7 : (i : ℕ) → i < s.pairs
                  → (view m7 first_f ((theory_in b s).pair i).stronger ≤ i) × (((theory_in b s).pair (view m7 first_f ((theory_in b s).pair i).stronger)).stronger ≡ ((theory_in b s).pair i).stronger)
              unfolding theory_in
              firsts_7 i h =
                  let r = g5.first i (omega arith) h in
                  let e : view m7 first_f (pair_at b s i).stronger ≡ view m5 first_f (pair_at b s i).stronger = first_7 (pair_at b s i).stronger in
                  (omega (arith, r.1), ap (λ k. (pair_at b s k).stronger) e ∙ r.2)

              facts_7 : (q : ℕ) → q < 2 * s.atoms → view m7 fact_f q ≡ weigh (is_fact (theory_in b s) q) 1
              facts_7 q h = same_7 fact_f q (λ e. absurd (omega arith)) (λ e. absurd (omega arith)) ∙ facts_4 q (omega (arith, small.atoms))

              indexed : Indexed (theory_in b s) (view m7) (use_at m7)
              unfolding theory_in users
              indexed =
                  record {
                    sizes = λ r h. fixed size_f r (inl (omega arith)) ∙ index_sizes b s r h;
                    heads = λ r h. fixed head_f r (inl (omega arith)) ∙ index_heads b s r h;
                    kinds = λ r h. fixed kind_f r (inl (omega arith)) ∙ index_kinds b s r h;
                    namings = λ r h. same_7 naming_f r (λ e. absurd (omega arith)) (λ e. absurd (omega arith)) ∙ g4.namings r;
                    rivals = λ r h. same_7 rivals_f r (λ e. absurd (omega arith)) (λ e. absurd (omega arith)) ∙ g4.rivals r;
                    firsts = firsts_7;
                    uses = uses_list;
                    within = uses_within;
                    stricts = λ q h. fixed strict_f q (inr (omega arith, omega arith)) ∙ index_stricts b s q;
                    supports = λ q h. fixed support_f q (inr (omega arith, omega arith)) ∙ index_supports b s q;
                    headed = λ q h. fixed headed_f q (inr (omega arith, omega arith)) ∙ index_headed b s q;
                    facts = facts_7;
                  }

              -- no rule fires and none is out
              has_none : (t r : ℕ) → t < tag_count → view m7 (has t) r ≡ 0
              has_none t r h = moving_7 (has t) r (below_index (has t) (omega arith))

              not_fires : (t r : ℕ) → t < tag_count → r < s.rules → T (fires (view m7) t r) → ⊥
              unfolding theory_in
              not_fires t r h l u =
                  let e : view m7 (has t) r ≡ view m7 size_f r = eqb→eq _ _ u in
                  let f : view m7 size_f r ≡ suc (length (body_in b s r)) = indexed.sizes r l in
                  let g : view m7 (has t) r ≡ 0 = has_none t r h in
                  omega arith

              not_out : (t r : ℕ) → t < tag_count → T (is_out (view m7) t r) → ⊥
              not_out t r h u = let e : 0 < view m7 (has t) r = ltb→lt _ _ u in let g : view m7 (has t) r ≡ 0 = has_none t r h in omega arith

              still : (f i n : ℕ) (p : ℕ → Bool) → (T (in_index f) → ⊥) → ((k : ℕ) → k < n → T (p k) → ⊥) → view m7 f i ≡ count_below n p
              still f i n p m o = moving_7 f i m ∙ sym (total_zero n _ (λ k h. weigh_false (p k) 1 (o k h)))

              counted : Counted (theory_in b s) (view m7) (λ i. fires (view m7) 2 ((theory_in b s).pair i).stronger) (λ i. is_out (view m7) 3 ((theory_in b s).pair i).stronger)
              unfolding theory_in
              counted =
                  record {
                    beaten = λ r h. still beaten_f r s.pairs _ (past_rule beaten_f (omega arith) (inl (omega arith))) (λ i l t. not_fires 2 _ (omega arith) (strong i l) (and_right _ _ t));
                    lost = λ r h. still lost_f r s.pairs _ (past_rule lost_f (omega arith) (inl (omega arith))) (λ i l t. not_out 3 _ (omega arith) (and_right _ _ t));
                    proved = λ q h. still proved_f q s.rules _ (past_rule proved_f (omega arith) (inr (omega arith))) (λ r l t. not_fires 0 r (omega arith) l (and_right _ _ t));
                    refuted = λ q h. still refuted_f q s.rules _ (past_rule refuted_f (omega arith) (inr (omega arith))) (λ r l t. not_out 1 r (omega arith) (and_right _ _ t));
                    firing = λ q h. still firing_f q s.rules _ (past_rule firing_f (omega arith) (inr (omega arith))) (λ r l t. not_fires 2 r (omega arith) l (and_right _ _ t));
                    out = λ q h. still out_f q s.rules _ (past_rule out_f (omega arith) (inr (omega arith))) (λ r l t. not_out 3 r (omega arith) (and_right _ _ t));
                    countered = λ q h. still countered_f q s.rules _ (past_rule countered_f (omega arith) (inr (omega arith))) (λ r l t. ⊎_elim (not_out 3 r (omega arith)) (beats r) (or_elim _ _ (and_right _ _ t)));
                    unopposed = λ q h. still unopposed_f q s.rules _ (past_rule unopposed_f (omega arith) (inr (omega arith))) (λ r l t. not_fires 2 r (omega arith) l (and_left _ _ (and_right _ _ t)));
                  }
                where
                  strong : (i : ℕ) → i < s.pairs → (pair_at b s i).stronger < s.rules
                  strong = stronger_below b s (ranged b s a.ranges)

                  beats : (r : ℕ) → T (ltb 0 (view m7 beaten_f r)) → ⊥
                  beats r u = let e : 0 < view m7 beaten_f r = ltb→lt _ _ u in let g : view m7 beaten_f r ≡ 0 = moving_7 beaten_f r (past_rule beaten_f (omega arith) (inl (omega arith))) in omega arith

              pub started_none : Started (theory_in b s) 0 m0 m7
              started_none =
                  record {
                    invariant = record { room = room_7; index = indexed; counts = counted; never = λ r h. omega (arith, has_none 2 r (omega arith), has_none 3 r (omega arith)) };
                    done = λ t r h l. absurd (omega arith);
                    left = λ t r h l. has_none t r h;
                    marks = λ t i h. moving_7 t i (below_index t (omega arith));
                    kept =
                        kept_then g1.kept
                        (kept_then g2.only.kept (kept_then g3.kept (kept_then g4.kept (kept_then g5.only.kept (kept_then g6.only.kept g7.kept)))));
                  }
