-- The tests of the words (specs/Deciding.antt) are the inference rules over what is processed. Assumes nothing.
use Prim.Native.Nat.{ℕ, suc, ◌+◌, ◌*◌, ◌/◌, ◌≤◌, ◌<◌}
use native.Mathlib.Nat.{add-zero}
use native.Mathlib.Omega.{arith}
use mathlib.Core.Path.{◌≡◌, refl, sym, ◌∙◌, ap, ap₂, subst}
use mathlib.Core.Logic.{⊎_elim}
use mathlib.Core.Bool.{Bool, true, false}
use mathlib.Core.List.{List}
use lib.Dec.{T, ltb, eqb, eqb→eq, lt→ltb, eqb_refl, eqb-suc-suc}
use lib.ListN.{length}
use Rattle.logic.specs.Tests.{◌and◌, ◌or◌, isnt, ◌implies◌, every, some, weigh, count_below}
use Rattle.logic.specs.Theory.{Theory, complement, head_of, body_of, is_fact, strict_for, supporter, attacker, superior}
use Rattle.logic.specs.Inference as inference
use Rattle.logic.specs.Inference.{all_have, one_has}
use Rattle.logic.specs.Reading.{tagged_by}
use Rattle.logic.specs.Standing.{first_fit, standing}
use Rattle.logic.proofs.Tests.{and_intro, and_left, and_right, and_true, and_under, eq→eqb, every_elim, every_intro, false_of, implies_elim, implies_intro, isnt_elim, isnt_intro, or_elim, or_left, or_right, some_elim, some_intro, test_cases, test_eq, true_of}
use Rattle.logic.proofs.Literals.{complement_below, complement_complement, join_div, join_mod}
use Rattle.table.specs.declared.format.Sizes.{Sizes}
use Rattle.table.specs.Format.{theory_in}
use Rattle.table.specs.Refusals.{Legal}
use Rattle.table.proofs.Legal.{limited, ranged, stronger_below}
use Rattle.memory.specs.Layout.{tag_count, field_size, memory_size}
use Rattle.memory.specs.Fields.{has, size_f, rivals_f, beaten_f, lost_f, support_f, headed_f, firing_f, out_f, countered_f, unopposed_f}
use Rattle.memory.specs.Memory.{view, held_of, fires, is_out, antecedents, virtual, Ready}
use Rattle.memory.specs.Deciding.{processed, definitely_by, not_definitely_by, defeasibly_by, not_defeasibly_by, standing_with}
use Rattle.memory.proofs.inference.Counting.{count_every, count_ext, count_some, pick_all, pick_one}

-- what is left of a test once its first part is known
pub or_yes : {a : Bool} (b : Bool) → a ≡ true → true ≡ (a or b)
unfolding ◌or◌
or_yes b e = sym (ap (◌or b) e)

pub or_no : {a : Bool} (b : Bool) → a ≡ false → b ≡ (a or b)
unfolding ◌or◌
or_no b e = sym (ap (◌or b) e)

pub and_yes : {a : Bool} (b : Bool) → a ≡ true → b ≡ (a and b)
unfolding ◌and◌
and_yes b e = sym (ap (◌and b) e)

pub and_no : {a : Bool} (b : Bool) → a ≡ false → false ≡ (a and b)
unfolding ◌and◌
and_no b e = sym (ap (◌and b) e)

above : (n : ℕ) → (n ≡ 0 → ⊥) → ltb 0 n ≡ true
above n h = true_of _ (lt→ltb 0 n (omega arith))

-- a fact, by its word
pub fact_above : (b : Bool) → ltb 0 (weigh b 1) ≡ b
unfolding weigh
fact_above true = refl
fact_above false = refl

fact_none : (b : Bool) → eqb (weigh b 1) 0 ≡ isnt b
unfolding weigh isnt
fact_none true = refl
fact_none false = refl

module _ (d : Theory) (m : List ℕ) (ready : Ready d m) where
  -- what is processed, as a test of literals and tags
  abbrev h : ℕ → ℕ → Bool
  h = tagged_by tag_count (held_of m)

  pub processed_held : (q t : ℕ) → t < tag_count → processed (view m) q t ≡ h q t
  processed_held q t b = ap₂ (λ f i. eqb (view m f i) 2) (sym (join_mod tag_count q t b)) (sym (join_div tag_count q t b))

  -- a rule fires, or is out, by what is processed
  pub fires_all : (t r : ℕ) → t < tag_count → virtual t ≡ 1 → r < d.rules → fires (view m) t r ≡ all_have d h t r
  unfolding all_have
  fires_all t r b e l =
      ap₂ eqb (ready.tagged t r b l ∙ ap (◌+ antecedents d (λ a. held_of m (tag_count * a + t)) r) e ∙ one_more _) (ready.invariant.index.sizes r l)
      ∙ eqb-suc-suc (antecedents d (λ a. held_of m (tag_count * a + t)) r) (length (body_of d r)) ∙ pick_all (body_of d r) (λ a. held_of m (tag_count * a + t))
    where
      one_more : (n : ℕ) → 1 + n ≡ suc n
      one_more n = omega arith

  pub out_one : (t r : ℕ) → t < tag_count → virtual t ≡ 0 → r < d.rules → is_out (view m) t r ≡ one_has d h t r
  unfolding one_has
  out_one t r b e l =
      ap (ltb 0) (ready.tagged t r b l ∙ ap (◌+ antecedents d (λ a. held_of m (tag_count * a + t)) r) e ∙ none_more _)
      ∙ pick_one (body_of d r) (λ a. held_of m (tag_count * a + t))
    where
      none_more : (n : ℕ) → 0 + n ≡ n
      none_more n = omega arith

  fires_definitely : (r : ℕ) → r < d.rules → fires (view m) 0 r ≡ all_have d h 0 r
  unfolding virtual
  fires_definitely r l = fires_all 0 r (omega arith) refl l

  pub out_definitely : (r : ℕ) → r < d.rules → is_out (view m) 1 r ≡ one_has d h 1 r
  unfolding virtual
  out_definitely r l = out_one 1 r (omega arith) refl l

  pub fires_defeasibly : (r : ℕ) → r < d.rules → fires (view m) 2 r ≡ all_have d h 2 r
  unfolding virtual
  fires_defeasibly r l = fires_all 2 r (omega arith) refl l

  pub out_defeasibly : (r : ℕ) → r < d.rules → is_out (view m) 3 r ≡ one_has d h 3 r
  unfolding virtual
  out_defeasibly r l = out_one 3 r (omega arith) refl l

  -- so the memory gives the standing of document 02, S-3, over what is processed
  pub standing_processed : (r : ℕ) → r < d.rules → standing_with (view m) 0 0 r ≡ standing d 1 h r
  standing_processed r l =
      ap₂ first_fit (ap (λ n. eqb n (view m size_f r)) (add-zero (view m (has 2) r)) ∙ fires_defeasibly r l) (ap (ltb 0) (add-zero (view m (has 3) r)) ∙ out_defeasibly r l)

  module _ (q : ℕ) (b : q < 2 * d.atoms) where
    pub definitely_by_lem : definitely_by (view m) q ≡ inference.definitely d h q
    definitely_by_lem =
        ap₂ ◌or◌ (ap (ltb 0) (ready.invariant.index.facts q b) ∙ fact_above (is_fact d q))
        (ap (ltb 0) (ready.invariant.counts.proved q b ∙ count_ext d.rules _ _ (λ r l. ap (strict_for d r q and◌) (fires_definitely r l)))
        ∙ count_some d.rules (λ r. strict_for d r q and all_have d h 0 r))

    pub not_definitely_by_lem : not_definitely_by (view m) q ≡ inference.not_definitely d h q
    not_definitely_by_lem =
        ap₂ ◌and◌ (ap (λ w. eqb w 0) (ready.invariant.index.facts q b) ∙ fact_none (is_fact d q))
        (ap₂ eqb (ready.invariant.counts.refuted q b ∙ count_ext d.rules _ _ (λ r l. ap (strict_for d r q and◌) (out_definitely r l))) (ready.invariant.index.stricts q b)
        ∙ count_every d.rules (λ r. strict_for d r q) (λ r. one_has d h 1 r))

    module _ (strong : (i : ℕ) → i < d.pairs → (d.pair i).stronger < d.rules) where
      -- the rivals of an attacker of q are the supporters of q over it
      of_head : (s : ℕ) → T (attacker d s q) → complement (head_of d s) ≡ q
      unfolding attacker
      of_head s t = ap complement (eqb→eq _ _ t) ∙ complement_complement q

      -- a rival fires where a supporter of q over the attacker has +∂ for all antecedents
      beaten_by : (s : ℕ) → s < d.rules → T (attacker d s q)
          → ltb 0 (view m beaten_f s) ≡ some d.rules (λ t. supporter d t q and all_have d h 2 t and superior d t s)
      unfolding superior
      beaten_by s l a =
          ap (ltb 0) (ready.invariant.counts.beaten s l ∙ ap (λ z. count_below d.pairs (λ i. eqb (d.pair i).weaker s and supporter d (d.pair i).stronger z and fires (view m) 2 (d.pair i).stronger)) (of_head s a))
          ∙ count_some d.pairs (λ i. eqb (d.pair i).weaker s and supporter d (d.pair i).stronger q and fires (view m) 2 (d.pair i).stronger)
          ∙ test_eq _ _ there back
        where
          there : T (some d.pairs (λ i. eqb (d.pair i).weaker s and supporter d (d.pair i).stronger q and fires (view m) 2 (d.pair i).stronger))
              → T (some d.rules (λ t. supporter d t q and all_have d h 2 t and superior d t s))
          there u =
              let (i, k, v) = some_elim d.pairs _ u in
              let w = and_left _ _ v in
              some_intro d.rules _ (d.pair i).stronger (strong i k)
              (and_intro _ _ (and_intro _ _ (and_right _ _ w) (subst T (fires_defeasibly _ (strong i k)) (and_right _ _ v)))
              (some_intro d.pairs _ i k (and_intro _ _ (eqb_refl (d.pair i).stronger) (and_left _ _ w))))

          back : T (some d.rules (λ t. supporter d t q and all_have d h 2 t and superior d t s))
              → T (some d.pairs (λ i. eqb (d.pair i).weaker s and supporter d (d.pair i).stronger q and fires (view m) 2 (d.pair i).stronger))
          back u =
              let (t, k, v) = some_elim d.rules _ u in
              let w = and_left _ _ v in
              let (i, j, x) = some_elim d.pairs _ (and_right _ _ v) in
              let e : (d.pair i).stronger ≡ t = eqb→eq _ _ (and_left _ _ x) in
              some_intro d.pairs _ i j
              (and_intro _ _ (and_intro _ _ (and_right _ _ x) (subst (λ z. T (supporter d z q)) (sym e) (and_left _ _ w)))
              (subst (λ z. T (fires (view m) 2 z)) (sym e) (subst T (sym (fires_defeasibly t k)) (and_right _ _ w))))

      -- every rival is out where each supporter of q is out or not over the attacker
      lost_by : (s : ℕ) → s < d.rules → T (attacker d s q)
          → eqb (view m lost_f s) (view m rivals_f s) ≡ every d.rules (λ t. supporter d t q implies one_has d h 3 t or isnt (superior d t s))
      unfolding superior
      lost_by s l a =
          ap₂ eqb
          (ready.invariant.counts.lost s l ∙ ap (λ z. count_below d.pairs (λ i. eqb (d.pair i).weaker s and supporter d (d.pair i).stronger z and is_out (view m) 3 (d.pair i).stronger)) (of_head s a))
          (ready.invariant.index.rivals s l ∙ ap (λ z. count_below d.pairs (λ i. eqb (d.pair i).weaker s and supporter d (d.pair i).stronger z and true)) (of_head s a)
          ∙ count_ext d.pairs _ _ (λ i _. and_true (eqb (d.pair i).weaker s and supporter d (d.pair i).stronger q) true tt))
          ∙ count_every d.pairs (λ i. eqb (d.pair i).weaker s and supporter d (d.pair i).stronger q) (λ i. is_out (view m) 3 (d.pair i).stronger)
          ∙ test_eq _ _ there back
        where
          there : T (every d.pairs (λ i. (eqb (d.pair i).weaker s and supporter d (d.pair i).stronger q) implies is_out (view m) 3 (d.pair i).stronger))
              → T (every d.rules (λ t. supporter d t q implies one_has d h 3 t or isnt (superior d t s)))
          there u =
              every_intro d.rules _ (λ t k. implies_intro (supporter d t q) (one_has d h 3 t or isnt (superior d t s)) (λ v.
              ⊎_elim
              (λ x. or_left (one_has d h 3 t) (isnt (superior d t s)) (
              let (i, j, y) = some_elim d.pairs _ x in
              let e : (d.pair i).stronger ≡ t = eqb→eq _ _ (and_left _ _ y) in
              subst T (out_defeasibly t k) (subst (λ z. T (is_out (view m) 3 z)) e
              (implies_elim _ _ (every_elim d.pairs _ u i j) (and_intro _ _ (and_right _ _ y) (subst (λ z. T (supporter d z q)) (sym e) v))))))
              (λ n. or_right (one_has d h 3 t) (isnt (superior d t s)) (isnt_intro _ n)) (test_cases (superior d t s))))

          back : T (every d.rules (λ t. supporter d t q implies one_has d h 3 t or isnt (superior d t s)))
              → T (every d.pairs (λ i. (eqb (d.pair i).weaker s and supporter d (d.pair i).stronger q) implies is_out (view m) 3 (d.pair i).stronger))
          back u =
              every_intro d.pairs _ (λ i j. implies_intro (eqb (d.pair i).weaker s and supporter d (d.pair i).stronger q) (is_out (view m) 3 (d.pair i).stronger) (λ v.
              ⊎_elim (λ x. subst T (sym (out_defeasibly _ (strong i j))) x)
              (λ x. absurd (isnt_elim _ x (some_intro d.pairs _ i j (and_intro _ _ (eqb_refl (d.pair i).stronger) (and_left _ _ v)))))
              (or_elim (one_has d h 3 (d.pair i).stronger) _ (implies_elim (supporter d (d.pair i).stronger q) _ (every_elim d.rules _ u _ (strong i j)) (and_right _ _ v)))))

      pub defeasibly_by_lem : defeasibly_by (view m) q ≡ inference.defeasibly d h q
      unfolding attacker
      defeasibly_by_lem =
          ap₂ ◌or◌ (processed_held q 0 (omega arith))
          (ap₂ ◌and◌
          (ap₂ ◌and◌
          (ap (ltb 0) (ready.invariant.counts.firing q b ∙ count_ext d.rules _ _ (λ r l. ap (supporter d r q and◌) (fires_defeasibly r l))) ∙ count_some d.rules (λ r. supporter d r q and all_have d h 2 r))
          (processed_held (complement q) 1 (omega arith)))
          (ap₂ eqb
          (ready.invariant.counts.countered (complement q) (complement_below q d.atoms b)
          ∙ count_ext d.rules _ _ (λ s l. and_under (attacker d s q) _ _ (λ t. ap₂ ◌or◌ (out_defeasibly s l) (beaten_by s l t))))
          (ready.invariant.index.headed (complement q) (complement_below q d.atoms b))
          ∙ count_every d.rules (λ s. attacker d s q) (λ s. inference.countered d h q s)))

      -- an attacker fires, and each supporter of q is out or not over it
      pub unopposed_by : ltb 0 (view m unopposed_f (complement q)) ≡ some d.rules (λ s. attacker d s q and inference.uncountered d h q s)
      unfolding attacker
      unopposed_by =
          ap (ltb 0)
          (ready.invariant.counts.unopposed (complement q) (complement_below q d.atoms b)
          ∙ count_ext d.rules _ _ (λ s l. and_under (attacker d s q) _ _ (λ t. ap₂ ◌and◌ (fires_defeasibly s l) (lost_by s l t))))
          ∙ count_some d.rules (λ s. attacker d s q and inference.uncountered d h q s)

      pub not_defeasibly_by_lem : not_defeasibly_by (view m) q ≡ inference.not_defeasibly d h q
      unfolding attacker
      not_defeasibly_by_lem =
          ap₂ ◌and◌ (processed_held q 1 (omega arith))
          (ap₂ ◌or◌
          (ap₂ ◌or◌
          (ap₂ eqb (ready.invariant.counts.out q b ∙ count_ext d.rules _ _ (λ r l. ap (supporter d r q and◌) (out_defeasibly r l))) (ready.invariant.index.supports q b)
          ∙ count_every d.rules (λ r. supporter d r q) (λ r. one_has d h 3 r))
          (processed_held (complement q) 0 (omega arith)))
          unopposed_by)

-- the tests as they are read
module _ (w : ℕ → ℕ → ℕ) (q : ℕ) where
  -- +∂, part by part
  module _ {p : Bool} (ep : p ≡ processed w q 0) where
    pub defeasibly_definite : p ≡ true → true ≡ defeasibly_by w q
    defeasibly_definite t = or_yes _ (sym ep ∙ t)

    module _ (no : p ≡ false) {f : ℕ} (ef : f ≡ w firing_f q) where
      pub defeasibly_unsupported : f ≡ 0 → false ≡ defeasibly_by w q
      defeasibly_unsupported z = and_no _ (sym (and_no _ (ap (ltb 0) (sym ef ∙ z)))) ∙ or_no _ (sym ep ∙ no)

      module _ (supported : f ≡ 0 → ⊥) {n : ℕ} {c : Bool} (en : n ≡ complement q) (ec : c ≡ processed w n 1) where
        supports : (ltb 0 (w firing_f q) and processed w (complement q) 1) ≡ c
        supports = sym (and_yes _ (ap (ltb 0) (sym ef) ∙ above f supported)) ∙ ap (λ i. processed w i 1) (sym en) ∙ sym ec

        pub defeasibly_opposed : c ≡ false → false ≡ defeasibly_by w q
        defeasibly_opposed z = and_no _ (supports ∙ z) ∙ or_no _ (sym ep ∙ no)

        pub defeasibly_countered : c ≡ true → {a b : ℕ} → a ≡ w countered_f n → b ≡ w headed_f n → eqb a b ≡ defeasibly_by w q
        defeasibly_countered y ea eb = ap₂ eqb (ea ∙ ap (w countered_f) en) (eb ∙ ap (w headed_f) en) ∙ and_yes _ (supports ∙ y) ∙ or_no _ (sym ep ∙ no)

  -- −∂, part by part
  module _ {p : Bool} (ep : p ≡ processed w q 1) where
    pub not_defeasibly_open : p ≡ false → false ≡ not_defeasibly_by w q
    not_defeasibly_open z = and_no _ (sym ep ∙ z)

    module _ (yes : p ≡ true) {o k : ℕ} (eo : o ≡ w out_f q) (ek : k ≡ w support_f q) where
      pub not_defeasibly_unsupported : o ≡ k → true ≡ not_defeasibly_by w q
      not_defeasibly_unsupported e =
          or_yes _ (sym (or_yes _ (true_of _ (eq→eqb _ _ (sym eo ∙ e ∙ ek))))) ∙ and_yes _ (sym ep ∙ yes)

      module _ (other : o ≡ k → ⊥) {n : ℕ} {c : Bool} (en : n ≡ complement q) (ec : c ≡ processed w n 0) where
        refuted : (eqb (w out_f q) (w support_f q) or processed w (complement q) 0) ≡ c
        refuted = sym (or_no _ (false_of _ (λ t. other (eo ∙ eqb→eq _ _ t ∙ sym ek)))) ∙ ap (λ i. processed w i 0) (sym en) ∙ sym ec

        pub not_defeasibly_refuted : c ≡ true → true ≡ not_defeasibly_by w q
        not_defeasibly_refuted y = or_yes _ (refuted ∙ y) ∙ and_yes _ (sym ep ∙ yes)

        pub not_defeasibly_beaten : c ≡ false → {u : ℕ} → u ≡ w unopposed_f n → ltb 0 u ≡ not_defeasibly_by w q
        not_defeasibly_beaten z eu = ap (ltb 0) (eu ∙ ap (w unopposed_f) en) ∙ or_no _ (refuted ∙ z) ∙ and_yes _ (sym ep ∙ yes)

-- an accepted table's literals are below 1,024
pub small_literal : (b : List ℕ) (s : Sizes) (q : ℕ) → Legal b s → q < 2 * s.atoms → q < field_size
small_literal b s q e h = let l : s.atoms ≤ 512 = (limited s e.limits).atoms in omega arith

-- each test as what follows, for an accepted table
module _ (b : List ℕ) (s : Sizes) (m : List ℕ) (x : ℕ) (accepted : Legal b s) (asked : Ready (theory_in b s) m × (x < tag_count * (2 * s.atoms))) where
  ready : Ready (theory_in b s) m
  ready = asked.0

  abbrev q : ℕ
  q = x / tag_count

  small : q < 2 * s.atoms
  small = omega (arith, asked.1)

  pub test_asks : (q < field_size) × (memory_size ≤ length m)
  test_asks = (small_literal b s q accepted small, ready.invariant.room)

  abbrev Follows : Bool → ℕ → Type 0
  Follows r t = r ≡ inference.follows (theory_in b s) (tagged_by tag_count (held_of m)) q t

  pub follows_0 : {r : Bool} {t : ℕ} → t ≡ 0 → r ≡ definitely_by (view m) q → Follows r t
  unfolding theory_in inference.follows
  follows_0 {r} e f = subst (Follows r) (sym e) (f ∙ definitely_by_lem (theory_in b s) m ready q small)

  pub follows_1 : {r : Bool} {t : ℕ} → t ≡ 1 → r ≡ not_definitely_by (view m) q → Follows r t
  unfolding theory_in inference.follows
  follows_1 {r} e f = subst (Follows r) (sym e) (f ∙ not_definitely_by_lem (theory_in b s) m ready q small)

  pub follows_2 : {r : Bool} {t : ℕ} → t ≡ 2 → r ≡ defeasibly_by (view m) q → Follows r t
  unfolding theory_in inference.follows
  follows_2 {r} e f = subst (Follows r) (sym e) (f ∙ defeasibly_by_lem (theory_in b s) m ready q small (stronger_below b s (ranged b s accepted.ranges)))

  pub follows_3 : {r : Bool} {t : ℕ} → t ≡ 3 → r ≡ not_defeasibly_by (view m) q → Follows r t
  unfolding theory_in inference.follows
  follows_3 {r} e f =
      subst (Follows r) (sym e) (f ∙ not_defeasibly_by_lem (theory_in b s) m ready q small (stronger_below b s (ranged b s accepted.ranges)))
