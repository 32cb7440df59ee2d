-- A conclusion is processed: the rules that use its literal are visited, and its mark is set. Assumes nothing.
use Prim.Native.Nat.{ℕ, zero, suc, ◌+◌, ◌-◌, ◌*◌, ◌/◌, ◌%◌, ◌≤◌, ◌<◌}
use native.Mathlib.Nat.{mod-lt}
use native.Mathlib.Omega.{arith}
use mathlib.Core.Path.{◌≡◌, refl, sym, ◌∙◌, ap, ap₂, subst, fun_ext}
use mathlib.Core.Logic.{⊎_elim}
use mathlib.Core.Bool.{Bool, true, false}
use mathlib.Core.List.{List, [], ◌∷◌, ◌++◌}
use lib.Dec.{T, eqb, eqb→eq, eqb_refl}
use lib.ListN.{length, get_or, set, take, drop, length-set}
use lib.Seq.{take-suc, take_all}
use Rattle.logic.specs.Tests.{◌and◌, ◌or◌, isnt, member, distinct, weigh, upto, pick}
use Rattle.logic.specs.Theory.{Theory, complement, body_of}
use Rattle.logic.specs.System.{Coherent}
use Rattle.logic.proofs.Tests.{and_intro, and_left, and_right, eq→eqb, of_false, of_true, or_elim, or_left, or_right, test_cases, test_eq, true_of}
use Rattle.logic.proofs.Lists.{distinct_before, distinct_pick, distinct_upto, member_get_d, member_last, member_left, member_nil, member_pick, member_pick_intro, member_snoc, member_upto_intro, pick_apart}
use Rattle.logic.proofs.Sums.{pick_one_more, weigh_false, weigh_true}
use Rattle.logic.proofs.Literals.{complement_other, join_div, join_mod, join_split, split_below}
use Rattle.table.specs.declared.format.Sizes.{Sizes}
use Rattle.table.specs.Format.{theory_in}
use Rattle.table.specs.Refusals.{Legal}
use Rattle.table.proofs.Legal.{limited}
use Rattle.table.proofs.Sorted.{bodies_apart}
use Rattle.memory.specs.Layout.{tag_count, field_count, field_size, uses_size, memory_size}
use Rattle.memory.specs.Fields.{mark, has}
use Rattle.memory.specs.Memory.{view, use_at, held_of, written_of, users, antecedents, virtual, Invariant, Ready}
use Rattle.memory.specs.Api.{adds, UsesAt, Kept, Lacks, Visited, Added}
use Rattle.memory.specs.Visits.{Spread}
use Rattle.memory.proofs.Views.{kept_then, rest_set, use_set, view_set, view_set_field, view_set_index}
use Rattle.memory.proofs.visit.Accepted.{Asks}
use Rattle.memory.proofs.visit.Steps.{invariant_marks}
use Rattle.memory.proofs.uses.Users.{use_is, use_small, user_below}

-- of a tag and its opposite, the virtual antecedent has one
virtual_both : (t : ℕ) → t < tag_count → virtual t + virtual (complement t) ≤ 1
unfolding virtual
virtual_both zero h = omega arith
virtual_both (suc zero) h = omega arith
virtual_both (suc (suc zero)) h = omega arith
virtual_both (suc (suc (suc zero))) h = omega arith
virtual_both (suc (suc (suc (suc t)))) h = absurd (omega arith)

-- what is held with tag t, as a test of literals
abbrev held_with : List ℕ → ℕ → ℕ → Bool
held_with m t a = held_of m (tag_count * a + t)

-- the memory m, in a walk over the uses of literal p that began with m₀, before the k-th use
pub record Spreading (d : Theory) (p t first : ℕ) (m₀ m : List ℕ) (k : ℕ) : Type 0 where
  pub from : first ≤ k
  pub most : k ≤ first + length (users d p)
  pub invariant : Invariant d m
  pub words : (u r : ℕ) → u < tag_count → r < d.rules → view m (has u) r ≡ view m₀ (has u) r + weigh (eqb u t and member r (take (k - first) (users d p))) 1
  pub marks : (u i : ℕ) → u < tag_count → view m (mark u) i ≡ view m₀ (mark u) i
  pub kept : Kept m₀ m

module _ (d : Theory) (bodies : (r : ℕ) → T (distinct (body_of d r))) (p t : ℕ) (in_range : p < 2 * d.atoms) (tag : t < tag_count) (m₀ : List ℕ) (ready : Ready d m₀)
    {first end : ℕ} (at : UsesAt d p first end) where
  pub spread_start : Spreading d p t first m₀ m₀ first
  spread_start =
      record {
        from = omega arith;
        most = omega arith;
        invariant = ready.invariant;
        words = λ u r _ _.
            let z : first - first ≡ 0 = omega arith in
            let y : weigh (eqb u t and member r (take (first - first) (users d p))) 1 ≡ 0 =
            weigh_false _ 1 (λ v. member_nil r (subst (λ j. T (member r (take j (users d p)))) z (and_right _ _ v))) in omega arith;
        marks = λ _ _ _. refl;
        kept = record { size = refl; rest = refl };
      }

  module _ (m : List ℕ) (k : ℕ) (w : Spreading d p t first m₀ m k) where
    pub spread_small : k < end → k < uses_size
    spread_small h = use_small d (view m₀) (use_at m₀) ready.invariant.index in_range at k w.from h

    pub spread_end : end ≤ k → Spread d p t m₀ m
    unfolding users
    spread_end h =
        record {
          invariant = w.invariant;
          words = λ u r l b. w.words u r l b ∙ ap (λ z. view m₀ (has u) r + weigh (eqb u t and z) 1) (whole r b);
          marks = w.marks;
          kept = w.kept;
        }
      where
        whole : (r : ℕ) → r < d.rules → member r (take (k - first) (users d p)) ≡ member p (body_of d r)
        whole r b =
            ap (member r) (take_all (k - first) (users d p) (omega (arith, at.finish)))
            ∙ test_eq _ _ (λ v. (member_pick (upto d.rules) _ r v).1) (λ v. member_pick_intro (upto d.rules) _ r (member_upto_intro d.rules r b) v)

    module _ (h : k < end) (r : ℕ) (e : r ≡ use_at m k) where
      place : k - first < length (users d p)
      place = omega (arith, at.finish, w.from)

      rule_is : r ≡ get_or (users d p) (k - first) 0
      rule_is = e ∙ use_is d (view m) (use_at m) w.invariant.index in_range at k w.from h

      uses_it : T (member r (users d p))
      uses_it = subst (λ z. T (member z (users d p))) (sym rule_is) (member_get_d (users d p) _ place)

      pub use_below : r < d.rules
      use_below = subst (λ z. z < d.rules) (sym rule_is) (user_below d p _ place)

      in_body : T (member p (body_of d r))
      unfolding users
      in_body = (member_pick (upto d.rules) _ r uses_it).1

      new : T (member r (take (k - first) (users d p))) → ⊥
      unfolding users
      new v = distinct_before (users d p) (k - first) (distinct_pick _ _ (distinct_upto d.rules)) place (subst (λ z. T (member z (take (k - first) (users d p)))) rule_is v)

      -- no antecedent of the rule has the tag and its opposite, also once p has it
      apart : Coherent (adds (held_of m₀) (tag_count * p + t)) → (a : ℕ) → T (held_with m₀ t a or eqb a p) → T (held_with m₀ (complement t) a) → ⊥
      unfolding Coherent
      apart c a u v =
          let i : tag_count * a + complement t ≡ complement (tag_count * a + t) = omega arith in
          c (tag_count * a + t)
          (⊎_elim (or_left _ _) (λ g. let j : a ≡ p = eqb→eq a p g in or_right _ _ (eq→eqb (tag_count * a + t) (tag_count * p + t) (omega arith))) (or_elim _ _ u))
          (or_left _ _ (subst (λ z. T (held_of m₀ z)) i v))

      pub use_asks : held_of m₀ (tag_count * p + t) ≡ false → Coherent (adds (held_of m₀) (tag_count * p + t)) → Lacks (view m) t r
      use_asks n coherent =
          let o : complement t < tag_count = omega arith in
          let a' : view m (has (complement t)) r ≡ view m₀ (has (complement t)) r + weigh (eqb (complement t) t and member r (take (k - first) (users d p))) 1 = w.words (complement t) r o use_below in
          let z' : weigh (eqb (complement t) t and member r (take (k - first) (users d p))) 1 ≡ 0 = weigh_false _ 1 (λ v. complement_other t (eqb→eq _ _ (and_left _ _ v))) in
          let c' : view m₀ (has (complement t)) r ≡ virtual (complement t) + length (pick (body_of d r) (held_with m₀ (complement t))) = ready.tagged (complement t) r o use_below in
          let a : view m (has t) r ≡ view m₀ (has t) r + weigh (eqb t t and member r (take (k - first) (users d p))) 1 = w.words t r tag use_below in
          let z : weigh (eqb t t and member r (take (k - first) (users d p))) 1 ≡ 0 = weigh_false _ 1 (λ v. new (and_right _ _ v)) in
          let c : view m₀ (has t) r ≡ virtual t + length (pick (body_of d r) (held_with m₀ t)) = ready.tagged t r tag use_below in
          let y : length (pick (body_of d r) (λ a. held_with m₀ t a or eqb a p)) ≡ length (pick (body_of d r) (held_with m₀ t)) + weigh (member p (body_of d r)) 1 =
          pick_one_more (body_of d r) (held_with m₀ t) (λ a. held_with m₀ t a or eqb a p) p (bodies r) (of_false _ n) (or_right _ _ (eqb_refl p)) (λ a o. test_eq _ _ (λ v. ⊎_elim (λ x. x) (λ x. absurd (o (eqb→eq a p x))) (or_elim _ _ v)) (or_left _ _)) in
          let x : weigh (member p (body_of d r)) 1 ≡ 1 = weigh_true _ 1 in_body in
          omega (
            arith,
            pick_apart (body_of d r) (λ a. held_with m₀ t a or eqb a p) (held_with m₀ (complement t)) (apart coherent),
            virtual_both t tag,
            w.invariant.index.sizes r use_below,
          )

      pub spread_next : (n : List ℕ) → Visited d t r m n → Spreading d p t first m₀ n (k + 1)
      spread_next n v =
          record {
            from = omega (arith, w.from);
            most = omega (arith, at.finish);
            invariant = v.invariant;
            words = words;
            marks = λ u i l. v.marks u i l ∙ w.marks u i l;
            kept = kept_then w.kept v.kept;
          }
        where
          longer : take (k + 1 - first) (users d p) ≡ take (k - first) (users d p) ++ (r ∷ [])
          longer =
              let a : k + 1 - first ≡ suc (k - first) = omega (arith, w.from) in
              ap (λ j. take j (users d p)) a ∙ take-suc (users d p) (k - first) 0 place ∙ ap (λ x. take (k - first) (users d p) ++ (x ∷ [])) (sym rule_is)

          words : (u x : ℕ) → u < tag_count → x < d.rules → view n (has u) x ≡ view m₀ (has u) x + weigh (eqb u t and member x (take (k + 1 - first) (users d p))) 1
          words u x l b = ⊎_elim here there (test_cases (eqb u t and eqb x r))
            where
              here : T (eqb u t and eqb x r) → view n (has u) x ≡ view m₀ (has u) x + weigh (eqb u t and member x (take (k + 1 - first) (users d p))) 1
              here c =
                  let i : u ≡ t = eqb→eq u t (and_left _ _ c) in
                  let j : x ≡ r = eqb→eq x r (and_right _ _ c) in
                  let a : view n (has u) x ≡ view m (has u) x + 1 = subst (λ y. view n (has y) x ≡ view m (has y) x + 1) (sym i) (subst (λ y. view n (has t) y ≡ view m (has t) y + 1) (sym j) v.more) in
                  let f : view m (has u) x ≡ view m₀ (has u) x + weigh (eqb u t and member x (take (k - first) (users d p))) 1 = w.words u x l b in
                  let z : weigh (eqb u t and member x (take (k - first) (users d p))) 1 ≡ 0 =
                  weigh_false _ 1 (λ y. new (subst (λ q. T (member q (take (k - first) (users d p)))) j (and_right _ _ y))) in
                  let y : weigh (eqb u t and member x (take (k + 1 - first) (users d p))) 1 ≡ 1 =
                  weigh_true _ 1 (and_intro _ _ (and_left _ _ c) (subst (λ q. T (member x q)) (sym longer) (subst (λ q. T (member q (take (k - first) (users d p) ++ (r ∷ [])))) (sym j) (member_last (take (k - first) (users d p)) r)))) in
                  omega arith

              there : (T (eqb u t and eqb x r) → ⊥) → view n (has u) x ≡ view m₀ (has u) x + weigh (eqb u t and member x (take (k + 1 - first) (users d p))) 1
              there o =
                  v.others u x l (λ i j. o (and_intro _ _ (eq→eqb u t i) (eq→eqb x r j))) ∙ w.words u x l b
                  ∙ ap (λ z. view m₀ (has u) x + weigh z 1) (test_eq _ _
                  (λ y. and_intro _ _ (and_left _ _ y) (subst (λ q. T (member x q)) (sym longer) (member_left x _ (r ∷ []) (and_right _ _ y))))
                  (λ y. and_intro _ _ (and_left _ _ y) (⊎_elim (λ q. q) (λ j. absurd (o (and_intro _ _ (and_left _ _ y) (eq→eqb x r j)))) (member_snoc _ r x (subst (λ q. T (member x q)) longer (and_right _ _ y))))))

-- the mark of conclusion x is set
module _ (d : Theory) (bodies : (r : ℕ) → T (distinct (body_of d r))) (few : d.atoms ≤ 512) (x : ℕ) (in_range : x / tag_count < 2 * d.atoms) (m : List ℕ) (ready : Ready d m)
    (was : written_of m x ≡ true) (out : held_of m x ≡ false) (n : List ℕ) (g : Spread d (x / tag_count) (x % tag_count) m n) (n' : List ℕ) (e : n' ≡ set n (field_size * (x % tag_count) + x / tag_count) 2) where
  tag : x % tag_count < tag_count
  tag = mod-lt x (omega arith)

  mark_here : view n' (x % tag_count) (x / tag_count) ≡ 2
  mark_here = ap (λ z. view z (x % tag_count) (x / tag_count)) e ∙ view_set n (x % tag_count) (x / tag_count) 2 (omega (arith, tag)) (omega arith) g.invariant.room

  mark_other : (u i : ℕ) → u < tag_count → (u ≡ x % tag_count → i ≡ x / tag_count → ⊥) → view n' u i ≡ view m u i
  mark_other u i l o =
      ap (λ z. view z u i) e
      ∙ ⊎_elim (λ t. view_set_index n (x % tag_count) (x / tag_count) 2 (omega (arith, tag)) (omega arith) u i (o (eqb→eq u (x % tag_count) t)))
      (λ t. view_set_field n (x % tag_count) (x / tag_count) 2 (omega (arith, tag)) (omega arith) u i (λ c. t (eq→eqb u (x % tag_count) c))) (test_cases (eqb u (x % tag_count))) ∙ g.marks u i l

  high : (f i : ℕ) → has 0 ≤ f → view n' f i ≡ view n f i
  high f i l = ap (λ z. view z f i) e ∙ view_set_field n (x % tag_count) (x / tag_count) 2 (omega (arith, tag)) (omega arith) f i (λ c. omega (arith, tag))

  kept : Kept n n'
  kept = record { size = ap length e ∙ simp length-set; rest = ap (drop memory_size) e ∙ rest_set n (x % tag_count) (x / tag_count) 2 (omega (arith, tag)) (omega arith) }

  other : (y : ℕ) → (y ≡ x → ⊥) → view n' (y % tag_count) (y / tag_count) ≡ view m (y % tag_count) (y / tag_count)
  other y o = mark_other (y % tag_count) (y / tag_count) (mod-lt y (omega arith)) (λ i j. o (sym (join_split tag_count y) ∙ ap₂ (λ a b. tag_count * a + b) j i ∙ join_split tag_count x))

  held : (y : ℕ) → held_of n' y ≡ adds (held_of m) x y
  held y =
      ⊎_elim (λ t. let i : y ≡ x = eqb→eq y x t in ap (held_of n') i ∙ ap (λ z. eqb z 2) mark_here ∙ sym (true_of (held_of m y or eqb y x) (or_right _ _ t)))
      (λ t. ap (λ z. eqb z 2) (other y (λ i. t (eq→eqb y x i))) ∙ test_eq (held_of m y) (held_of m y or eqb y x) (or_left _ _) (λ v. ⊎_elim (λ c. c) (λ c. absurd (t c)) (or_elim (held_of m y) (eqb y x) v)))
      (test_cases (eqb y x))

  written : (y : ℕ) → written_of n' y ≡ written_of m y
  unfolding isnt
  written y =
      ⊎_elim (λ t. let i : y ≡ x = eqb→eq y x t in ap (written_of n') i ∙ ap (λ z. isnt (eqb z 0)) mark_here ∙ sym was ∙ sym (ap (written_of m) i))
      (λ t. ap (λ z. isnt (eqb z 0)) (other y (λ i. t (eq→eqb y x i)))) (test_cases (eqb y x))

  -- the antecedents of a rule that have tag u
  tagged : (u r : ℕ) → u < tag_count → r < d.rules → view n' (has u) r ≡ virtual u + antecedents d (λ a. held_of n' (tag_count * a + u)) r
  tagged u r l b =
      let a : view n' (has u) r ≡ view n (has u) r = high (has u) r (omega arith) in
      let c : view n (has u) r ≡ view m (has u) r + weigh (eqb u (x % tag_count) and member (x / tag_count) (body_of d r)) 1 = g.words u r l b in
      let f : view m (has u) r ≡ virtual u + length (pick (body_of d r) (held_with m u)) = ready.tagged u r l b in
      let y : length (pick (body_of d r) (held_with n' u)) ≡ length (pick (body_of d r) (held_with m u)) + weigh (eqb u (x % tag_count) and member (x / tag_count) (body_of d r)) 1 =
      ⊎_elim here there (test_cases (eqb u (x % tag_count))) in
      omega arith
    where
      same : (a : ℕ) → (tag_count * a + u ≡ x → ⊥) → held_with n' u a ≡ held_with m u a
      same a o = held (tag_count * a + u) ∙ test_eq (held_of m (tag_count * a + u) or eqb (tag_count * a + u) x) (held_of m (tag_count * a + u)) (λ v. ⊎_elim (λ c. c) (λ c. absurd (o (eqb→eq _ _ c))) (or_elim (held_of m (tag_count * a + u)) (eqb (tag_count * a + u) x) v)) (or_left _ _)

      there : (T (eqb u (x % tag_count)) → ⊥) → length (pick (body_of d r) (held_with n' u)) ≡ length (pick (body_of d r) (held_with m u)) + weigh (eqb u (x % tag_count) and member (x / tag_count) (body_of d r)) 1
      there o =
          let z : weigh (eqb u (x % tag_count) and member (x / tag_count) (body_of d r)) 1 ≡ 0 = weigh_false _ 1 (λ v. o (and_left _ _ v)) in
          let y : length (pick (body_of d r) (held_with n' u)) ≡ length (pick (body_of d r) (held_with m u)) =
          ap (λ h. length (pick (body_of d r) h)) (fun_ext (λ a. same a (λ i. o (eq→eqb u (x % tag_count) (sym (join_mod tag_count a u l) ∙ ap (◌% tag_count) i))))) in omega arith

      here : T (eqb u (x % tag_count)) → length (pick (body_of d r) (held_with n' u)) ≡ length (pick (body_of d r) (held_with m u)) + weigh (eqb u (x % tag_count) and member (x / tag_count) (body_of d r)) 1
      here t =
          let i : u ≡ x % tag_count = eqb→eq _ _ t in
          let j : tag_count * (x / tag_count) + u ≡ x = ap (tag_count * (x / tag_count) +◌) i ∙ join_split tag_count x in
          pick_one_more (body_of d r) (held_with m u) (held_with n' u) (x / tag_count) (bodies r) (of_false _ (ap (held_of m) j ∙ out))
          (of_true _ (ap (held_of n') j ∙ ap (λ z. eqb z 2) mark_here))
          (λ a o. same a (λ c. o (sym (join_div tag_count a u l) ∙ ap (◌/ tag_count) c)))
          ∙ ap (λ z. length (pick (body_of d r) (held_with m u)) + weigh z 1) (test_eq (member (x / tag_count) (body_of d r)) (eqb u (x % tag_count) and member (x / tag_count) (body_of d r)) (and_intro _ _ t) (and_right _ _))

  pub add-end : Added d x m n'
  add-end =
      record {
        ready =
            record {
              invariant = invariant_marks d n n' high (λ k. ap (λ z. use_at z k) e ∙ use_set n (x % tag_count) (x / tag_count) 2 (omega (arith, tag)) (omega arith) k) kept g.invariant;
              tagged = tagged;
            };
        held = held;
        written = written;
        kept = kept_then g.kept kept;
      }

-- the walk over the uses, of the values that the code has at hand
module _ (b : List ℕ) (s : Sizes) (m₀ : List ℕ) (p t : ℕ) (legal : Legal b s)
    (a : Ready (theory_in b s) m₀ × (p < 2 * s.atoms) × (t < tag_count) × (held_of m₀ (tag_count * p + t) ≡ false) × Coherent (adds (held_of m₀) (tag_count * p + t)))
    {first end : ℕ} (at : UsesAt (theory_in b s) p first end) where
  in_theory : p < 2 * (theory_in b s).atoms
  unfolding theory_in
  in_theory = a.1

  pub uses_start_of : Spreading (theory_in b s) p t first m₀ m₀ first
  uses_start_of = spread_start (theory_in b s) (bodies_apart b s legal) p t in_theory a.2 m₀ a.0 at

  module _ (m : List ℕ) (k : ℕ) (w : Spreading (theory_in b s) p t first m₀ m k) where
    pub uses_end_of : end ≤ k → Spread (theory_in b s) p t m₀ m
    uses_end_of = spread_end (theory_in b s) (bodies_apart b s legal) p t in_theory a.2 m₀ a.0 at m k w

    module _ (h : k < end) where
      pub use_asks_small : (k < uses_size) × (memory_size ≤ length m)
      use_asks_small = (spread_small (theory_in b s) (bodies_apart b s legal) p t in_theory a.2 m₀ a.0 at m k w h, w.invariant.room)

      pub visit_asks : (r : ℕ) → r ≡ use_at m k
          → Asks b s m r t
      unfolding theory_in
      visit_asks r f = (
        w.invariant,
        use_below (theory_in b s) (bodies_apart b s legal) p t in_theory a.2 m₀ a.0 at m k w h r f,
        a.2,
        use_asks (theory_in b s) (bodies_apart b s legal) p t in_theory a.2 m₀ a.0 at m k w h r f a.3 a.4,
      )

      pub uses_next_of : (r : ℕ) → r ≡ use_at m k → (n : List ℕ) → Visited (theory_in b s) t r m n → Spreading (theory_in b s) p t first m₀ n (k + 1)
      uses_next_of r f n v = spread_next (theory_in b s) (bodies_apart b s legal) p t in_theory a.2 m₀ a.0 at m k w h r f n v

-- and the whole
module _ (b : List ℕ) (s : Sizes) (m : List ℕ) (x p t : ℕ) (e : p ≡ x / tag_count) (f : t ≡ x % tag_count) (legal : Legal b s)
    (a : Ready (theory_in b s) m × (x < tag_count * (2 * s.atoms)) × (written_of m x ≡ true) × (held_of m x ≡ false) × Coherent (adds (held_of m) x)) where
  atoms_few : s.atoms ≤ 512
  atoms_few = (limited s legal.limits).atoms

  quarter : x / tag_count < 2 * s.atoms
  quarter = let h : x < tag_count * (2 * s.atoms) = omega (arith, a.1) in split_below tag_count (2 * s.atoms) x (omega arith) h

  pub uses_asks : (Ready (theory_in b s) m × (p < 2 * s.atoms) × (t < tag_count) × (held_of m (tag_count * p + t) ≡ false) × Coherent (adds (held_of m) (tag_count * p + t))) × ((p < field_size) × (memory_size ≤ length m))
  uses_asks =
      let r : x % tag_count < tag_count = mod-lt x (omega arith) in
      let i : tag_count * p + t ≡ x = ap₂ (λ y z. tag_count * y + z) e f ∙ join_split tag_count x in (
        (a.0, omega (arith, quarter), omega arith, ap (held_of m) i ∙ a.3, subst (λ z. Coherent (adds (held_of m) z)) (sym i) a.4),
        (omega (arith, quarter, atoms_few), a.0.invariant.room),
      )

  pub mark_asks : (n : List ℕ) (i j : ℕ) → i ≡ t → j ≡ p → Spread (theory_in b s) p t m n → (i < field_count) × (j < field_size) × (memory_size ≤ length n)
  mark_asks n i j g h w = let r : x % tag_count < tag_count = mod-lt x (omega arith) in (omega arith, omega (arith, quarter, atoms_few), w.invariant.room)

  pub added_of : (n n' : List ℕ) (i j : ℕ) → i ≡ t → j ≡ p → Spread (theory_in b s) p t m n → n' ≡ set n (field_size * i + j) 2 → Added (theory_in b s) x m n'
  unfolding theory_in
  added_of n n' i j g h w c =
      add-end (theory_in b s) (bodies_apart b s legal) atoms_few x quarter m a.0 a.2 a.3 n
      (subst (λ z. Spread (theory_in b s) (x / tag_count) z m n) f (subst (λ z. Spread (theory_in b s) z t m n) e w)) n' (c ∙ ap₂ (λ y z. set n (field_size * y + z) 2) (g ∙ f) (h ∙ e))
