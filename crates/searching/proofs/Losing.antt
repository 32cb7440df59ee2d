-- What the rules have lost (specs/Leaving.antt): the start, one loss more, and what the end says. Assumes nothing.
use Prim.Native.Nat.{ℕ, suc, ◌+◌, ◌*◌, ◌≤◌, ◌<◌}
use native.Mathlib.Nat.{le_antisymm}
use native.Mathlib.Omega.{arith}
use mathlib.Core.Path.{◌≡◌, refl, sym, ◌∙◌, ap, ap₂, subst}
use mathlib.Core.Logic.{⊎_elim}
use mathlib.Core.Bool.{Bool, false, not}
use mathlib.Core.List.{List, [], ◌∷◌}
use lib.Dec.{T, eqb, eqb→eq, ltb, ltb→lt}
use lib.ListN.{length, get_or, set, take, length-set}
use lib.Seq.{get_or-set_same, get_or-set_other}
use Rattle.logic.specs.Tests.{◌and◌, isnt, member, distinct, weigh, pick}
use Rattle.logic.specs.Theory.{Theory, head_of, body_of}
use Rattle.logic.proofs.Tests.{test_cases, true_of, false_of, not_isnt, eq→eqb, and_left, and_right, isnt_elim, some_of_elim, every_of_elim}
use Rattle.logic.proofs.Lists.{pick_le, pick_same}
use Rattle.logic.proofs.Sums.{weigh_false, weigh_le}
use Rattle.logic.proofs.Pigeon.{pigeon}
use Rattle.memory.specs.Memory.{antecedents}
use Rattle.memory.specs.Founding.{secure, needy}
use Rattle.memory.proofs.inference.Counting.{pick_all}
use Rattle.memory.proofs.inference.Following.{and_yes}
use Rattle.searching.specs.Leaving.{Leaves, founds, Excluded, Listed, Barring, Reached}
use Rattle.searching.proofs.Unfounded.{unfounded_has}
use Rattle.searching.proofs.Leaving.{leaves_as, room, leaving_next, leaving_in, leaving_kept}

-- what an accepted table's theory has
pub record Orderly (d : Theory) : Type 0 where
  pub few : d.atoms ≤ 512
  pub small : d.rules ≤ 1024
  pub heads : (r : ℕ) → r < d.rules → head_of d r < 2 * d.atoms
  pub apart : (r : ℕ) → T (distinct (body_of d r))
  pub within : (r a : ℕ) → r < d.rules → T (member a (body_of d r)) → a < 2 * d.atoms

-- where so many of a rule's antecedents pass, all do
all_passed : (d : Theory) (p : ℕ → Bool) (r : ℕ) → length (body_of d r) ≤ antecedents d p r → (a : ℕ) → T (member a (body_of d r)) → T (p a)
all_passed d p r h =
    let e : antecedents d p r ≡ length (body_of d r) = omega (arith, pick_le (body_of d r) p) in
    every_of_elim (body_of d r) p (subst T (pick_all (body_of d r) p) (eq→eqb _ _ e))

-- none passes a test that nothing passes
none_passed : (l : List ℕ) → length (pick l (λ _. false)) ≡ 0
unfolding pick
none_passed [] = refl
none_passed (x ∷ l) = none_passed l

-- A rule makes its head leave or not, by what was read.
module _ (d : Theory) (holds : ℕ → ℕ → Bool) (i n r : ℕ) {k : ℕ} (e : k ≡ suc (length (body_of d r))) where
  pub founds_not : (n ≡ k → ⊥) → false ≡ founds d holds i n r
  unfolding founds
  founds_not ne = sym (false_of _ (λ t. ne (eqb→eq _ _ (and_left _ _ (and_left _ _ t)) ∙ sym e)))

  pub founds_so : {q : ℕ} {x a b : Bool} → n ≡ k → q ≡ head_of d r → a ≡ needy d holds i r → b ≡ secure d holds i q → x ≡ (a and not b) → x ≡ founds d holds i n r
  unfolding founds
  founds_so {b = b} all f ea eb ex =
      ex ∙ ap₂ ◌and◌ (ea ∙ and_yes _ (true_of _ (eq→eqb _ _ (all ∙ e)))) (not_isnt b ∙ ap isnt (eb ∙ ap (λ z. secure d holds i z) f))

-- what a loss asks
abbrev pub Asks : Theory → List ℕ → List ℕ → ℕ → ℕ → Type 0
Asks d lost gone end r = (get_or lost r 0 < 65535) × (end ≤ 1024) × (get_or gone (head_of d r) 0 ≡ 0 → end < 1024)

-- and what it does, by what was read
pub loss_read : (d : Theory) (holds : ℕ → ℕ → Bool) (i n : ℕ) {r q : ℕ} {gone list : List ℕ} {end : ℕ} {gone' list' : List ℕ} {last : ℕ} {x : Bool} → q ≡ head_of d r
    → x ≡ founds d holds i n r → Leaves x q gone list end gone' list' last → Leaves (founds d holds i n r) (head_of d r) gone list end gone' list' last
loss_read d holds i n g u k = leaves_as u g k

module _ (d : Theory) (holds : ℕ → ℕ → Bool) (i : ℕ) where
  -- the head of a rule that has lost all, and is needy, is in no set, unless it is secure
  founded_out : (gone list : List ℕ) → Listed d holds i gone list → (told : ℕ → Bool) → ((a : ℕ) → T (told a) → T (member a list))
      → (r n w : ℕ) → r < d.rules → w ≤ 1 → n ≡ w + antecedents d told r → T (founds d holds i n r) → Excluded d holds i (head_of d r)
  unfolding founds
  founded_out gone list k told heard r n w h l e f s g m =
      let all : n ≡ suc (length (body_of d r)) = eqb→eq _ _ (and_left _ _ (and_left _ _ f)) in
      let (a, u, v) = some_of_elim (body_of d r) s (unfounded_has d holds s i (head_of d r) (g (head_of d r) m) (isnt_elim _ (and_right _ _ f)) r h (and_right _ _ (and_left _ _ f)) refl) in
      k.out a (heard a (all_passed d told r (omega arith) a u)) s g v

  -- nothing is lost
  pub lost_none : (lost gone list : List ℕ) (end : ℕ) → Orderly d → Barring d holds i gone list end (2 * d.atoms) → length lost ≡ 1024 → ((r : ℕ) → r < 1024 → get_or lost r 0 ≡ 0)
      → Reached d holds i 0 (λ _ _. false) lost gone list end
  unfolding founds
  lost_none lost gone list end o k e z =
      record {
        barring = k;
        losses =
            record {
              counts = λ r h. omega (arith, z r (omega (arith, o.small)), weigh_false (ltb r 0) 1 (λ t. let l = ltb→lt r 0 t in omega arith), none_passed (body_of d r));
              heard = λ a r t. absurd t;
              founded =
                  λ r h t. let all : get_or lost r 0 ≡ suc (length (body_of d r)) = eqb→eq _ _ (and_left _ _ (and_left _ _ t)) in
                  absurd (omega (arith, z r (omega (arith, o.small))));
            };
        words = e;
      }

  -- only what the rules were told of their own antecedents matters
  pub lost_ext : (n : ℕ) (told told' : ℕ → ℕ → Bool) (lost gone list : List ℕ) (end : ℕ) → ((r : ℕ) → r < d.rules → (a : ℕ) → T (member a (body_of d r)) → told' a r ≡ told a r)
      → ((a r : ℕ) → T (told' a r) → T (member a (take end list))) → Reached d holds i n told lost gone list end → Reached d holds i n told' lost gone list end
  lost_ext n told told' lost gone list end e f k =
      record {
        barring = k.barring;
        losses =
            record {
              counts = λ r h. k.losses.counts r h ∙ ap (λ l. weigh (ltb r n) 1 + length l) (sym (pick_same (body_of d r) (λ a. told a r) (λ a. told' a r) (e r h)));
              heard = f;
              founded = k.losses.founded;
            };
        words = k.words;
      }

  pub lost_until : (m n : ℕ) (told : ℕ → ℕ → Bool) (lost gone list : List ℕ) (end : ℕ) → m ≤ n → n ≤ m → Reached d holds i m told lost gone list end
      → Reached d holds i n told lost gone list end
  lost_until m n told lost gone list end f g k = subst (λ z. Reached d holds i z told lost gone list end) (le_antisymm f g) k

  -- One loss more, of rule r.
  module _ (n : ℕ) (told : ℕ → ℕ → Bool) (lost gone list : List ℕ) (end : ℕ) (o : Orderly d) (k : Reached d holds i n told lost gone list end) (r : ℕ) (h : r < d.rules) where
    loss_fits : r < length lost
    loss_fits = omega (arith, k.words, o.small)

    -- a rule has lost no more than its antecedents and the virtual one, and there is room for its head
    pub loss_asks : Asks d lost gone end r
    loss_asks =
        let v = k.barring.leaving in (
          omega (
            arith,
            k.losses.counts r h,
            weigh_le (ltb r n) 1,
            pick_le (body_of d r) (λ a. told a r),
            pigeon (2 * d.atoms) (body_of d r) (o.apart r) (λ a. o.within r a h),
            o.few,
          ),
          v.within,
          room d holds i gone list end v o.few (head_of d r) (o.heads r h),
        )

    module _ (n' : ℕ) (told' : ℕ → ℕ → Bool) (heard : (a x : ℕ) → T (told' a x) → T (member a (take end list)))
        (here : weigh (ltb r n') 1 + antecedents d (λ a. told' a r) r ≡ get_or lost r 0 + 1)
        (other : (x : ℕ) → x < d.rules → (x ≡ r → ⊥) → weigh (ltb x n') 1 + antecedents d (λ a. told' a x) x ≡ weigh (ltb x n) 1 + antecedents d (λ a. told a x) x)
        (gone' list' : List ℕ) (last : ℕ) (p : Leaves (founds d holds i (get_or lost r 0 + 1) r) (head_of d r) gone list end gone' list' last) where
      out : T (founds d holds i (get_or lost r 0 + 1) r) → Excluded d holds i (head_of d r)
      out =
          founded_out gone (take end list) k.barring.leaving.listed (λ a. told' a r) (λ a. heard a r) r (get_or lost r 0 + 1) (weigh (ltb r n') 1) h (weigh_le (ltb r n') 1) (sym here)

      kept : (x : ℕ) → T (member x (take end list)) → T (member x (take last list'))
      kept = leaving_kept d holds i gone list end k.barring.leaving o.few (head_of d r) (o.heads r h) _ out gone' list' last p

      lost_at : (x : ℕ) → x ≡ r → get_or (set lost r (get_or lost r 0 + 1)) x 0 ≡ get_or lost r 0 + 1
      lost_at x e = ap (λ y. get_or (set lost r (get_or lost r 0 + 1)) y 0) e ∙ get_or-set_same lost r (get_or lost r 0 + 1) 0 loss_fits

      lost_other : (x : ℕ) → (x ≡ r → ⊥) → get_or (set lost r (get_or lost r 0 + 1)) x 0 ≡ get_or lost x 0
      lost_other x ne = get_or-set_other lost r x (get_or lost r 0 + 1) 0 ne

      counts_next : (x : ℕ) → x < d.rules → get_or (set lost r (get_or lost r 0 + 1)) x 0 ≡ weigh (ltb x n') 1 + antecedents d (λ a. told' a x) x
      counts_next x l =
          ⊎_elim
          (λ t. let e : x ≡ r = eqb→eq x r t in lost_at x e ∙ sym (subst (λ y. weigh (ltb y n') 1 + antecedents d (λ a. told' a y) y ≡ get_or lost r 0 + 1) (sym e) here))
          (λ t. let ne : (x ≡ r) → ⊥ = λ e. t (eq→eqb x r e) in lost_other x ne ∙ k.losses.counts x l ∙ sym (other x l ne)) (test_cases (eqb x r))

      founded_next : (x : ℕ) → x < d.rules → T (founds d holds i (get_or (set lost r (get_or lost r 0 + 1)) x 0) x) → T (member (head_of d x) (take last list'))
      founded_next x l t =
          ⊎_elim
          (λ u. let e : x ≡ r = eqb→eq x r u in
          subst (λ y. T (member (head_of d y) (take last list'))) (sym e)
          (leaving_in d holds i gone list end k.barring.leaving o.few (head_of d r) (o.heads r h) _ out gone' list' last p
          (subst (λ y. T (founds d holds i (get_or lost r 0 + 1) y)) e (subst (λ m. T (founds d holds i m x)) (lost_at x e) t))))
          (λ u. let ne : (x ≡ r) → ⊥ = λ e. u (eq→eqb x r e) in kept (head_of d x) (k.losses.founded x l (subst (λ m. T (founds d holds i m x)) (lost_other x ne) t)))
          (test_cases (eqb x r))

      pub loss_next : (lost' : List ℕ) → lost' ≡ set lost r (get_or lost r 0 + 1) → Reached d holds i n' told' lost' gone' list' last
      loss_next lost' e =
          subst (λ l. Reached d holds i n' told' l gone' list' last) (sym e)
          (record {
            barring =
                record {
                  leaving = leaving_next d holds i gone list end k.barring.leaving o.few (head_of d r) (o.heads r h) _ out gone' list' last p;
                  bars = λ q l b. kept q (k.barring.bars q l b);
                };
            losses = record { counts = counts_next; heard = λ a x t. kept a (heard a x t); founded = founded_next };
            words = length-set lost r (get_or lost r 0 + 1) ∙ k.words;
          })
