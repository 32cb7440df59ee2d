-- The counts after one word grew: laws of specs/Visits.antt. Assumes nothing.
use Prim.Native.Nat.{ℕ, zero, suc, ◌+◌, ◌-◌, ◌*◌, ◌%◌, ◌≤◌, ◌<◌}
use native.Mathlib.Nat.{zero-lt-suc}
use native.Mathlib.Omega.{arith}
use mathlib.Core.Path.{◌≡◌, refl, sym, ◌∙◌, ap, ap₂, subst}
use mathlib.Core.Logic.{◌⊎◌, inl, inr, ⊎_elim}
use mathlib.Core.Bool.{Bool, true, false, cond}
use lib.Dec.{T, ltb, eqb, eqb→eq, eqb_refl, ltb→lt, lt→ltb}
use Rattle.logic.specs.Tests.{◌and◌, ◌or◌, isnt, count_below, weigh}
use Rattle.logic.specs.Theory.{Theory, Kind, can_support, complement, kind_of, head_of, strict_for, supporter}
use Rattle.logic.proofs.Tests.{and_intro, and_left, and_right, and_swap, and_true, at_most, cond_cases, eq→eqb, lt_suc_cases, or_elim, or_left, or_right, test_cases, test_eq}
use Rattle.logic.proofs.Sums.{total_ext, total_point, weigh_false, weigh_true}
use Rattle.memory.specs.Layout.{tag_count, field_count}
use Rattle.memory.specs.Fields.{has, size_f, rivals_f, beaten_f, lost_f, proved_f, refuted_f, firing_f, out_f, countered_f, unopposed_f, rivals_end, counts_end, rivals_by, rules_by, by_rival, by_itself_base}
use Rattle.memory.specs.Memory.{rivals_of, Counted}
use Rattle.memory.specs.Visits.{Grown, threshold, reached, allowed, decided_for, just_reached_by_rival, CountedBy}

-- a claim about the fields of literals' counts, by cases
literal_field : (P : ℕ → Type 0) → P proved_f → P refuted_f → P firing_f → P out_f → P countered_f → P unopposed_f → (f : ℕ) → proved_f ≤ f → f < counts_end → P f
literal_field P a b c d e g f lo hi = ⊎_elim (λ h. ⊎_elim (λ h. ⊎_elim (λ h. ⊎_elim (λ h. ⊎_elim (λ h. is proved_f (omega arith) a) (λ i. is refuted_f i b) (lt_suc_cases f refuted_f h)) (λ i. is firing_f i c) (lt_suc_cases f firing_f h)) (λ i. is out_f i d) (lt_suc_cases f out_f h)) (λ i. is countered_f i e) (lt_suc_cases f countered_f h)) (λ i. is unopposed_f i g) (lt_suc_cases f unopposed_f hi)
  where
    is : (n : ℕ) → f ≡ n → P n → P f
    is n i p = subst P (sym i) p

rule_field : (P : ℕ → Type 0) → P beaten_f → P lost_f → (g : ℕ) → beaten_f ≤ g → g < rivals_end → P g
rule_field P a b g lo hi = ⊎_elim (λ h. subst P (omega arith) a) (λ i. subst P (sym i) b) (lt_suc_cases g lost_f hi)

-- the counts as Counted says them, and by fields
pub counts_of : (d : Theory) (w : ℕ → ℕ → ℕ) (b : ℕ → ℕ → Bool) → Counted d w (b beaten_f) (b lost_f) → CountedBy d w (decided_for w) b
unfolding decided_for reached allowed strict_for supporter ◌and◌
counts_of d w b c =
    record {
      rules = λ g r lo hi h. rule_field (λ g. w g r ≡ rivals_of d (b g) r) (c.beaten r h) (c.lost r h) g lo hi;
      literals =
          λ f q lo hi h. literal_field (λ f. w f q ≡ count_below d.rules (λ r. allowed f (kind_of d r) and eqb (head_of d r) q and decided_for w f r))
          (c.proved q h) (c.refuted q h) (c.firing q h) (c.out q h) (c.countered q h) (c.unopposed q h) f lo hi;
    }

pub counted_of : (d : Theory) (w : ℕ → ℕ → ℕ) (b : ℕ → ℕ → Bool) → CountedBy d w (decided_for w) b → Counted d w (b beaten_f) (b lost_f)
unfolding decided_for reached allowed strict_for supporter ◌and◌
counted_of d w b t =
    record {
      beaten = λ r h. t.rules beaten_f r (omega arith) (omega arith) h;
      lost = λ r h. t.rules lost_f r (omega arith) (omega arith) h;
      proved = λ q h. t.literals proved_f q (omega arith) (omega arith) h;
      refuted = λ q h. t.literals refuted_f q (omega arith) (omega arith) h;
      firing = λ q h. t.literals firing_f q (omega arith) (omega arith) h;
      out = λ q h. t.literals out_f q (omega arith) (omega arith) h;
      countered = λ q h. t.literals countered_f q (omega arith) (omega arith) h;
      unopposed = λ q h. t.literals unopposed_f q (omega arith) (omega arith) h;
    }

-- one element more is counted, or not, at the number y that it is for
count_grows : (n : ℕ) (a : ℕ → ℕ → Bool) (p p' : ℕ → Bool) (x y j : ℕ) → x < n → ((q : ℕ) → T (a x q) → q ≡ y) → ((z : ℕ) → z < n → (z ≡ x → ⊥) → p' z ≡ p z)
    → weigh (a x y and p' x) 1 ≡ weigh (a x y and p x) 1 + j → (u v : ℕ → ℕ) → v y ≡ u y + j → ((q : ℕ) → (q ≡ y → ⊥) → v q ≡ u q) → (q : ℕ)
    → u q ≡ count_below n (λ z. a z q and p z) → v q ≡ count_below n (λ z. a z q and p' z)
count_grows n a p p' x y j h only other e u v here else q c = ⊎_elim (λ t. same (eqb→eq q y t)) (λ t. apart (λ i. t (eq→eqb q y i))) (test_cases (eqb q y))
  where
    same : q ≡ y → v q ≡ count_below n (λ z. a z q and p' z)
    same i =
        let g : count_below n (λ z. a z y and p' z) ≡ count_below n (λ z. a z y and p z) + j =
        total_point n (λ z. weigh (a z y and p z) 1) (λ z. weigh (a z y and p' z) 1) x j h e (λ z l o. ap (λ b. weigh (a z y and b) 1) (other z l o)) in
        let k : u y ≡ count_below n (λ z. a z y and p z) = subst (λ q. u q ≡ count_below n (λ z. a z q and p z)) i c in
        subst (λ q. v q ≡ count_below n (λ z. a z q and p' z)) (sym i) (omega arith)

    apart : (q ≡ y → ⊥) → v q ≡ count_below n (λ z. a z q and p' z)
    apart o = else q o ∙ c ∙ total_ext n _ _ (λ z l. ap (λ b. weigh b 1) (⊎_elim
        (λ t. let i : z ≡ x = eqb→eq z x t in test_eq _ _ (λ s. absurd (o (only q (subst (λ k. T (a k q)) i (and_left _ _ s))))) (λ s. absurd (o (only q (subst (λ k. T (a k q)) i (and_left _ _ s))))))
        (λ t. ap (λ b. a z q and b) (sym (other z l (λ i. t (eq→eqb z x i))))) (test_cases (eqb z x))))

-- only the tests of what there is matter, and of pairs only those whose stronger rule can support
pub counts_ext : (d : Theory) (w v : ℕ → ℕ → ℕ) (p p' b b' : ℕ → ℕ → Bool) → ((f i : ℕ) → beaten_f ≤ f → (f < rivals_end) ⊎ (proved_f ≤ f) → v f i ≡ w f i)
    → ((f r : ℕ) → proved_f ≤ f → f < counts_end → r < d.rules → p' f r ≡ p f r)
    → ((g i : ℕ) → beaten_f ≤ g → g < rivals_end → i < d.pairs → T (can_support (kind_of d (d.pair i).stronger)) → b' g i ≡ b g i) → CountedBy d w p b → CountedBy d v p' b'
unfolding supporter
counts_ext d w v p p' b b' e f g t =
    record {
      rules = λ h r lo hi l. e h r lo (inl hi) ∙ t.rules h r lo hi l ∙ total_ext d.pairs _ _ (λ i k. ap (λ z. weigh z 1) (test_eq _ _
          (λ s. and_intro _ _ (and_left _ _ s) (subst T (sym (g h i lo hi k (and_left _ _ (and_right _ _ (and_left _ _ s))))) (and_right _ _ s)))
          (λ s. and_intro _ _ (and_left _ _ s) (subst T (g h i lo hi k (and_left _ _ (and_right _ _ (and_left _ _ s)))) (and_right _ _ s)))));
      literals = λ h q lo hi l. e h q (omega arith) (inr lo) ∙ t.literals h q lo hi l ∙ total_ext d.rules _ _ (λ r k. ap (λ z. weigh (allowed h (kind_of d r) and eqb (head_of d r) q and z) 1) (sym (f h r lo hi k)));
    }

module _ (d : Theory) (w v : ℕ → ℕ → ℕ) (p b : ℕ → ℕ → Bool) (t : CountedBy d w p b) where
  -- the count of field f at the head of rule r
  pub counts_literal : (p' : ℕ → ℕ → Bool) (f r j : ℕ) → proved_f ≤ f → f < counts_end → r < d.rules → Grown f (head_of d r) j w v
      → ((g x : ℕ) → proved_f ≤ g → g < counts_end → x < d.rules → (g ≡ f → x ≡ r → ⊥) → p' g x ≡ p g x)
      → weigh (allowed f (kind_of d r) and p' f r) 1 ≡ weigh (allowed f (kind_of d r) and p f r) 1 + j → CountedBy d v p' b
  counts_literal p' f r j lo hi h g other e =
      record {
        rules = λ k x a c l. g.field k x (λ i. omega arith) ∙ t.rules k x a c l;
        literals = λ k q a c l. ⊎_elim (λ i. subst (λ z. v z q ≡ count_below d.rules (λ x. allowed z (kind_of d x) and eqb (head_of d x) q and p' z x)) (sym (eqb→eq k f i)) (at q l))
            (λ i. let n : k ≡ f → ⊥ = λ s. i (eq→eqb k f s) in g.field k q n ∙ t.literals k q a c l ∙ total_ext d.rules _ _ (λ x b. ap (λ z. weigh (allowed k (kind_of d x) and eqb (head_of d x) q and z) 1) (sym (other k x a c b (λ s _. n s)))))
            (test_cases (eqb k f));
      }
    where
      full : allowed f (kind_of d r) and eqb (head_of d r) (head_of d r) ≡ allowed f (kind_of d r)
      full = and_true _ _ (eqb_refl (head_of d r))

      at : (q : ℕ) → q < 2 * d.atoms → v f q ≡ count_below d.rules (λ x. allowed f (kind_of d x) and eqb (head_of d x) q and p' f x)
      at q l = count_grows d.rules (λ x q. allowed f (kind_of d x) and eqb (head_of d x) q) (p f) (p' f) r (head_of d r) j h (λ q s. sym (eqb→eq _ _ (and_right _ _ s)))
          (λ z b o. other f z lo hi b (λ _. o)) (ap (λ z. weigh (z and p' f r) 1) full ∙ e ∙ ap (λ z. weigh (z and p f r) 1 + j) (sym full)) (w f) (v f) g.here (λ q o. g.index f q o) q (t.literals f q lo hi l)

  -- the count of field f at the weaker rule of pair i
  pub counts_pair : (b' : ℕ → ℕ → Bool) (f i j : ℕ) → beaten_f ≤ f → f < rivals_end → i < d.pairs → Grown f (d.pair i).weaker j w v
      → ((g k : ℕ) → beaten_f ≤ g → g < rivals_end → k < d.pairs → (g ≡ f → k ≡ i → ⊥) → b' g k ≡ b g k)
      → weigh (supporter d (d.pair i).stronger (complement (head_of d (d.pair i).weaker)) and b' f i) 1
      ≡ weigh (supporter d (d.pair i).stronger (complement (head_of d (d.pair i).weaker)) and b f i) 1 + j → CountedBy d v p b'
  counts_pair b' f i j lo hi h g other e =
      record {
        literals = λ k x a c l. g.field k x (λ s. omega arith) ∙ t.literals k x a c l;
        rules = λ k q a c l. ⊎_elim (λ s. subst (λ z. v z q ≡ rivals_of d (b' z) q) (sym (eqb→eq k f s)) (at q l))
            (λ s. let n : k ≡ f → ⊥ = λ s'. s (eq→eqb k f s') in g.field k q n ∙ t.rules k q a c l ∙ total_ext d.pairs _ _ (λ x m. ap (λ z. weigh (eqb (d.pair x).weaker q and supporter d (d.pair x).stronger (complement (head_of d q)) and z) 1) (sym (other k x a c m (λ s _. n s)))))
            (test_cases (eqb k f));
      }
    where
      full : eqb (d.pair i).weaker (d.pair i).weaker and supporter d (d.pair i).stronger (complement (head_of d (d.pair i).weaker)) ≡ supporter d (d.pair i).stronger (complement (head_of d (d.pair i).weaker))
      full = test_eq _ _ (and_right _ _) (and_intro _ _ (eqb_refl (d.pair i).weaker))

      at : (q : ℕ) → q < d.rules → v f q ≡ rivals_of d (b' f) q
      at q l = count_grows d.pairs (λ x q. eqb (d.pair x).weaker q and supporter d (d.pair x).stronger (complement (head_of d q))) (b f) (b' f) i (d.pair i).weaker j h (λ q s. sym (eqb→eq _ _ (and_left _ _ s)))
          (λ z m o. other f z lo hi m (λ _. o)) (ap (λ z. weigh (z and b' f i) 1) full ∙ e ∙ ap (λ z. weigh (z and b f i) 1 + j) (sym full)) (w f) (v f) g.here (λ q o. g.index f q o) q (t.rules f q lo hi l)

-- where a test y says that x turns to x'
abbrev pub Turns : Bool → Bool → Bool → Type 0
Turns x' x y = weigh x' 1 ≡ weigh x 1 + weigh y 1

pub turns_yes : (x' x y : Bool) → Turns x' x y → T y → (T x → ⊥) × T x'
unfolding weigh
turns_yes true true true e t = absurd (omega arith)
turns_yes true false true e t = (λ s. s, tt)
turns_yes false x true e t = absurd (omega arith)
turns_yes x' x false e t = absurd t

pub turns_no : (x' x y : Bool) → Turns x' x y → (T y → ⊥) → x' ≡ x
unfolding weigh
turns_no x' x true e t = absurd (t tt)
turns_no true true false e t = refl
turns_no true false false e t = absurd (omega arith)
turns_no false true false e t = absurd (omega arith)
turns_no false false false e t = refl

pub turns_and : (l x' x y : Bool) → Turns x' x y → Turns (x' and l) (x and l) (y and l)
unfolding weigh ◌and◌
turns_and true true true y e = absurd_or y e
  where
    absurd_or : (y : Bool) → Turns true true y → Turns true true (y and true)
    absurd_or true e = absurd (omega arith)
    absurd_or false e = refl
turns_and true true false true e = refl
turns_and true true false false e = absurd (omega arith)
turns_and true false true y e = absurd (omega arith)
turns_and true false false true e = absurd (omega arith)
turns_and true false false false e = refl
turns_and false true true true e = refl
turns_and false true true false e = refl
turns_and false true false true e = refl
turns_and false true false false e = refl
turns_and false false true true e = refl
turns_and false false true false e = refl
turns_and false false false true e = refl
turns_and false false false false e = refl

-- the same on the left
pub turns_of : (l x' x y : Bool) → Turns x' x y → Turns (l and x') (l and x) (y and l)
turns_of l x' x y e = ap (λ z. weigh z 1) (and_swap l x') ∙ turns_and l x' x y e ∙ ap (λ z. weigh z 1 + weigh (y and l) 1) (and_swap x l)

pub turns_or : (l x' x y : Bool) → Turns x' x y → Turns (x' or l) (x or l) (y and isnt l)
unfolding weigh ◌and◌ ◌or◌ isnt
turns_or true true true true e = absurd (omega arith)
turns_or true true true false e = refl
turns_or true true false true e = refl
turns_or true true false false e = refl
turns_or true false true true e = refl
turns_or true false true false e = refl
turns_or true false false true e = refl
turns_or true false false false e = refl
turns_or false true true true e = absurd (omega arith)
turns_or false true true false e = refl
turns_or false true false true e = refl
turns_or false true false false e = absurd (omega arith)
turns_or false false true y e = absurd (omega arith)
turns_or false false false true e = absurd (omega arith)
turns_or false false false false e = refl

-- a count of antecedents that grows by one, below its threshold, reaches it or not
threshold_step : (even : Bool) (a a' n n' : ℕ) → a' ≡ a + 1 → n' ≡ n → a < n
    → Turns (cond even (eqb a' n') (ltb 0 a')) (cond even (eqb a n) (ltb 0 a)) (eqb a' (cond even n 1))
threshold_step true a a' n n' e f h =
    let z : weigh (eqb a n) 1 ≡ 0 = weigh_false _ 1 (λ t. let i : a ≡ n = eqb→eq a n t in omega arith) in
    let y : weigh (eqb a' n') 1 ≡ weigh (eqb a' n) 1 = ap (λ k. weigh (eqb a' k) 1) f in omega arith
threshold_step false zero a' n n' e f h =
    let x : weigh (ltb 0 a') 1 ≡ 1 = weigh_true _ 1 (lt→ltb 0 a' (omega arith)) in
    let y : weigh (eqb a' 1) 1 ≡ 1 = weigh_true _ 1 (eq→eqb a' 1 (omega arith)) in
    let z : weigh (ltb 0 0) 1 ≡ 0 = weigh_false _ 1 (λ t. t) in omega arith
threshold_step false (suc a) a' n n' e f h =
    let x : weigh (ltb 0 a') 1 ≡ 1 = weigh_true _ 1 (lt→ltb 0 a' (omega arith)) in
    let y : weigh (eqb a' 1) 1 ≡ 0 = weigh_false _ 1 (λ t. let i : a' ≡ 1 = eqb→eq a' 1 t in omega arith) in
    let z : weigh (ltb 0 (suc a)) 1 ≡ 1 = weigh_true _ 1 (lt→ltb 0 (suc a) (zero-lt-suc a)) in omega arith

pub reached_step : (w v : ℕ → ℕ → ℕ) (t r : ℕ) → t < tag_count → Grown (has t) r 1 w v → w (has t) r < w size_f r
    → Turns (reached v t r) (reached w t r) (eqb (v (has t) r) (threshold t (w size_f r)))
unfolding reached threshold
reached_step w v t r h g l = threshold_step (eqb (t % 2) 0) (w (has t) r) (v (has t) r) (w size_f r) (v size_f r) g.here (g.field size_f r (λ e. omega arith)) l

-- which words the tests read
pub reached_same : (w v : ℕ → ℕ → ℕ) (t x : ℕ) → v (has t) x ≡ w (has t) x → v size_f x ≡ w size_f x → reached v t x ≡ reached w t x
unfolding reached
reached_same w v t x e f = ap₂ (λ a n. cond (eqb (t % 2) 0) (eqb a n) (ltb 0 a)) e f

unfoldable tag_of : ℕ → ℕ
tag_of f = cond (ltb f countered_f) (f - proved_f) (by_itself_base - f)

decided_same : (w v : ℕ → ℕ → ℕ) (x : ℕ) → v size_f x ≡ w size_f x → v rivals_f x ≡ w rivals_f x → (f : ℕ) → proved_f ≤ f → f < counts_end
    → v (has (tag_of f)) x ≡ w (has (tag_of f)) x → (f ≡ countered_f → v beaten_f x ≡ w beaten_f x) → (f ≡ unopposed_f → v lost_f x ≡ w lost_f x) → decided_for v f x ≡ decided_for w f x
unfolding decided_for tag_of
decided_same w v x s n = literal_field (λ f. v (has (tag_of f)) x ≡ w (has (tag_of f)) x → (f ≡ countered_f → v beaten_f x ≡ w beaten_f x) → (f ≡ unopposed_f → v lost_f x ≡ w lost_f x) → decided_for v f x ≡ decided_for w f x)
    (λ e _ _. reached_same w v 0 x e s) (λ e _ _. reached_same w v 1 x e s) (λ e _ _. reached_same w v 2 x e s) (λ e _ _. reached_same w v 3 x e s)
    (λ e f _. ap₂ (λ a b. a or ltb 0 b) (reached_same w v 3 x e s) (f refl))
    (λ e _ f. ap₂ (λ a b. a and b) (reached_same w v 2 x e s) (ap₂ eqb (f refl) n))

pub grown_other : {f i k : ℕ} {w v : ℕ → ℕ → ℕ} → Grown f i k w v → (g j : ℕ) → (g ≡ f → j ≡ i → ⊥) → v g j ≡ w g j
grown_other {f} g h j o = ⊎_elim (λ t. g.index h j (o (eqb→eq h f t))) (λ t. g.field h j (λ e. t (eq→eqb h f e))) (test_cases (eqb h f))

-- all that is decided_for stays, when a count of literals grows; and when a word of rule r for tag t does, all but what is of r and t
pub decided_literal : (w v : ℕ → ℕ → ℕ) (h q k : ℕ) → proved_f ≤ h → Grown h q k w v → (f x : ℕ) → proved_f ≤ f → f < counts_end → decided_for v f x ≡ decided_for w f x
unfolding tag_of
decided_literal w v h q k l g f x lo hi =
    decided_same w v x (g.field size_f x (λ e. omega arith)) (g.field rivals_f x (λ e. omega arith)) f lo hi
    (g.field (has (tag_of f)) x (λ e. cond_cases (λ z. has z ≡ h → ⊥) (ltb f countered_f) (f - proved_f) (by_itself_base - f) (λ t i. let b : f < countered_f = ltb→lt f countered_f t in omega arith) (λ _ i. omega arith) e))
    (λ _. g.field beaten_f x (λ e. omega arith)) (λ _. g.field lost_f x (λ e. omega arith))

pub decided_tag : (w v : ℕ → ℕ → ℕ) (t r : ℕ) → t < tag_count → Grown (has t) r 1 w v → (f x : ℕ) → proved_f ≤ f → f < counts_end → (x ≡ r → (f ≡ rules_by t) ⊎ (f + t ≡ field_count) → ⊥) → decided_for v f x ≡ decided_for w f x
unfolding tag_of
decided_tag w v t r h g f x lo hi o =
    decided_same w v x (g.field size_f x (λ e. omega arith)) (g.field rivals_f x (λ e. omega arith)) f lo hi
    (grown_other g (has (tag_of f)) x (λ e i. cond_cases (λ z. has z ≡ has t → ⊥) (ltb f countered_f) (f - proved_f) (by_itself_base - f) (λ _ j. o i (inl (omega arith))) (λ _ j. o i (inr (omega arith))) e))
    (λ _. g.field beaten_f x (λ e. omega arith)) (λ _. g.field lost_f x (λ e. omega arith))

-- and the marks of literals have no part in it
pub decided_marks : (w v : ℕ → ℕ → ℕ) → ((f i : ℕ) → has 0 ≤ f → v f i ≡ w f i) → (f x : ℕ) → proved_f ≤ f → f < counts_end → decided_for v f x ≡ decided_for w f x
decided_marks w v e f x lo hi =
    decided_same w v x (e size_f x (omega arith)) (e rivals_f x (omega arith)) f lo hi (e (has (tag_of f)) x (omega arith)) (λ _. e beaten_f x (omega arith)) (λ _. e lost_f x (omega arith))

-- and when a count of rivals of rule x grows, all but what that decides of x
pub decided_rule : (w v : ℕ → ℕ → ℕ) (t x k : ℕ) → 2 ≤ t → t < tag_count → Grown (rivals_by t) x k w v → (f y : ℕ) → proved_f ≤ f → f < counts_end → (f ≡ by_rival t → y ≡ x → ⊥) → decided_for v f y ≡ decided_for w f y
unfolding tag_of
decided_rule w v t x k l h g f y lo hi o =
    decided_same w v y (g.field size_f y (λ e. omega arith)) (g.field rivals_f y (λ e. omega arith)) f lo hi
    (g.field (has (tag_of f)) y (λ e. cond_cases (λ z. has z ≡ rivals_by t → ⊥) (ltb f countered_f) (f - proved_f) (by_itself_base - f) (λ c i. let b : f < countered_f = ltb→lt f countered_f c in omega arith) (λ _ i. omega arith) e))
    (λ e. grown_other g beaten_f y (λ i. o (omega arith))) (λ e. grown_other g lost_f y (λ i. o (omega arith)))

countered_turns : (a c : ℕ) → Turns (ltb 0 a or ltb 0 (c + 1)) (ltb 0 a or ltb 0 c) (eqb (c + 1) 1 and eqb a 0)
countered_turns a c = ⊎_elim (λ h. ⊎_elim (both h) (later h) (at_most c 0)) out (at_most a 0)
  where
    after : weigh (ltb 0 a or ltb 0 (c + 1)) 1 ≡ 1
    after = weigh_true _ 1 (or_right _ _ (lt→ltb 0 (c + 1) (omega arith)))

    out : 0 < a → Turns (ltb 0 a or ltb 0 (c + 1)) (ltb 0 a or ltb 0 c) (eqb (c + 1) 1 and eqb a 0)
    out h =
        let x : weigh (ltb 0 a or ltb 0 c) 1 ≡ 1 = weigh_true _ 1 (or_left _ _ (lt→ltb 0 a h)) in
        let y : weigh (eqb (c + 1) 1 and eqb a 0) 1 ≡ 0 = weigh_false _ 1 (λ t. let e : a ≡ 0 = eqb→eq a 0 (and_right _ _ t) in omega arith) in
        omega (arith, after)

    later : a ≤ 0 → 0 < c → Turns (ltb 0 a or ltb 0 (c + 1)) (ltb 0 a or ltb 0 c) (eqb (c + 1) 1 and eqb a 0)
    later _ h =
        let x : weigh (ltb 0 a or ltb 0 c) 1 ≡ 1 = weigh_true _ 1 (or_right _ _ (lt→ltb 0 c h)) in
        let y : weigh (eqb (c + 1) 1 and eqb a 0) 1 ≡ 0 = weigh_false _ 1 (λ t. let e : c + 1 ≡ 1 = eqb→eq _ _ (and_left _ _ t) in omega arith) in
        omega (arith, after)

    both : a ≤ 0 → c ≤ 0 → Turns (ltb 0 a or ltb 0 (c + 1)) (ltb 0 a or ltb 0 c) (eqb (c + 1) 1 and eqb a 0)
    both h k =
        let x : weigh (ltb 0 a or ltb 0 c) 1 ≡ 0 =
        weigh_false _ 1 (λ t. ⊎_elim (λ u. let z : 0 < a = ltb→lt 0 a u in omega arith) (λ u. let z : 0 < c = ltb→lt 0 c u in omega arith) (or_elim _ _ t)) in
        let y : weigh (eqb (c + 1) 1 and eqb a 0) 1 ≡ 1 = weigh_true _ 1 (and_intro _ _ (eq→eqb (c + 1) 1 (omega arith)) (eq→eqb a 0 (omega arith))) in
        omega (arith, after)

unopposed_turns : (a n l k : ℕ) → l < k → Turns (eqb a n and eqb (l + 1) k) (eqb a n and eqb l k) (eqb (l + 1) k and eqb a n)
unopposed_turns a n l k h =
    let x : weigh (eqb a n and eqb l k) 1 ≡ 0 = weigh_false _ 1 (λ t. let e : l ≡ k = eqb→eq _ _ (and_right _ _ t) in omega arith) in
    let y : weigh (eqb a n and eqb (l + 1) k) 1 ≡ weigh (eqb (l + 1) k and eqb a n) 1 = ap (λ z. weigh z 1) (and_swap _ _) in omega arith

-- how a rule that is notified becomes countered (t = 2) or unopposed (t = 3)
abbrev pub NotifiedTurns : ℕ → Type 0
NotifiedTurns t = (w v : ℕ → ℕ → ℕ) (x : ℕ) (a : Bool) (k : Kind) → Grown (rivals_by t) x (weigh a 1) w v → v (rivals_by t) x ≤ v rivals_f x
    → Turns (allowed (by_rival t) k and decided_for v (by_rival t) x) (allowed (by_rival t) k and decided_for w (by_rival t) x) (a and just_reached_by_rival v t x)

-- nothing was notified
unheard : (x y : Bool) → x ≡ y → Turns x y false
unfolding weigh
unheard true y e = subst (λ z. Turns true z false) e refl
unheard false y e = subst (λ z. Turns false z false) e refl

pub notified_countered : NotifiedTurns 2
unfolding decided_for allowed just_reached_by_rival reached weigh ◌and◌
notified_countered w v x true k g _ =
    ap₂ (λ a c. weigh (ltb 0 a or ltb 0 c) 1) seven g.here ∙ countered_turns (w (has 3) x) (w beaten_f x)
    ∙ sym (ap₂ (λ a c. weigh (ltb 0 (w (has 3) x) or ltb 0 (w beaten_f x)) 1 + weigh (eqb c 1 and eqb a 0) 1) seven g.here)
  where
    seven : v (has 3) x ≡ w (has 3) x
    seven = g.field (has 3) x (λ e. omega arith)
notified_countered w v x false k g _ =
    unheard _ _ (ap₂ (λ a c. ltb 0 a or ltb 0 c) (g.field (has 3) x (λ e. omega arith)) (let e : v beaten_f x ≡ w beaten_f x = omega (arith, g.here) in e))

pub notified_unopposed : NotifiedTurns 3
unfolding decided_for allowed just_reached_by_rival reached weigh ◌and◌
notified_unopposed w v x true k g b =
    ap₂ (λ a l. weigh (a and l) 1) fire (ap₂ eqb g.here twelve) ∙ unopposed_turns (w (has 2) x) (w size_f x) (w lost_f x) (w rivals_f x) (omega (arith, g.here, twelve))
    ∙ sym (ap₂ (λ a l. weigh (eqb (w (has 2) x) (w size_f x) and eqb (w lost_f x) (w rivals_f x)) 1 + weigh (l and a) 1) fire (ap₂ eqb g.here twelve))
  where
    twelve : v rivals_f x ≡ w rivals_f x
    twelve = g.field rivals_f x (λ e. omega arith)

    fire : eqb (v (has 2) x) (v size_f x) ≡ eqb (w (has 2) x) (w size_f x)
    fire = ap₂ eqb (g.field (has 2) x (λ e. omega arith)) (g.field size_f x (λ e. omega arith))
notified_unopposed w v x false k g b =
    unheard _ _ (ap₂ (λ a l. a and l) (ap₂ eqb (g.field (has 2) x (λ e. omega arith)) (g.field size_f x (λ e. omega arith)))
    (ap₂ eqb (let e : v lost_f x ≡ w lost_f x = omega (arith, g.here) in e) (g.field rivals_f x (λ e. omega arith))))
