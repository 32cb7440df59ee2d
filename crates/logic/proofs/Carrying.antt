-- One system carries into another: what is derivable in the one is derivable in the other. Under every reading theories that correspond do, so
-- their finished runs have the same tags. Assumes nothing.
use Prim.Native.Nat.{ℕ, ◌*◌, ◌/◌, ◌%◌, ◌<◌}
use mathlib.Core.Path.{◌≡◌, refl, sym, ap, subst}
use mathlib.Core.Logic.{⊎_elim}
use mathlib.Core.Bool.{Bool}
use mathlib.Core.List.{List, [], ◌∷◌, ◌++◌}
use lib.Dec.{T}
use Rattle.logic.specs.Tests.{member, pick}
use Rattle.logic.specs.Theory.{Theory, proper}
use Rattle.logic.specs.System.{System, Searches, held, yields, derives_from, derivation, Derivable}
use Rattle.logic.specs.Reading.{Reading, tags, family_of, conclusion, candidates, tagged_by, system_of, set_of, searches_of}
use Rattle.logic.specs.Correspondence.{Corresponds}
use Rattle.logic.specs.Laws.{Rules, reading_run, logged, SameTags}
use Rattle.logic.proofs.Tests.{cond_cases, and_intro, and_left, and_right, or_left, or_right, or_elim, some_intro, some_elim}
use Rattle.logic.proofs.Largest.{largest_below, largest-holds}
use Rattle.logic.proofs.Lists.{member_left, member_last, member_snoc, member_pick_intro}
use Rattle.logic.proofs.Literals.{join_div}
use Rattle.logic.proofs.Theories.{heads_below}
use Rattle.logic.proofs.Derivations.{derives_next, derives_below, derives_yields, derives_later}
use Rattle.logic.proofs.Budgets.{run_exact}
use Rattle.logic.proofs.Correspondence.{corresponds_turn, candidate_within}
use Rattle.logic.proofs.Readings.{system_lawful, set_fits}

-- Among a set of conclusions: what follows in the one follows in the other from whatever holds as much of the set.
pub record Carries (s z : System) (u v : Searches) (among : ℕ → Bool) : Type 0 where
  pub conclusions : s.conclusions ≡ z.conclusions
  pub infers : (h g : ℕ → Bool) (x : ℕ) → T (among x) → ((y : ℕ) → T (among y) → T (h y) → T (g y)) → T (s.infers h x) → T (z.infers g x)
  pub count : u.count ≡ v.count
  pub finds : (i : ℕ) (h g : ℕ → Bool) (x : ℕ) → T (among x) → ((y : ℕ) → T (among y) → T (h y) → T (g y)) → T (u.finds i h x) → T (v.finds i g x)

module _ {s z : System} {u v : Searches} {among : ℕ → Bool} (c : Carries s z u v among) where
  -- what is yielded in the one is yielded in the other
  yields_carried : (h g : ℕ → Bool) (x : ℕ) → T (among x) → ((y : ℕ) → T (among y) → T (h y) → T (g y)) → T (yields s u h x) → T (yields z v g x)
  yields_carried h g x a f t =
      ⊎_elim (λ n. or_left _ _ (c.infers h g x a f n))
      (λ n. let (i, b, w) = some_elim _ _ n in or_right _ _ (some_intro _ _ i (subst (λ k. i < k) c.count b) (c.finds i h g x a f w))) (or_elim _ _ t)

  -- a derivation of the one, cut down to the set, is one of the other: after what holds as much of the set, and from nothing
  cut_from : (a b l : List ℕ) → ((y : ℕ) → T (among y) → T (member y a) → T (member y b)) → T (derives_from s u a l) → T (derives_from z v b (pick l among))
  unfolding pick derives_from
  cut_from a b [] f t = tt
  cut_from a b (x ∷ l) f t =
      cond_cases (λ k. T (derives_from z v b k)) (among x) _ _
      (λ i. derives_next z v b x (pick l among) (subst (λ n. x < n) c.conclusions (derives_below s u a x l t))
      (yields_carried (held a) (held b) x i f (derives_yields s u a x l t))
      (cut_from (a ++ (x ∷ [])) (b ++ (x ∷ [])) l
      (λ y j m. ⊎_elim (λ n. member_left y b (x ∷ []) (f y j n)) (λ o. subst (λ n. T (member n (b ++ (x ∷ [])))) (sym o) (member_last b x)) (member_snoc a x y m))
      (derives_later s u a x l t)))
      (λ n. cut_from (a ++ (x ∷ [])) b l (λ y j m. ⊎_elim (f y j) (λ o. absurd (n (subst (λ k. T (among k)) o j))) (member_snoc a x y m)) (derives_later s u a x l t))

  pub derivation_cut : (l : List ℕ) → T (derivation s u l) → T (derivation z v (pick l among))
  derivation_cut l = cut_from [] [] l (λ y i m. m)

  -- and so what is derivable in the one
  pub derivable_carried : (x : ℕ) → T (among x) → Derivable s u x → Derivable z v x
  derivable_carried x i (l, t, m) = (pick l among, derivation_cut l t, member_pick_intro l among x m i)

-- the systems of theories that correspond within a set of literals, among the conclusions about them
pub system_carries : (m : Reading) → Rules m → {d k : Theory} {within : ℕ → Bool} {like : ℕ → ℕ → Bool} → Corresponds d k within like
    → Carries (system_of m d) (system_of m k) (searches_of m d) (searches_of m k) (λ x. within (x / tags m))
unfolding system_of searches_of
system_carries m l {d} {k} {within} c =
    record {
      conclusions = ap (λ n. tags m * (2 * n)) c.atoms;
      infers = λ h g x i f t. l.across c (tagged_by (tags m) h) (tagged_by (tags m) g) (x / tags m) (x % tags m) i
          (λ a u b o. f (conclusion (tags m) a u) (about (x / tags m) i a u b o)) t;
      count = refl;
      finds = λ j h g x i f t. and_intro _ _ (and_left _ _ t)
          (largest-holds (λ e. m.fits k (tagged_by (tags m) g) j (held e)) (λ q. T (member q (set_of m d (tagged_by (tags m) h) j)) × T (within q)) (2 * k.atoms)
          (λ q (n, _). subst (λ a. q < 2 * a) c.atoms (largest_below (λ e. m.fits d (tagged_by (tags m) h) j (held e)) (2 * d.atoms) q n))
          (λ e a q (n, o). l.fits_across c (tagged_by (tags m) h) (tagged_by (tags m) g) (held (set_of m d (tagged_by (tags m) h) j)) (held e) j q o
          (λ p u b v. f (conclusion (tags m) p u) (about q o p u b v)) (λ p u b v w. a p (w, candidate_within c _ q p o v)) (set_fits m l d (tagged_by (tags m) h) j q n))
          (x / tags m) (and_right _ _ t, i));
    }
  where
    -- a conclusion that has a literal of the set among its candidates is about one of the set
    about : (q : ℕ) → T (within q) → (a u : ℕ) → u < tags m → T (member q (candidates d (family_of u) a)) → T (within (conclusion (tags m) a u / tags m))
    about q i a u b o = subst (λ p. T (within p)) (sym (join_div (tags m) a u b)) (candidate_within c _ q a i o)

-- what the log of a finished run of the one has of the set's literals, that of the other has
tags_carried : {d k : Theory} {within : ℕ → Bool} {like : ℕ → ℕ → Bool} → T (proper d) → T (proper k) → Corresponds d k within like
    → (m : Reading) → Rules m → (a b : ℕ) → T (reading_run m d a).finished → T (reading_run m k b).finished
    → (q t : ℕ) → T (within q) → t < tags m → T (logged m d a q t) → T (logged m k b q t)
tags_carried {d} {k} {within} p o c m l a b f g q t i h u =
    let x = conclusion (tags m) q t in
    (run_exact (system_of m k) (searches_of m k) (system_lawful m l k (heads_below k o)) b g x).1
    (derivable_carried (system_carries m l c) x (subst (λ y. T (within y)) (sym (join_div (tags m) q t h)) i)
    ((run_exact (system_of m d) (searches_of m d) (system_lawful m l d (heads_below d p)) a f x).0 u))

-- and so they have the same
pub same_tags_lem : {d k : Theory} {within : ℕ → Bool} {like : ℕ → ℕ → Bool} → T (proper d) → T (proper k) → Corresponds d k within like → SameTags d k within
same_tags_lem p o c m l a b f g q t i h =
    (tags_carried p o c m l a b f g q t i h, tags_carried o p (corresponds_turn c) m l b a g f q t i h)
