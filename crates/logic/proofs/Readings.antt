-- The closure system of a reading, with its searches, is lawful and opposed, if the reading's inference rules are. Assumes nothing.
use Prim.Native.Nat.{ℕ, zero, suc, ◌+◌, ◌-◌, ◌*◌, ◌/◌, ◌%◌, ◌≤◌, ◌<◌}
use native.Mathlib.Nat.{mod-lt, add-zero, mul-add, lt_irrefl}
use native.Mathlib.Omega.{arith}
use mathlib.Core.Path.{◌≡◌, refl, sym, ◌∙◌, ap, ap₂, subst}
use mathlib.Core.Logic.{◌⊎◌, inl, inr, ⊎_elim}
use mathlib.Core.Bool.{Bool}
use mathlib.Core.List.{List, []}
use lib.Dec.{T, eqb, eqb→eq}
use lib.ListN.{length}
use Rattle.logic.specs.Tests.{◌or◌, member, distinct}
use Rattle.logic.specs.Theory.{Theory, complement, head_of, proper}
use Rattle.logic.specs.System.{held, Coherent, derivation}
use Rattle.logic.specs.Reading.{Reading, tags, family_of, conclusion, candidates, tagged_by, system_of, set_of, searches_of}
use Rattle.logic.specs.Laws.{Rules}
use Rattle.logic.proofs.Derivations.{Lawful, derives_all_below}
use Rattle.logic.proofs.Theories.{heads_below}
use Rattle.logic.proofs.Coherence.{Apart, Opposed, derivation_coherent, coherent_length}
use Rattle.logic.proofs.Tests.{and_intro, and_left, and_right, or_left, or_right, or_elim}
use Rattle.logic.proofs.Largest.{largest_below, largest_fits, largest-holds}
use Rattle.logic.proofs.Candidates.{member_with_tags, member_with_tags_intro, candidates_below}
use Rattle.logic.proofs.Correspondence.{corresponds_self}
use Rattle.logic.proofs.Literals.{complement_half, complement_bit, join_div, join_mod, join_split, join_below, split_below, literal_half, tag_half}

-- a number below two is zero or one
bit_cases : (b : ℕ) → b < 2 → (b ≡ 0) ⊎ (b ≡ 1)
bit_cases zero h = inl refl
bit_cases (suc zero) h = inr refl
bit_cases (suc (suc b)) h = absurd (omega arith)

-- an odd number has the bit one
odd_bit : (i j b : ℕ) → b < 2 → 2 * i + 1 ≡ 2 * j + b → b ≡ 1
odd_bit i j b h e = ⊎_elim (λ f. absurd (let g : 2 * i + 1 ≡ 2 * j + 0 = e ∙ ap (2 * j +◌) f in even_odd i j g)) (λ f. f) (bit_cases b h)
  where
    even_odd : (i j : ℕ) → 2 * i + 1 ≡ 2 * j + 0 → ⊥
    even_odd i j e = lt_irrefl 0 (omega arith)

module _ (m : Reading) (l : Rules m) (d : Theory) where
  positive : 0 < tags m
  positive = let p : 0 < m.families = l.tagged in omega arith

  -- what a literal is asked for is asked less of a larger set over more that is held
  fits_more : (h k : ℕ → ℕ → Bool) (i : ℕ) (x y : ℕ → Bool) (q : ℕ) → ((a u : ℕ) → T (h a u) → T (k a u)) → ((a : ℕ) → T (x a) → T (y a)) → T (m.fits d h i x q) → T (m.fits d k i y q)
  fits_more h k i x y q f g = l.fits_across (corresponds_self d) h k x y i q tt (λ a u _ _. f a u) (λ a u _ _. g a)

  -- the set of a search is the largest: each member fits in it, and it has every set of literals in which each fits
  pub set_fits : (holds : ℕ → ℕ → Bool) (i q : ℕ) → T (member q (set_of m d holds i)) → T (m.fits d holds i (held (set_of m d holds i)) q)
  set_fits holds i q t = largest_fits (λ k. m.fits d holds i (held k)) (2 * d.atoms) q t

  pub set_holds : (holds : ℕ → ℕ → Bool) (i : ℕ) (x : ℕ → Bool) → ((q : ℕ) → T (x q) → q < 2 * d.atoms) → ((q : ℕ) → T (x q) → T (m.fits d holds i x q))
      → (q : ℕ) → T (x q) → T (member q (set_of m d holds i))
  set_holds holds i x b f =
      largest-holds (λ k. m.fits d holds i (held k)) (λ q. T (x q)) (2 * d.atoms) b (λ k a q t. fits_more holds holds i x (held k) q (λ _ _ u. u) a (f q t))

  pub system_lawful : ((r : ℕ) → r < d.rules → head_of d r < 2 * d.atoms) → Lawful (system_of m d) (searches_of m d)
  unfolding system_of searches_of
  system_lawful below =
      record {
        local = λ h k x f t. l.across (corresponds_self d) (tagged_by (tags m) h) (tagged_by (tags m) k) (x / tags m) (x % tags m) tt
            (λ a u b c. f (conclusion (tags m) a u) (tried_there x a u b c)) t;
        inside = λ x y b t. let (q, u, v, h, e) = member_with_tags (tags m) _ y t in
            subst (λ z. z < tags m * (2 * d.atoms)) (sym e) (join_below (tags m) (2 * d.atoms) q u h
            (candidates_below d d.atoms below _ (x / tags m) q (split_below (tags m) (2 * d.atoms) x positive b) v));
        positive = λ h k x. omega arith;
        widens = λ i h k x f t. and_intro _ _ (and_left _ _ t)
            (set_holds (tagged_by (tags m) k) i (held (set_of m d (tagged_by (tags m) h) i)) (largest_below (λ e. m.fits d (tagged_by (tags m) h) i (held e)) (2 * d.atoms))
            (λ q u. fits_more (tagged_by (tags m) h) (tagged_by (tags m) k) i _ _ q (λ a v. f (conclusion (tags m) a v)) (λ a v. v) (set_fits (tagged_by (tags m) h) i q u))
            (x / tags m) (and_right _ _ t));
      }
    where
      -- a conclusion is tried after one that has its literal among its candidates
      tried_there : (x a u : ℕ) → u < tags m → T (member (x / tags m) (candidates d (family_of u) a))
          → T (member x ((system_of m d).tried (conclusion (tags m) a u)))
      tried_there x a u b c =
          subst (λ z. T (member z ((system_of m d).tried (conclusion (tags m) a u)))) (join_split (tags m) x)
          (member_with_tags_intro (tags m) _ (x / tags m) (x % tags m)
          (subst (λ v. T (member (x / tags m) (candidates d (family_of v) (conclusion (tags m) a u / tags m)))) (sym (join_mod (tags m) a u b))
          (subst (λ v. T (member (x / tags m) (candidates d (family_of u) v))) (sym (join_div (tags m) a u b)) c)) (mod-lt x positive))

  -- the family of a conclusion's tag
  slot : ℕ → ℕ
  slot x = x / 2 % m.families

  -- what follows, by the literal, the family and the bit
  infer_at : (h : ℕ → Bool) (x q f b : ℕ) → x / tags m ≡ q → x % tags m ≡ 2 * f + b → T ((system_of m d).infers h x) → T (m.infer d (tagged_by (tags m) h) q (2 * f + b))
  unfolding system_of
  infer_at h x q f b e g t =
      subst (λ v. T (m.infer d (tagged_by (tags m) h) q v)) g (subst (λ v. T (m.infer d (tagged_by (tags m) h) v (x % tags m))) e t)

  infers_opposed : (h k : ℕ → Bool) → Apart h k → (x : ℕ) → T ((system_of m d).infers h x) → T ((system_of m d).infers k (complement x)) → ⊥
  unfolding Apart slot
  infers_opposed h k c x t u = ⊎_elim even odd (bit_cases (x % 2) (mod-lt x (omega arith)))
    where
      f : ℕ
      f = slot x

      first : (b : ℕ) → x % 2 ≡ b → T (m.infer d (tagged_by (tags m) h) (x / tags m) (2 * f + b))
      first b e = infer_at h x (x / tags m) f b refl (tag_half m.families x l.tagged ∙ ap (2 * f +◌) e) t

      second : (b : ℕ) → 1 - x % 2 ≡ b → T (m.infer d (tagged_by (tags m) k) (x / tags m) (2 * f + b))
      second b e =
          infer_at k (complement x) (x / tags m) f b
          (literal_half m.families (complement x) ∙ ap (◌/ m.families) (complement_half x) ∙ sym (literal_half m.families x))
          (tag_half m.families (complement x) l.tagged ∙ ap₂ (λ j i. 2 * (j % m.families) + i) (complement_half x) (complement_bit x ∙ e)) u

      -- neither holds the opposite of what the other holds
      apart : (q g : ℕ) → T (h (conclusion (tags m) q (2 * g))) → T (k (conclusion (tags m) q (2 * g + 1))) → ⊥
      apart q g v z =
          let e : conclusion (tags m) q (2 * g + 1) ≡ complement (conclusion (tags m) q (2 * g)) = omega arith in
          c (conclusion (tags m) q (2 * g)) v (subst (λ y. T (k y)) e z)

      apart_back : (q g : ℕ) → T (k (conclusion (tags m) q (2 * g))) → T (h (conclusion (tags m) q (2 * g + 1))) → ⊥
      apart_back q g v z =
          let e : conclusion (tags m) q (2 * g) ≡ complement (conclusion (tags m) q (2 * g + 1)) = omega arith in
          c (conclusion (tags m) q (2 * g + 1)) z (subst (λ y. T (k y)) e v)

      even : x % 2 ≡ 0 → ⊥
      even e =
          l.opposed d (tagged_by (tags m) h) (tagged_by (tags m) k) (λ q g _. apart q g) (λ q g _. apart_back q g) (x / tags m) f (mod-lt (x / 2) l.tagged)
          (subst (λ j. T (m.infer d (tagged_by (tags m) h) (x / tags m) j)) (add-zero (2 * f)) (first 0 e)) (second 1 (omega arith))

      odd : x % 2 ≡ 1 → ⊥
      odd e =
          l.opposed d (tagged_by (tags m) k) (tagged_by (tags m) h) (λ q g _. apart_back q g) (λ q g _. apart q g) (x / tags m) f (mod-lt (x / 2) l.tagged)
          (subst (λ j. T (m.infer d (tagged_by (tags m) k) (x / tags m) j)) (add-zero (2 * f)) (second 0 (omega arith))) (first 1 e)

  -- a conclusion that a search finds, by its literal and tag
  finds_at : (i : ℕ) (h : ℕ → Bool) (a u : ℕ) → u < tags m → T (eqb u (2 * i + 1)) → T (member a (set_of m d (tagged_by (tags m) h) i))
      → T ((searches_of m d).finds i h (conclusion (tags m) a u))
  unfolding searches_of
  finds_at i h a u b t n =
      and_intro _ _ (subst (λ v. T (eqb v (2 * i + 1))) (sym (join_mod (tags m) a u b)) t)
      (subst (λ v. T (member v (set_of m d (tagged_by (tags m) h) i))) (sym (join_div (tags m) a u b)) n)

  found_follows : (i : ℕ) (h : ℕ → Bool) (x : ℕ) → i < m.searches → T ((searches_of m d).finds i h x) → T ((system_of m d).infers (λ y. h y or (searches_of m d).finds i h y) x)
  unfolding searches_of system_of
  found_follows i h x b t =
      subst (λ v. T (m.infer d (tagged_by (tags m) (λ y. h y or (searches_of m d).finds i h y)) (x / tags m) v)) (sym (eqb→eq _ _ (and_left _ _ t)))
      (l.across (corresponds_self d) _ (tagged_by (tags m) (λ y. h y or (searches_of m d).finds i h y)) (x / tags m) (2 * i + 1) tt
      (λ a u c _ v. ⊎_elim (λ n. or_left _ _ n) (λ n. or_right _ _ (finds_at i h a u c (and_left _ _ n) (and_right _ _ n))) (or_elim _ _ v))
      (l.fits_infer d (tagged_by (tags m) h) (held (set_of m d (tagged_by (tags m) h) i)) i (x / tags m) b (set_fits (tagged_by (tags m) h) i (x / tags m) (and_right _ _ t))))

  -- what a search finds is a refutation
  found_odd : (i : ℕ) (h : ℕ → Bool) (x : ℕ) → T ((searches_of m d).finds i h x) → x % 2 ≡ 1
  unfolding searches_of
  found_odd i h x t =
      let e : x % tags m ≡ 2 * i + 1 = eqb→eq _ _ (and_left _ _ t) in
      let f : x % tags m ≡ 2 * (x / 2 % m.families) + x % 2 = tag_half m.families x l.tagged in
      let b : x % 2 < 2 = mod-lt x (omega arith) in
      odd_bit i (x / 2 % m.families) (x % 2) b (sym e ∙ f)

  pub system_opposed : Opposed (system_of m d) (searches_of m d)
  unfolding searches_of
  system_opposed =
      record {
        infers = infers_opposed;
        follows = found_follows;
        refutes = λ i j h k x t u. let a = found_odd i h x t in let b = found_odd j k (complement x) u in let c = complement_bit x in lt_irrefl 0 (omega arith);
      }

-- of a proper theory
module _ (m : Reading) (l : Rules m) (d : Theory) (p : T (proper d)) where
  pub reading_lawful : Lawful (system_of m d) (searches_of m d)
  reading_lawful = system_lawful m l d (heads_below d p)

  -- never a tag and its opposite
  pub reading_coherent : (e : List ℕ) → T (derivation (system_of m d) (searches_of m d) e) → Coherent (held e)
  reading_coherent = derivation_coherent (system_of m d) (searches_of m d) reading_lawful (system_opposed m l d)

  -- so a derivation without repeats has at most as many lines as one literal of each atom has conclusions
  pub reading_length : (e : List ℕ) → T (derivation (system_of m d) (searches_of m d) e) → T (distinct e) → length e ≤ tags m * d.atoms
  unfolding system_of
  reading_length e t o =
      coherent_length (tags m * d.atoms) e o
      (λ x n. let b : x < tags m * (2 * d.atoms) = derives_all_below (system_of m d) (searches_of m d) [] e t x n in
      let f : tags m * (2 * d.atoms) ≡ tags m * d.atoms + tags m * d.atoms =
      ap (tags m *◌) (let g : 2 * d.atoms ≡ d.atoms + d.atoms = omega arith in g) ∙ mul-add (tags m) d.atoms d.atoms in
      omega arith) (reading_coherent e t)
