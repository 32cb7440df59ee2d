-- Theories that correspond: each to itself with other pairs of no effect; the second to the first; and how what is asked of the rules for and
-- against a literal comes across. Assumes nothing.
use Prim.Native.Nat.{ℕ, ◌<◌}
use mathlib.Core.Path.{◌≡◌, refl, sym, ◌∙◌, ap, ap₂, subst}
use mathlib.Core.Logic.{◌⊎◌, ⊎_elim}
use mathlib.Core.Bool.{Bool, true}
use lib.Dec.{T, ltb, eqb, eqb→eq, eqb_refl, ltb→lt, lt→ltb}
use Rattle.logic.specs.Tests.{◌and◌, ◌or◌, isnt, ◌implies◌, every, some, member}
use Rattle.logic.specs.Theory.{Theory, Kind, Pair, complement, is_strict, kind_of, head_of, body_of, superior}
use Rattle.logic.specs.Reading.{visits, candidates}
use Rattle.logic.specs.Pairs.{with_pairs}
use Rattle.logic.specs.Correspondence.{Corresponds}
use Rattle.logic.proofs.Tests.{and_intro, and_left, and_right, implies_intro, implies_elim, every_intro, every_elim, some_intro, some_elim}
use Rattle.logic.proofs.Candidates.{candidate_cases}

module _ (d : Theory) where
  -- each rule of the theory is like itself
  abbrev pub itself : ℕ → ℕ → Bool
  itself r s = ltb r d.rules and eqb r s

  itself_found : (r : ℕ) → r < d.rules → T (itself r r)
  itself_found r b = and_intro _ _ (lt→ltb r d.rules b) (eqb_refl r)

  itself_below : (r s : ℕ) → T (itself r s) → r < d.rules
  itself_below r s l = ltb→lt r d.rules (and_left _ _ l)

  pub itself_number : (r s : ℕ) → T (itself r s) → r ≡ s
  itself_number r s l = eqb→eq r s (and_right _ _ l)

  -- a theory corresponds to itself with other pairs, if superiority agrees where heads are complementary
  pub corresponds_pairs : (n : ℕ) (p : ℕ → Pair) → ((t s : ℕ) → head_of d s ≡ complement (head_of d t) → superior d t s ≡ superior (with_pairs d n p) t s)
      → Corresponds d (with_pairs d n p) (λ _. true) itself
  corresponds_pairs n p a =
      record {
        atoms = refl;
        facts = λ q i. refl;
        complements = λ q i. tt;
        antecedents = λ r q b i m. tt;
        there = λ r b i. (r, itself_found r b);
        back = λ r b i. (r, itself_found r b);
        below = λ r s l. (itself_below r s l, subst (λ z. z < d.rules) (itself_number r s l) (itself_below r s l));
        kinds = λ r s l. ap (kind_of d) (itself_number r s l);
        heads = λ r s l. ap (head_of d) (itself_number r s l);
        bodies = λ r s q l. ap (λ z. member q (body_of d z)) (itself_number r s l);
        pairs = λ t s u v l m e. a t s e ∙ ap₂ (superior (with_pairs d n p)) (itself_number t u l) (itself_number s v m);
      }

  -- and so to itself
  pub corresponds_self : Corresponds d d (λ _. true) itself
  corresponds_self = corresponds_pairs d.pairs d.pair (λ t s e. refl)

module _ {d k : Theory} {within : ℕ → Bool} {like : ℕ → ℕ → Bool} (c : Corresponds d k within like) where
  -- the second corresponds to the first
  pub corresponds_turn : Corresponds k d within (λ s r. like r s)
  corresponds_turn =
      record {
        atoms = sym c.atoms;
        facts = λ q i. sym (c.facts q i);
        complements = c.complements;
        antecedents = λ s q b i m. let (r, l) = c.back s b i in
            c.antecedents r q (c.below r s l).0 (subst (λ p. T (within p)) (sym (c.heads r s l)) i) (subst T (sym (c.bodies r s q l)) m);
        there = c.back;
        back = c.there;
        below = λ s r l. ((c.below r s l).1, (c.below r s l).0);
        kinds = λ s r l. sym (c.kinds r s l);
        heads = λ s r l. sym (c.heads r s l);
        bodies = λ s r q l. sym (c.bodies r s q l);
        pairs = λ t s u v l m e. sym (c.pairs u v t s l m (c.heads v s m ∙ e ∙ ap complement (sym (c.heads u t l))));
      }

  -- with a literal its complement is within
  within_either : (p q : ℕ) → (p ≡ q) ⊎ (p ≡ complement q) → T (within q) → T (within p)
  within_either p q e i = ⊎_elim (λ z. subst (λ x. T (within x)) (sym z) i) (λ z. subst (λ x. T (within x)) (sym z) (c.complements q i)) e

  -- a conclusion that has a literal of the set among its candidates is about one of the set
  pub candidate_within : (f q a : ℕ) → T (within q) → T (member q (candidates d f a)) → T (within a)
  unfolding visits
  candidate_within f q a i m =
      let (x, e, y) = candidate_cases d f a q m in
      let j : T (within x) = within_either x q e i in
      ⊎_elim (λ z. subst (λ p. T (within p)) z j) (λ (r, b, v, z). c.antecedents r a b (subst (λ p. T (within p)) z j) (and_left _ _ v)) y

-- What is asked of a rule for or against q, by its kind and head alone; such a rule is visited by the conclusions of family f about its antecedents.
pub record Asked (q f : ℕ) (x : Kind → ℕ → Bool) : Type 0 where
  pub heads : (n : Kind) (p : ℕ) → T (x n p) → (p ≡ q) ⊎ (p ≡ complement q)
  pub visited : (n : Kind) (p : ℕ) → T (x n p) → T (isnt (eqb f 0) or is_strict n)

module _ {d k : Theory} {within : ℕ → Bool} {like : ℕ → ℕ → Bool} (c : Corresponds d k within like) {q f : ℕ} (i : T (within q))
    {x : Kind → ℕ → Bool} (a : Asked q f x) where
  -- it is asked of a rule, and like rules answer alike
  abbrev of : Theory → ℕ → Bool
  of e r = x (kind_of e r) (head_of e r)

  of_like : (r s : ℕ) → T (like r s) → of d r ≡ of k s
  of_like r s l = ap₂ x (c.kinds r s l) (c.heads r s l)

  -- some rule passes a test only if it is asked, and the test moves to like rules: some rule passes in the other theory
  pub some_across : (p o : ℕ → Bool) → ((r : ℕ) → T (p r) → T (of d r)) → ((r s : ℕ) → T (like r s) → T (of k s) → T (p r) → T (o s))
      → T (some d.rules p) → T (some k.rules o)
  some_across p o y g t =
      let (r, b, u) = some_elim _ _ t in
      let (s, l) = c.there r b (within_either c (head_of d r) q (a.heads _ _ (y r u)) i) in
      some_intro _ _ s (c.below r s l).1 (g r s l (subst T (of_like r s l) (y r u)) u)

  -- some rule that is asked passes a test, and every one does
  pub both_across : (p o : ℕ → Bool) → ((r s : ℕ) → T (like r s) → T (of d r) → T (p r) → T (o s))
      → T (some d.rules (λ r. of d r and p r)) → T (some k.rules (λ s. of k s and o s))
  both_across p o g = some_across _ _ (λ r t. and_left _ _ t) (λ r s l y t. and_intro _ _ y (g r s l (and_left _ _ t) (and_right _ _ t)))

  pub every_across : (p o : ℕ → Bool) → ((r s : ℕ) → T (like r s) → T (of d r) → T (p r) → T (o s))
      → T (every d.rules (λ r. of d r implies p r)) → T (every k.rules (λ s. of k s implies o s))
  every_across p o g t = every_intro _ _ (λ s b. implies_intro _ _ (λ u.
      let (r, l) = c.back s b (within_either c (head_of k s) q (a.heads _ _ u) i) in
      let v : T (of d r) = subst T (sym (of_like r s l)) u in
      g r s l v (implies_elim _ _ (every_elim _ _ t r (c.below r s l).0) v)))
