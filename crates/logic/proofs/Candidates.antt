-- What is tried after a conclusion: its candidates, each with every tag. Assumes nothing.
use Prim.Native.Nat.{ℕ, ◌*◌, ◌<◌}
use native.Mathlib.Omega.{arith}
use mathlib.Core.Path.{◌≡◌, refl, sym, ◌∙◌, ap, subst}
use mathlib.Core.Logic.{◌⊎◌, inl, inr, ⊎_elim}
use mathlib.Core.List.{List, [], ◌∷◌, ◌++◌, map}
use lib.Dec.{T}
use Rattle.logic.specs.Tests.{member, upto}
use Rattle.logic.specs.Theory.{Theory, complement, head_of}
use Rattle.logic.specs.Reading.{conclusion, visits, visited, heads, candidates, with_tags}
use Rattle.logic.proofs.Lists.{member_nil, member_here, member_there, member_cons_elim, member_left, member_right, member_append, member_pick, member_pick_intro, member_upto, member_upto_intro, member_map, member_map_intro}
use Rattle.logic.proofs.Literals.{complement_complement}

-- the conclusions about a list of literals: each with every tag
pub member_with_tags_intro : (n : ℕ) (qs : List ℕ) (q t : ℕ) → T (member q qs) → t < n → T (member (conclusion n q t) (with_tags n qs))
unfolding with_tags
member_with_tags_intro n [] q t m h = absurd (member_nil q m)
member_with_tags_intro n (p ∷ qs) q t m h =
    ⊎_elim
    (λ e. subst (λ z. T (member (conclusion n q t) (map (conclusion n z) (upto n) ++ with_tags n qs))) e
    (member_left _ (map (conclusion n q) (upto n)) (with_tags n qs) (member_map_intro (conclusion n q) (upto n) t (member_upto_intro n t h))))
    (λ u. member_right _ (map (conclusion n p) (upto n)) (with_tags n qs) (member_with_tags_intro n qs q t u h)) (member_cons_elim q p qs m)

pub member_with_tags : (n : ℕ) (qs : List ℕ) (x : ℕ) → T (member x (with_tags n qs)) → (q : ℕ) × (t : ℕ) × T (member q qs) × (t < n) × (x ≡ conclusion n q t)
unfolding with_tags
member_with_tags n [] x m = absurd (member_nil x m)
member_with_tags n (p ∷ qs) x m =
    ⊎_elim (λ u. let (t, v, e) = member_map (conclusion n p) (upto n) x u in (p, t, member_here p qs, member_upto n t v, e))
    (λ u. let (q, t, v, h, e) = member_with_tags n qs x u in (q, t, member_there q p qs v, h, e))
    (member_append x (map (conclusion n p) (upto n)) (with_tags n qs) m)

module _ (d : Theory) where
  member_heads_intro : (rs : List ℕ) (r : ℕ) → T (member r rs) → (q : ℕ) → (head_of d r ≡ q) ⊎ (head_of d r ≡ complement q) → T (member q (heads d rs))
  unfolding heads
  member_heads_intro [] r m q e = absurd (member_nil r m)
  member_heads_intro (s ∷ rs) r m q e =
      ⊎_elim (λ i. ⊎_elim (λ f. here (ap (head_of d) (sym i) ∙ f)) (λ f. other (ap (head_of d) (sym i) ∙ f)) e)
      (λ u. member_there q _ _ (member_there q _ _ (member_heads_intro rs r u q e))) (member_cons_elim r s rs m)
    where
      here : head_of d s ≡ q → T (member q (head_of d s ∷ complement (head_of d s) ∷ heads d rs))
      here f = subst (λ z. T (member q (z ∷ complement (head_of d s) ∷ heads d rs))) (sym f) (member_here q _)

      other : head_of d s ≡ complement q → T (member q (head_of d s ∷ complement (head_of d s) ∷ heads d rs))
      other f =
          member_there q (head_of d s) _
          (subst (λ z. T (member q (z ∷ heads d rs))) (sym (ap complement f ∙ complement_complement q)) (member_here q (heads d rs)))

  -- a literal is a candidate of a conclusion about it, about its complement, and about an antecedent of a rule visited for that
  -- antecedent whose head is the literal or its complement
  pub candidate_self : (f q : ℕ) → T (member q (candidates d f q))
  candidate_self f q = member_here q _

  pub candidate_complement : (f q : ℕ) → T (member q (candidates d f (complement q)))
  candidate_complement f q =
      member_there q (complement q) _
      (subst (λ z. T (member q (z ∷ heads d (visited d f (complement q))))) (sym (complement_complement q)) (member_here q _))

  pub candidate_head : (f q a r : ℕ) → r < d.rules → T (visits d f a r) → (head_of d r ≡ q) ⊎ (head_of d r ≡ complement q) → T (member q (candidates d f a))
  candidate_head f q a r h v e =
      member_there q a _ (member_there q (complement a) _
      (member_heads_intro (visited d f a) r (member_pick_intro (upto d.rules) (visits d f a) r (member_upto_intro d.rules r h) v) q e))

  -- and of no other: that literal, or the head of that rule, is the literal or its complement
  member_heads : (rs : List ℕ) (q : ℕ) → T (member q (heads d rs)) → (r : ℕ) × T (member r rs) × ((head_of d r ≡ q) ⊎ (head_of d r ≡ complement q))
  unfolding heads
  member_heads [] q m = absurd (member_nil q m)
  member_heads (r ∷ rs) q m =
      ⊎_elim (λ e. (r, member_here r rs, inl (sym e)))
      (λ u. ⊎_elim (λ e. (r, member_here r rs, inr (omega arith))) (λ v. let (s, w, e) = member_heads rs q v in (s, member_there s r rs w, e))
      (member_cons_elim q (complement (head_of d r)) (heads d rs) u))
      (member_cons_elim q (head_of d r) _ m)

  pub candidate_cases : (f p q : ℕ) → T (member q (candidates d f p))
      → (x : ℕ) × ((x ≡ q) ⊎ (x ≡ complement q)) × ((x ≡ p) ⊎ ((r : ℕ) × (r < d.rules) × T (visits d f p r) × (x ≡ head_of d r)))
  candidate_cases f p q m =
      ⊎_elim (λ e. (p, inl (sym e), inl refl))
      (λ u. ⊎_elim (λ e. (p, inr (omega arith), inl refl))
      (λ v. let (r, w, e) = member_heads (visited d f p) q v in
      let (z, y) = member_pick (upto d.rules) (visits d f p) r w in
      (head_of d r, e, inr (r, member_upto d.rules r z, y, refl)))
      (member_cons_elim q (complement p) (heads d (visited d f p)) u))
      (member_cons_elim q p _ m)

  pub candidates_below : (b : ℕ) → ((r : ℕ) → r < d.rules → head_of d r < 2 * b) → (f p q : ℕ) → p < 2 * b → T (member q (candidates d f p)) → q < 2 * b
  candidates_below b g f p q h m =
      let (x, e, y) = candidate_cases f p q m in
      let k : x < 2 * b = ⊎_elim (λ i. subst (λ z. z < 2 * b) (sym i) h) (λ (r, l, _, i). subst (λ z. z < 2 * b) (sym i) (g r l)) y in
      ⊎_elim (λ i. omega arith) (λ i. omega arith) e
