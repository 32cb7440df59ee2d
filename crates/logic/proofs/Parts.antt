-- Parts of a theory: the test `in_part` agrees with the chains of links, and the list of smallest atoms is what it should be. Assumes nothing.
use Prim.Native.Nat.{ℕ, zero, suc, ◌+◌, ◌*◌, ◌≤◌, ◌<◌}
use native.Mathlib.Nat.{le_refl, le_antisymm, le_of_suc-le, lt_irrefl}
use native.Mathlib.Omega.{arith}
use mathlib.Core.Path.{◌≡◌, sym, ◌∙◌, subst}
use mathlib.Core.Logic.{◌⊎◌, inl, inr, ⊎_elim, ◌↔◌}
use mathlib.Core.Bool.{Bool}
use mathlib.Core.List.{List, [], ◌∷◌}
use lib.Dec.{T, eqb, eqb→eq, eqb_refl, ltb→lt}
use lib.ListN.{length, get_or, length-map}
use Rattle.logic.specs.Tests.{◌or◌, isnt, some_of, member, distinct, weigh, upto, pick}
use Rattle.logic.specs.Theory.{Theory, atom, head_of, body_of, proper}
use Rattle.logic.specs.Parts.{mentions, linked, spread, in_part, smallest, parts_list, Together, own, next, Parts}
use Rattle.logic.proofs.Tests.{test_cases, test_eq, eq→eqb, and_intro, and_left, and_right, or_left, or_right, or_elim, isnt_intro, every_elim, some_intro, some_elim, every_of_elim, some_of_intro, some_of_elim}
use Rattle.logic.proofs.Lists.{member_nil, member_here, member_one, member_cons_elim, member_pick, member_pick_intro, member_upto, member_upto_intro, distinct_pick, distinct_upto, length_upto, get_d_map_upto}
use Rattle.logic.proofs.Sums.{total_le, weigh_true, weigh_false, weigh_le}
use Rattle.logic.proofs.Pigeon.{distinct_count, pigeon}
use Rattle.logic.proofs.Rising.{rising_from, rising_pick, rising_upto, rising_member}
use Rattle.logic.proofs.Theories.{heads_below}
use Rattle.logic.proofs.Literals.{split_below}

-- a distinct list is at most as long as a distinct list of numbers below n that has all its elements
distinct_le : (n : ℕ) (l k : List ℕ) → T (distinct l) → T (distinct k) → ((x : ℕ) → T (member x k) → x < n)
    → ((x : ℕ) → T (member x l) → T (member x k)) → length l ≤ length k
distinct_le n l k t u b f =
    omega (
      arith,
      distinct_count n l t (λ x m. b x (f x m)),
      distinct_count n k u b,
      total_le n (λ x. weigh (member x l) 1) (λ x. weigh (member x k) 1) (λ x _. weighs x),
    )
  where
    weighs : (x : ℕ) → weigh (member x l) 1 ≤ weigh (member x k) 1
    weighs x =
        ⊎_elim (λ m. omega (arith, weigh_le (member x l) 1, weigh_true (member x k) 1 (f x m)))
        (λ o. omega (arith, weigh_false (member x l) 1 o)) (test_cases (member x l))

-- the first of a list that has an element is an element; of a rising list it is the least
first_member : (l : List ℕ) (x z : ℕ) → T (member x l) → T (member (get_or l 0 z) l)
first_member [] x z m = absurd (member_nil x m)
first_member (y ∷ l) x z m = member_here y l

first_least : (n : ℕ) (l : List ℕ) (x z : ℕ) → T (rising_from n l) → T (member x l) → get_or l 0 z ≤ x
unfolding rising_from
first_least n [] x z t m = absurd (member_nil x m)
first_least n (y ∷ l) x z t m =
    ⊎_elim (λ e. subst (λ k. y ≤ k) (sym e) (le_refl y)) (λ u. le_of_suc-le (rising_member (suc y) l (and_right _ _ t) x u)) (member_cons_elim x y l m)

module _ (d : Theory) where
  -- a rule mentions the atom of its head and those of its antecedents, and no other
  pub head_mentioned : (r : ℕ) → T (mentions d r (atom (head_of d r)))
  unfolding mentions
  head_mentioned r = or_left _ _ (eqb_refl (atom (head_of d r)))

  pub antecedent_mentioned : (r q : ℕ) → T (member q (body_of d r)) → T (mentions d r (atom q))
  unfolding mentions
  antecedent_mentioned r q m = or_right _ _ (some_of_intro (body_of d r) _ q m (eqb_refl (atom q)))

  pub mentioned_cases : (r a : ℕ) → T (mentions d r a) → (atom (head_of d r) ≡ a) ⊎ ((q : ℕ) × T (member q (body_of d r)) × (atom q ≡ a))
  unfolding mentions
  mentioned_cases r a t =
      ⊎_elim (λ e. inl (eqb→eq _ _ e)) (λ u. let (q, m, e) = some_of_elim _ _ u in inr (q, m, eqb→eq _ _ e)) (or_elim _ _ t)

  -- two atoms are linked exactly by a rule that mentions both
  pub linked_elim : (a b : ℕ) → T (linked d a b) → (r : ℕ) × (r < d.rules) × T (mentions d r a) × T (mentions d r b)
  unfolding linked
  linked_elim a b t = let (r, h, u) = some_elim _ _ t in (r, h, and_left _ _ u, and_right _ _ u)

  pub linked_by : (r a b : ℕ) → r < d.rules → T (mentions d r a) → T (mentions d r b) → T (linked d a b)
  unfolding linked
  linked_by r a b h t u = some_intro _ _ r h (and_intro _ _ t u)

  -- a link goes both ways
  linked_sym : (a b : ℕ) → T (linked d a b) → T (linked d b a)
  linked_sym a b t = let (r, h, u, v) = linked_elim a b t in linked_by r b a h v u

-- chains join
pub together_trans : {d : Theory} {a b c : ℕ} → Together d a b → Together d b c → Together d a c
together_trans own w = w
together_trans (next t v) w = next t (together_trans v w)

-- one link is a chain
pub together_one : {d : Theory} {a b : ℕ} → T (linked d a b) → Together d a b
together_one t = next t own

-- a chain goes both ways
pub together_sym : {d : Theory} {a b : ℕ} → Together d a b → Together d b a
together_sym own = own
together_sym {d} (next {a} {b} t w) = together_trans (together_sym w) (together_one (linked_sym d a b t))

module _ (d : Theory) where
  -- what links keep, chains keep
  chain_stays : (s : ℕ → Bool) → ((b c : ℕ) → T (s b) → T (linked d b c) → T (s c)) → {a b : ℕ} → Together d a b → T (s a) → T (s b)
  chain_stays s f own t = t
  chain_stays s f (next {a} {b} l w) t = chain_stays s f w (f a b t l)

  -- one round: what it takes are atoms, each once; it keeps the atoms that it has, and takes in what is linked to them
  abbrev taken : List ℕ → List ℕ
  taken l = pick (upto d.atoms) (λ b. member b l or some_of l (λ c. linked d c b))

  taken_below : (l : List ℕ) (x : ℕ) → T (member x (taken l)) → x < d.atoms
  taken_below l x m = member_upto d.atoms x (member_pick _ _ x m).0

  taken_distinct : (l : List ℕ) → T (distinct (taken l))
  taken_distinct l = distinct_pick _ _ (distinct_upto d.atoms)

  taken_keeps : (l : List ℕ) (x : ℕ) → x < d.atoms → T (member x l) → T (member x (taken l))
  taken_keeps l x h m = member_pick_intro _ _ x (member_upto_intro d.atoms x h) (or_left _ _ m)

  taken_links : (l : List ℕ) (b c : ℕ) → c < d.atoms → T (member b l) → T (linked d b c) → T (member c (taken l))
  taken_links l b c h m t = member_pick_intro _ _ c (member_upto_intro d.atoms c h) (or_right _ _ (some_of_intro l _ b m t))

  -- what a round takes in comes from the list by a link or none
  taken_from : (l : List ℕ) (x : ℕ) → T (member x (taken l)) → (y : ℕ) × T (member y l) × Together d y x
  taken_from l x m =
      ⊎_elim (λ u. (x, u, own)) (λ u. let (y, v, t) = some_of_elim _ _ u in (y, v, together_one t)) (or_elim _ _ (member_pick _ _ x m).1)

  -- the rounds keep what is there, and what they take in comes by a chain
  spread_keeps : (n : ℕ) (l : List ℕ) (x : ℕ) → x < d.atoms → T (member x l) → T (member x (spread d n l))
  unfolding spread
  spread_keeps zero l x h m = m
  spread_keeps (suc n) l x h m = spread_keeps n (taken l) x h (taken_keeps l x h m)

  spread_from : (n : ℕ) (l : List ℕ) (x : ℕ) → T (member x (spread d n l)) → (y : ℕ) × T (member y l) × Together d y x
  unfolding spread
  spread_from zero l x m = (x, m, own)
  spread_from (suc n) l x m =
      let (y, u, w) = spread_from n (taken l) x m in
      let (z, v, s) = taken_from l y u in
      (z, v, together_trans s w)

  -- an atom belongs to its own part, and what belongs to a part comes by a chain
  part_own : (a : ℕ) → a < d.atoms → T (in_part d a a)
  unfolding in_part
  part_own a h = spread_keeps _ (a ∷ []) a h (member_here a [])

  part_sound : (a b : ℕ) → T (in_part d a b) → Together d a b
  unfolding in_part
  part_sound a b m = let (y, u, w) = spread_from _ (a ∷ []) b m in subst (λ z. Together d z b) (member_one y a u) w

  -- the smallest atom of a part is one of its atoms
  smallest_member : (a : ℕ) → a < d.atoms → T (member (smallest d a) (pick (upto d.atoms) (in_part d a)))
  unfolding smallest
  smallest_member a h = first_member _ a a (member_pick_intro _ _ a (member_upto_intro d.atoms a h) (part_own a h))

  pub smallest_below : (a : ℕ) → a < d.atoms → smallest d a < d.atoms
  smallest_below a h = member_upto d.atoms _ (member_pick _ _ _ (smallest_member a h)).0

  pub smallest_together : (a : ℕ) → a < d.atoms → Together d a (smallest d a)
  smallest_together a h = part_sound a _ (member_pick _ _ _ (smallest_member a h)).1

  module _ (p : T (proper d)) where
    -- what a rule of a proper theory mentions is an atom
    mentioned_below : (r a : ℕ) → r < d.rules → T (mentions d r a) → a < d.atoms
    mentioned_below r a h t =
        ⊎_elim (λ e. below _ e (heads_below d p r h))
        (λ (q, m, e). below q e (ltb→lt _ _ (every_of_elim _ _ (every_elim _ _ (and_right _ _ (and_left _ _ p)) r h) q m))) (mentioned_cases d r a t)
      where
        below : (q : ℕ) → atom q ≡ a → q < 2 * d.atoms → a < d.atoms
        below q e k = subst (λ z. z < d.atoms) e (split_below 2 d.atoms q (omega arith) k)

    -- linked atoms are atoms, and a chain ends at an atom
    pub linked_below : (a b : ℕ) → T (linked d a b) → (a < d.atoms) × (b < d.atoms)
    linked_below a b t = let (r, h, u, v) = linked_elim d a b t in (mentioned_below r a h u, mentioned_below r b h v)

    together_below : {a b : ℕ} → a < d.atoms → Together d a b → b < d.atoms
    together_below h own = h
    together_below h (next {a} {b} t w) = together_below (linked_below a b t).1 w

    -- if a round takes nothing new into a list, it stays closed under links
    spread_still : (n : ℕ) (l : List ℕ) → ((x : ℕ) → T (member x (taken l)) → T (member x l)) → (b c : ℕ)
        → T (member b (spread d n l)) → T (linked d b c) → T (member c (spread d n l))
    spread_still n l f b c m t =
        let (y, u, w) = spread_from n l b m in
        spread_keeps n l c (linked_below b c t).1
        (chain_stays (λ x. member x l) (λ e g v s. f g (taken_links l e g (linked_below e g s).1 v s)) (together_trans w (together_one t)) u)

    -- rounds enough close a distinct list of atoms under links: each takes in another atom, or there is none to take in
    spread_closed : (n : ℕ) (l : List ℕ) → T (distinct l) → ((x : ℕ) → T (member x l) → x < d.atoms) → d.atoms < length l + n
        → (b c : ℕ) → T (member b (spread d n l)) → T (linked d b c) → T (member c (spread d n l))
    unfolding spread distinct
    spread_closed zero l t f h b c m s = absurd (lt_irrefl d.atoms (omega (arith, pigeon d.atoms l t f)))
    spread_closed (suc n) l t f h b c m s =
        ⊎_elim (λ u. spread_closed n (taken l) (taken_distinct l) (taken_below l) (longer u) b c m s)
        (λ o. spread_still (suc n) l (none o) b c m s) (test_cases (some_of (taken l) (λ x. isnt (member x l))))
      where
        longer : T (some_of (taken l) (λ x. isnt (member x l))) → d.atoms < length (taken l) + n
        longer u =
            let (x, v, o) = some_of_elim _ _ u in
            let more : length (x ∷ l) ≤ length (taken l) =
            distinct_le d.atoms (x ∷ l) (taken l) (and_intro _ _ o t) (taken_distinct l) (taken_below l)
            (λ y w. ⊎_elim (λ e. subst (λ z. T (member z (taken l))) (sym e) v) (λ k. taken_keeps l y (f y k) k) (member_cons_elim y x l w)) in
            omega arith

        none : (T (some_of (taken l) (λ x. isnt (member x l))) → ⊥) → (x : ℕ) → T (member x (taken l)) → T (member x l)
        none o x v = ⊎_elim (λ u. u) (λ u. absurd (o (some_of_intro _ _ x v (isnt_intro _ u)))) (test_cases (member x l))

    -- a part is closed under links
    pub part_linked : (a b c : ℕ) → a < d.atoms → T (in_part d a b) → T (linked d b c) → T (in_part d a c)
    unfolding in_part distinct
    part_linked a b c h =
        spread_closed d.atoms (a ∷ []) (and_intro _ _ (isnt_intro _ (member_nil a)) tt)
        (λ x m. subst (λ z. z < d.atoms) (sym (member_one x a m)) h) (omega arith) b c

    -- the antecedents of a rule belong to the part of its head
    pub part_antecedent : (a r q : ℕ) → a < d.atoms → r < d.rules → T (in_part d a (atom (head_of d r))) → T (member q (body_of d r)) → T (in_part d a (atom q))
    part_antecedent a r q h k t m =
        part_linked a (atom (head_of d r)) (atom q) h t (linked_by d r _ _ k (head_mentioned d r) (antecedent_mentioned d r q m))

    -- the test agrees with the chains
    pub part_agrees : (a b : ℕ) → a < d.atoms → T (in_part d a b) ↔ Together d a b
    part_agrees a b h = (part_sound a b, λ w. chain_stays (in_part d a) (λ b c. part_linked a b c h) w (part_own a h))

    -- what belongs to a part is an atom
    pub part_below : (a b : ℕ) → a < d.atoms → T (in_part d a b) → b < d.atoms
    part_below a b h t = together_below h (part_sound a b t)

    -- the smallest atom of a part is at most each of its atoms, and no other of them is
    pub smallest_least : (a b : ℕ) → a < d.atoms → Together d a b → smallest d a ≤ b
    unfolding smallest
    smallest_least a b h w =
        first_least 0 _ b a (rising_pick 0 _ (in_part d a) (rising_upto d.atoms))
        (member_pick_intro _ _ b (member_upto_intro d.atoms b (together_below h w)) ((part_agrees a b h).1 w))

    pub smallest_only : (a x : ℕ) → a < d.atoms → Together d a x → ((b : ℕ) → Together d a b → x ≤ b) → x ≡ smallest d a
    smallest_only a x h w f = le_antisymm (f _ (smallest_together a h)) (smallest_least a x h w)

    -- two atoms have the same smallest atom exactly if they are together
    smallest_same : (a b : ℕ) → a < d.atoms → b < d.atoms → (smallest d a ≡ smallest d b) ↔ Together d a b
    smallest_same a b h k = (
      λ e. together_trans (subst (Together d a) e (smallest_together a h)) (together_sym (smallest_together b k)),
      λ w. sym (smallest_only a _ h (together_trans w (smallest_together b k)) (λ c v. smallest_least b c k (together_trans (together_sym w) v))),
    )

    -- the test that compares the smallest atoms is the test of the part
    pub smallest_agrees : (a b : ℕ) → a < d.atoms → b < d.atoms → eqb (smallest d b) (smallest d a) ≡ in_part d a b
    smallest_agrees a b h k =
        test_eq _ _ (λ t. (part_agrees a b h).1 ((smallest_same a b h k).0 (sym (eqb→eq _ _ t))))
        (λ t. eq→eqb _ _ (sym ((smallest_same a b h k).1 (part_sound a b t))))

    -- the list of the smallest atoms is what it should be
    pub parts_right : Parts d (parts_list d)
    parts_right = record {
      words = length-map (upto d.atoms) (smallest d) ∙ length_upto d.atoms;
      same = λ a b h k. (λ e. (smallest_same a b h k).0 (sym (word a h) ∙ e ∙ word b k), λ w. word a h ∙ (smallest_same a b h k).1 w ∙ sym (word b k));
      inside = λ a h. subst (Together d a) (sym (word a h)) (smallest_together a h);
      least = λ a b h w. subst (λ x. x ≤ b) (sym (word a h)) (smallest_least a b h w);
    }
      where
        word : (a : ℕ) → a < d.atoms → get_or (parts_list d) a 0 ≡ smallest d a
        word = get_d_map_upto (smallest d) d.atoms
