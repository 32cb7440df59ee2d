-- What the rules and entries of a theory add to each field. Assumes nothing.
use Prim.Native.Nat.{ℕ, suc, ◌+◌, ◌<◌}
use native.Mathlib.Omega.{arith}
use mathlib.Core.Path.{◌≡◌, refl, ◌∙◌, ap, subst}
use mathlib.Core.Bool.{Bool}
use mathlib.Core.List.{List, [], ◌∷◌}
use lib.Dec.{T, eqb, eqb→eq, eqb_refl}
use lib.ListN.{length, length-map}
use Rattle.logic.specs.Tests.{◌and◌, ◌or◌, isnt, every_of, some_of, member, weigh, total, count_below, upto, pick}
use Rattle.logic.specs.Theory.{Kind, kind_of, head_of, is_strict, can_support, strict_for, supporter, body_of}
use Rattle.logic.proofs.Tests.{and_swap, every_of_elim, isnt_elim, isnt_intro}
use Rattle.logic.proofs.Sums.{count_upto, total_ext, total_point, total_zero, weigh_both, weigh_false, weigh_true}
use Rattle.table.specs.declared.format.Sizes.{Sizes}
use Rattle.table.specs.Format.{entry_at, body_in, theory_in}
use Rattle.memory.specs.Fields.{size_f, head_f, kind_f, naming_f, rivals_f, uses_f, strict_f, support_f, headed_f, fact_f, in_index}
use Rattle.memory.specs.Memory.{kind_number}
use Rattle.memory.specs.Indexing.{single, rule_words, entry_words, rules_to, entries_to, use_count}
use Rattle.memory.proofs.index.Growth.{single_field}

-- a sum with one number that passes
pub total_here : (n j : ℕ) (f : ℕ → ℕ) → j < n → total n (λ k. weigh (eqb k j) (f k)) ≡ f j
total_here n j f h =
    total_point n (λ _. 0) (λ k. weigh (eqb k j) (f k)) j (f j) h (omega (arith, weigh_true (eqb j j) (f j) (eqb_refl j))) (λ k _ o. weigh_false (eqb k j) (f k) (λ t. o (eqb→eq k j t)))
    ∙ omega (arith, total_zero n (λ _. 0) (λ k _. refl))

pub weigh_and : (x y : Bool) → weigh x (weigh y 1) ≡ weigh (y and x) 1
weigh_and x y = weigh_both x y 1 ∙ ap (λ z. weigh z 1) (and_swap x y)

-- What a rule and an entry add to their fields, and that they add nothing to any other.
abbrev rule_fields : List ℕ
rule_fields = size_f ∷ head_f ∷ kind_f ∷ headed_f ∷ strict_f ∷ support_f ∷ []

abbrev entry_fields : List ℕ
entry_fields = size_f ∷ uses_f ∷ []

-- one word, in a field that is not among these
single_else : (l : List ℕ) (g j : ℕ) → T (isnt (member g l)) → (f i v : ℕ) → T (member f l) → single f i v g j ≡ 0
single_else l g j n f i v m = single_field f i v g j (λ e. isnt_elim _ n (subst (λ z. T (member z l)) e m))

module _ (k : Kind) (h r j : ℕ) where
  rule_size : rule_words k h r size_f j ≡ weigh (eqb r j) 1
  unfolding rule_words single ◌and◌ weigh
  rule_size = omega arith

  rule_head : rule_words k h r head_f j ≡ weigh (eqb r j) h
  unfolding rule_words single ◌and◌ weigh
  rule_head = omega arith

  rule_kind : rule_words k h r kind_f j ≡ weigh (eqb r j) (kind_number k)
  unfolding rule_words single ◌and◌ weigh
  rule_kind = omega arith

  rule_strict : rule_words k h r strict_f j ≡ weigh (eqb h j) (weigh (is_strict k) 1)
  unfolding rule_words single ◌and◌ weigh
  rule_strict = omega arith

  rule_support : rule_words k h r support_f j ≡ weigh (eqb h j) (weigh (can_support k) 1)
  unfolding rule_words single ◌and◌ weigh
  rule_support = omega arith

  rule_headed : rule_words k h r headed_f j ≡ weigh (eqb h j) 1
  unfolding rule_words single ◌and◌ weigh
  rule_headed = omega arith

  rule_else : (g : ℕ) → T (isnt (member g rule_fields)) → rule_words k h r g j ≡ 0
  unfolding rule_words some_of ◌or◌
  rule_else g n =
      let z = single_else rule_fields g j n in
      omega (arith, z size_f r 1 tt, z head_f r h tt, z kind_f r (kind_number k) tt, z headed_f h 1 tt, z strict_f h (weigh (is_strict k) 1) tt, z support_f h (weigh (can_support k) 1) tt)

module _ (r q j : ℕ) where
  entry_size : entry_words r q size_f j ≡ weigh (eqb r j) 1
  unfolding entry_words single ◌and◌ weigh
  entry_size = omega arith

  entry_use : entry_words r q uses_f j ≡ weigh (eqb q j) 1
  unfolding entry_words single ◌and◌ weigh
  entry_use = omega arith

  entry_else : (g : ℕ) → T (isnt (member g entry_fields)) → entry_words r q g j ≡ 0
  unfolding entry_words some_of ◌or◌
  entry_else g n = let z = single_else entry_fields g j n in omega (arith, z size_f r 1 tt, z uses_f q 1 tt)

-- all these fields are the index's
outside : (l : List ℕ) → T (every_of l in_index) → (g : ℕ) → (T (in_index g) → ⊥) → T (isnt (member g l))
outside l t g n = isnt_intro _ (λ m. n (every_of_elim l in_index t g m))

-- what all add together
abbrev pub index_to : List ℕ → Sizes → ℕ → ℕ → ℕ
index_to b s g j = rules_to (theory_in b s) s.rules g j + entries_to b s s.entries g j

module _ (b : List ℕ) (s : Sizes) where
  rules_else : (g j : ℕ) → T (isnt (member g rule_fields)) → rules_to (theory_in b s) s.rules g j ≡ 0
  rules_else g j n = total_zero s.rules _ (λ r _. rule_else _ _ r j g n)

  entries_else : (g j : ℕ) → T (isnt (member g entry_fields)) → entries_to b s s.entries g j ≡ 0
  entries_else g j n = total_zero s.entries _ (λ i _. entry_else _ _ j g n)

  pub index_outside : (g j : ℕ) → (T (in_index g) → ⊥) → index_to b s g j ≡ 0
  unfolding in_index every_of ◌and◌ ◌or◌
  index_outside g j n = omega (arith, rules_else g j (outside rule_fields tt g n), entries_else g j (outside entry_fields tt g n))

  -- a field that the rules alone add to
  rules_at : (g j : ℕ) (f : ℕ → ℕ) → ((r : ℕ) → rule_words (kind_of (theory_in b s) r) (head_of (theory_in b s) r) r g j ≡ f r) → T (isnt (member g entry_fields))
      → index_to b s g j ≡ total s.rules f
  rules_at g j f e n =
      let x : rules_to (theory_in b s) s.rules g j ≡ total s.rules f = total_ext s.rules _ f (λ r _. e r) in
      omega (arith, entries_else g j n)

  pub index_heads : (r : ℕ) → r < s.rules → index_to b s head_f r ≡ head_of (theory_in b s) r
  unfolding some_of ◌or◌ isnt
  index_heads r h =
      rules_at head_f r (λ k. weigh (eqb k r) (head_of (theory_in b s) k)) (λ k. rule_head _ _ k r) tt ∙ total_here s.rules r (head_of (theory_in b s)) h

  pub index_kinds : (r : ℕ) → r < s.rules → index_to b s kind_f r ≡ kind_number (kind_of (theory_in b s) r)
  unfolding some_of ◌or◌ isnt
  index_kinds r h =
      rules_at kind_f r (λ k. weigh (eqb k r) (kind_number (kind_of (theory_in b s) k))) (λ k. rule_kind _ _ k r) tt
      ∙ total_here s.rules r (λ k. kind_number (kind_of (theory_in b s) k)) h

  pub index_stricts : (q : ℕ) → index_to b s strict_f q ≡ count_below s.rules (λ r. strict_for (theory_in b s) r q)
  unfolding strict_for some_of ◌or◌ isnt
  index_stricts q = rules_at strict_f q _ (λ k. rule_strict _ _ k q ∙ weigh_and _ _) tt

  pub index_supports : (q : ℕ) → index_to b s support_f q ≡ count_below s.rules (λ r. supporter (theory_in b s) r q)
  unfolding supporter some_of ◌or◌ isnt
  index_supports q = rules_at support_f q _ (λ k. rule_support _ _ k q ∙ weigh_and _ _) tt

  pub index_headed : (q : ℕ) → index_to b s headed_f q ≡ count_below s.rules (λ r. eqb (head_of (theory_in b s) r) q)
  unfolding some_of ◌or◌ isnt
  index_headed q = rules_at headed_f q _ (λ k. rule_headed _ _ k q) tt

  -- the fields that rules and entries leave alone: those of facts and of pairs
  pub rules_facts : (q : ℕ) → rules_to (theory_in b s) s.rules fact_f q ≡ 0
  unfolding some_of ◌or◌ isnt
  rules_facts q = rules_else fact_f q tt

  pub entries_facts : (q : ℕ) → entries_to b s s.entries fact_f q ≡ 0
  unfolding some_of ◌or◌ isnt
  entries_facts q = entries_else fact_f q tt

  pub index_pairs : (r : ℕ) → (index_to b s naming_f r ≡ 0) × (index_to b s rivals_f r ≡ 0)
  unfolding some_of ◌or◌ isnt
  index_pairs r = (
    omega (arith, rules_else naming_f r tt, entries_else naming_f r tt),
    omega (arith, rules_else rivals_f r tt, entries_else rivals_f r tt),
  )

  pub index_uses : (q : ℕ) → index_to b s uses_f q ≡ use_count b s q
  unfolding some_of ◌or◌ isnt
  index_uses q =
      let y : entries_to b s s.entries uses_f q ≡ use_count b s q = total_ext s.entries _ _ (λ i _. entry_use _ _ q) in
      omega (arith, rules_else uses_f q tt)

  pub index_sizes : (r : ℕ) → r < s.rules → index_to b s size_f r ≡ suc (length (body_of (theory_in b s) r))
  unfolding theory_in body_in
  index_sizes r h =
      let x : rules_to (theory_in b s) s.rules size_f r ≡ 1 = total_ext s.rules _ _ (λ k _. rule_size _ _ k r) ∙ total_here s.rules r (λ _. 1) h in
      let y : entries_to b s s.entries size_f r ≡ count_below s.entries (λ i. eqb (entry_at b s i).rule r) = total_ext s.entries _ _ (λ i _. entry_size _ _ r) in
      let l : length (body_in b s r) ≡ count_below s.entries (λ i. eqb (entry_at b s i).rule r) =
      length-map (pick (upto s.entries) (λ i. eqb (entry_at b s i).rule r)) (λ i. (entry_at b s i).literal.0) ∙ count_upto s.entries (λ i. eqb (entry_at b s i).rule r) in
      omega arith
