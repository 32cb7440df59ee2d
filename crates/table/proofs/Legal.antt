-- What an accepted table has: the layout b is legal, and what that is. Assumes nothing.
use Prim.Native.Nat.{ℕ, zero, suc, ◌+◌, ◌*◌, ◌≤◌, ◌<◌}
use native.Mathlib.Nat.{lt_of_not-le, not-suc-le-zero, zero-lt-suc, mul-one}
use mathlib.Core.Path.{◌≡◌, refl, sym, ◌∙◌, ap, subst}
use mathlib.Core.Logic.{⊎_elim}
use mathlib.Core.Bool.{Bool, true, false, cond}
use mathlib.Core.List.{List}
use borrow.Author.Tests.{ltb-false, lt-ltb, le-ltb}
use lib.Dec.{T, ltb, eqb, eqb→eq, lt→ltb, le→leb}
use lib.ListN.{length, length-map}
use Rattle.logic.specs.Tests.{◌or◌, weigh, upto, pick, member}
use Rattle.logic.specs.Theory.{proper, superior, entries}
use Rattle.logic.specs.Cycle.{Cycle}
use Rattle.logic.proofs.Tests.{of_false, false_of, and_intro, or_left, or_right, isnt_intro, every_intro, some_intro, every_of_intro}
use Rattle.logic.proofs.Lists.{member_map, member_pick, member_upto}
use Rattle.logic.proofs.Sums.{total_ext, total_swap, total_const, count_upto}
use Rattle.logic.proofs.Pigeon.{count_is_one}
use Rattle.logic.proofs.Theories.{cyclic_agrees}
use Rattle.table.specs.declared.format.Sizes.{Sizes}
use Rattle.table.specs.declared.judge.Refusal.{Refusal}
use Rattle.table.specs.declared.judge.Refusal.TheVariants.{Truncated, TooLarge, WrongLength, BadKind, OutOfRange, Unsorted, Cyclic}
use Rattle.table.specs.Refusals.{Judgement}
use Rattle.std.specs.Prelude.{Ok, Err}
use Rattle.table.specs.declared.edition.Edition.{Edition}
use Rattle.table.specs.Editions.{layout_of, unmarked}
use Rattle.table.specs.Format.{sizes_of, span_of, left, right, left_in, right_in, facts_from, rules_from, entries_from, pairs_from, entry_at, pair_at, rule_at, body_in, theory_in, theory_of}
use Rattle.table.specs.Refusals.{truncated, oversize, wrong_length, some_at_least, bad_fact, bad_kind, out_of_range, disorder, cycle, judged, judgement_of, Legal}

-- a judgement accepts or refuses, and has its sizes
pub refused_not : {n : Refusal} {s : Sizes} → ◌≡◌ {A = Judgement} (Err n) (Ok s) → ⊥
refused_not e = cc

pub accepted_one : {s t : Sizes} → ◌≡◌ {A = Judgement} (Ok s) (Ok t) → s ≡ t
accepted_one e = cc

-- a judgement that goes on past a fault
pub pass : (t : Bool) (n : Refusal) (j : Judgement) (s : Sizes) → cond t (Err n) j ≡ Ok s → (t ≡ false) × (j ≡ Ok s)
pass true n j s e = absurd (refused_not e)
pass false n j s e = (refl, e)

-- no fault applies
pub record Passed (e : Edition) (b : List ℕ) (s : Sizes) : Type 0 where
  pub whole : truncated e b ≡ false
  pub read : sizes_of (layout_of e b) ≡ s
  pub limits : oversize s ≡ false
  pub length : wrong_length (layout_of e b) s ≡ false
  pub kinds : bad_kind e (layout_of e b) s ≡ false
  pub ranges : out_of_range (layout_of e b) s ≡ false
  pub sorted : disorder (layout_of e b) s ≡ false
  pub acyclic : cycle (layout_of e b) s ≡ false

pub passed : (e : Edition) (b : List ℕ) (s : Sizes) → judgement_of e b ≡ Ok s → Passed e b s
unfolding judgement_of judged
passed e b s a =
    let (e1, f1) = pass (truncated e b) Truncated (judged e (layout_of e b) (sizes_of (layout_of e b))) s a in
    let (e2, f2) = pass (oversize (sizes_of (layout_of e b))) TooLarge _ s f1 in
    let (e3, f3) = pass (wrong_length (layout_of e b) (sizes_of (layout_of e b))) WrongLength _ s f2 in
    let (e4, f4) = pass (bad_kind e (layout_of e b) (sizes_of (layout_of e b))) BadKind _ s f3 in
    let (e5, f5) = pass (out_of_range (layout_of e b) (sizes_of (layout_of e b))) OutOfRange _ s f4 in
    let (e6, f6) = pass (disorder (layout_of e b) (sizes_of (layout_of e b))) Unsorted _ s f5 in
    let (e7, f7) = pass (cycle (layout_of e b) (sizes_of (layout_of e b))) Cyclic (Ok (sizes_of (layout_of e b))) s f6 in
    let r : sizes_of (layout_of e b) ≡ s = accepted_one f7 in
    record {
      whole = e1;
      read = r;
      limits = subst (λ z. oversize z ≡ false) r e2;
      length = subst (λ z. wrong_length (layout_of e b) z ≡ false) r e3;
      kinds = subst (λ z. bad_kind e (layout_of e b) z ≡ false) r e4;
      ranges = subst (λ z. out_of_range (layout_of e b) z ≡ false) r e5;
      sorted = subst (λ z. disorder (layout_of e b) z ≡ false) r e6;
      acyclic = subst (λ z. cycle (layout_of e b) z ≡ false) r e7;
    }

-- a disjunction that fails fails on both sides
pub or_fails : (x y : Bool) → x or y ≡ false → (x ≡ false) × (y ≡ false)
or_fails x y e = (false_of x (λ t. of_false _ e (or_left x y t)), false_of y (λ t. of_false _ e (or_right x y t)))

-- a file that is not truncated has its first byte, and five sizes in its layout
module _ (e : Edition) (b : List ℕ) (h : truncated e b ≡ false) where
  pub marked : unmarked e b ≡ false
  unfolding truncated
  marked = (or_fails _ _ h).0

  pub long_layout : ltb (length (layout_of e b)) 10 ≡ false
  unfolding truncated
  long_layout = (or_fails _ _ h).1

pub facts_zero : (e : Edition) (b : List ℕ) (s : Sizes) → bad_kind e b s ≡ false → bad_fact b s ≡ false
unfolding bad_kind
facts_zero e b s k = (or_fails _ _ k).0

-- the layout of an accepted table is legal
pub legal : (e : Edition) (b : List ℕ) (s : Sizes) → judgement_of e b ≡ Ok s → Legal (layout_of e b) s
legal e b s a =
    let p = passed e b s a in
    record {
      read = p.read;
      limits = p.limits;
      whole = p.length;
      facts = facts_zero e _ s p.kinds;
      ranges = p.ranges;
      sorted = p.sorted;
      acyclic = p.acyclic;
    }

-- as it was taken from a table that was judged
pub legal_read : (e : Edition) (b : List ℕ) (s : Sizes) {j : Judgement} {l : List ℕ} → j ≡ judgement_of e b → j ≡ Ok s → l ≡ layout_of e b → Legal l s
legal_read e b s f g h = subst (λ l. Legal l s) (sym h) (legal e b s (sym f ∙ g))

-- and one without a fault is accepted
pub accepted : (e : Edition) (b : List ℕ) (s : Sizes) → Passed e b s → judgement_of e b ≡ Ok s
unfolding judgement_of judged
accepted e b s p =
    simp (p.whole, p.read, p.limits, p.length, p.kinds, p.ranges, p.sorted, p.acyclic)

-- what it says, with the sizes that it was judged by
pub theory_read : (e : Edition) (b : List ℕ) (s : Sizes) → judgement_of e b ≡ Ok s → theory_in (layout_of e b) s ≡ theory_of e b
theory_read e b s a = ap (theory_in (layout_of e b)) (sym (legal e b s a).read)

-- the sizes are within their limits
pub record Limited (s : Sizes) : Type 0 where
  pub atoms : s.atoms ≤ 512
  pub facts : s.facts ≤ 1024
  pub rules : s.rules ≤ 1024
  pub entries : s.entries ≤ 4096
  pub pairs : s.pairs ≤ 2048

pub limited : (s : Sizes) → oversize s ≡ false → Limited s
unfolding oversize
limited s e =
    let (a, e1) = or_fails _ _ e in
    let (f, e2) = or_fails _ _ e1 in
    let (n, e3) = or_fails _ _ e2 in
    let (m, p) = or_fails _ _ e3 in
    record { atoms = ltb-false _ _ a; facts = ltb-false _ _ f; rules = ltb-false _ _ n; entries = ltb-false _ _ m; pairs = ltb-false _ _ p }

pub whole_length : (b : List ℕ) (s : Sizes) → wrong_length b s ≡ false → length b ≡ 10 + 4 * span_of s
unfolding wrong_length
whole_length b s e = ⊎_elim (λ t. eqb→eq _ _ t) (λ n. absurd (of_false _ e (isnt_intro _ n))) (Rattle.logic.proofs.Tests.test_cases (eqb (length b) (10 + 4 * span_of s)))

-- no value reaches the limit
all_below : (n limit : ℕ) (f : ℕ → ℕ) → some_at_least n limit f ≡ false → (i : ℕ) → i < n → f i < limit
all_below n limit f e i h = lt_of_not-le (λ l. of_false _ e (some_intro n _ i h (le→leb limit (f i) l)))

-- each word is in its range
pub record Ranged (b : List ℕ) (s : Sizes) : Type 0 where
  pub facts : (i : ℕ) → i < s.facts → right b s (facts_from s + i) < 2 * s.atoms
  pub heads : (r : ℕ) → r < s.rules → right b s (rules_from s + r) < 2 * s.atoms
  pub users : (i : ℕ) → i < s.entries → left b (entries_from s + i) < s.rules
  pub literals : (i : ℕ) → i < s.entries → right b s (entries_from s + i) < 2 * s.atoms
  pub stronger : (i : ℕ) → i < s.pairs → left b (pairs_from s + i) < s.rules
  pub weaker : (i : ℕ) → i < s.pairs → right b s (pairs_from s + i) < s.rules

pub ranged : (b : List ℕ) (s : Sizes) → out_of_range b s ≡ false → Ranged b s
unfolding out_of_range
ranged b s e =
    let (x, y) = or_fails _ _ e in
    let (v, w) = or_fails _ _ x in
    let (f, h) = or_fails _ _ v in
    let (u, l) = or_fails _ _ w in
    let (p, q) = or_fails _ _ y in
    record {
      facts = all_below _ _ _ f;
      heads = all_below _ _ _ h;
      users = all_below _ _ _ u;
      literals = all_below _ _ _ l;
      stronger = all_below _ _ _ p;
      weaker = all_below _ _ _ q;
    }

-- what the readers give inside a section
pub left_in_lem : (b : List ℕ) (from n i : ℕ) → i < n → left_in b from n i ≡ left b (from + i)
unfolding left_in
left_in_lem b from n i h = simp (lt-ltb i n h)

pub right_in_lem : (b : List ℕ) (s : Sizes) (from n i : ℕ) → i < n → right_in b s from n i ≡ right b s (from + i)
unfolding right_in
right_in_lem b s from n i h = simp (lt-ltb i n h)

-- and past its end
pub left_past : (b : List ℕ) (from n i : ℕ) → n ≤ i → left_in b from n i ≡ 0
unfolding left_in
left_past b from n i h = simp (le-ltb i n h)

pub right_past : (b : List ℕ) (s : Sizes) (from n i : ℕ) → n ≤ i → right_in b s from n i ≡ 0
unfolding right_in
right_past b s from n i h = simp (le-ltb i n h)

-- where no number will do there is none to ask of
nothing : (n : ℕ) (f : ℕ → ℕ) → ((i : ℕ) → i < n → f i < 0) → n ≡ 0
nothing zero f h = refl
nothing (suc n) f h = absurd (not-suc-le-zero (h 0 (zero-lt-suc n)))

module _ (b : List ℕ) (s : Sizes) (g : Ranged b s) where
  below_left : (from n i m : ℕ) → i < n → left b (from + i) < m → left_in b from n i < m
  below_left from n i m h l = subst (λ z. z < m) (sym (left_in_lem b from n i h)) l

  below_right : (from n i m : ℕ) → i < n → right b s (from + i) < m → right_in b s from n i < m
  below_right from n i m h l = subst (λ z. z < m) (sym (right_in_lem b s from n i h)) l

  pub rule_below : (i : ℕ) → i < s.entries → (entry_at b s i).rule < s.rules
  rule_below i h = below_left (entries_from s) s.entries i s.rules h (g.users i h)

  pub literal_below : (i : ℕ) → i < s.entries → (entry_at b s i).literal.0 < 2 * s.atoms
  literal_below i h = below_right (entries_from s) s.entries i (2 * s.atoms) h (g.literals i h)

  pub head_below : (r : ℕ) → r < s.rules → (rule_at b s r).head.0 < 2 * s.atoms
  head_below r h = below_right (rules_from s) s.rules r (2 * s.atoms) h (g.heads r h)

  pub stronger_below : (i : ℕ) → i < s.pairs → (pair_at b s i).stronger < s.rules
  stronger_below i h = below_left (pairs_from s) s.pairs i s.rules h (g.stronger i h)

  pub weaker_below : (i : ℕ) → i < s.pairs → (pair_at b s i).weaker < s.rules
  weaker_below i h = below_right (pairs_from s) s.pairs i s.rules h (g.weaker i h)

  -- an antecedent is the literal of an entry of the rule
  pub body_entry : (r q : ℕ) → T (member q (body_in b s r)) → (i : ℕ) × (i < s.entries) × ((entry_at b s i).rule ≡ r) × (q ≡ (entry_at b s i).literal.0)
  unfolding body_in
  body_entry r q m =
      let (i, u, e) = member_map _ _ q m in
      let (v, t) = member_pick (upto s.entries) _ i u in
      (i, member_upto s.entries i v, eqb→eq _ _ t, e)

  pub proper_theory : T (proper (theory_in b s))
  unfolding theory_in
  proper_theory =
      and_intro _ _
      (and_intro _ _
      (and_intro _ _ (every_intro s.facts _ (λ i h. lt→ltb _ _ (below_right (facts_from s) s.facts i (2 * s.atoms) h (g.facts i h))))
      (every_intro s.rules _ (λ r h. lt→ltb _ _ (head_below r h))))
      (every_intro s.rules _ (λ r h. every_of_intro (body_in b s r) _ (λ q m.
      let (i, k, _, e) = body_entry r q m in
      lt→ltb _ _ (subst (λ z. z < 2 * s.atoms) (sym e) (literal_below i k))))))
      (every_intro s.pairs _ (λ i h. and_intro _ _ (lt→ltb _ _ (stronger_below i h)) (lt→ltb _ _ (weaker_below i h))))

  -- the bodies hold each entry once: B in all
  pub all_entries : entries (theory_in b s) ≡ s.entries
  unfolding theory_in body_in
  all_entries =
      total_ext s.rules _ _ (λ r _. length-map (pick (upto s.entries) (λ i. eqb (entry_at b s i).rule r)) (λ i. (entry_at b s i).literal.0)
      ∙ count_upto s.entries (λ i. eqb (entry_at b s i).rule r))
      ∙ total_swap s.rules s.entries (λ r i. weigh (eqb (entry_at b s i).rule r) 1)
      ∙ total_ext s.entries _ (λ _. 1) (λ i h. count_is_one s.rules (entry_at b s i).rule (rule_below i h)) ∙ total_const s.entries 1 ∙ mul-one s.entries

  -- without atoms there is nothing
  pub no_atoms : s.atoms ≡ 0 → (s.facts ≡ 0) × (s.rules ≡ 0) × (s.entries ≡ 0) × (s.pairs ≡ 0)
  no_atoms e =
      let none : (i : ℕ) → i < s.rules → (rule_at b s i).head.0 < 0 = λ i h. subst (λ a. (rule_at b s i).head.0 < 2 * a) e (head_below i h) in
      let rules : s.rules ≡ 0 = nothing s.rules _ none in (
        nothing s.facts _ (λ i h. subst (λ a. right b s (facts_from s + i) < 2 * a) e (g.facts i h)),
        rules,
        nothing s.entries _ (λ i h. subst (λ n. (entry_at b s i).rule < n) rules (rule_below i h)),
        nothing s.pairs _ (λ i h. subst (λ n. (pair_at b s i).stronger < n) rules (stronger_below i h)),
      )

-- an accepted table's superiority has no cycle
pub no_cycle : (b : List ℕ) (s : Sizes) → Legal b s → Cycle (superior (theory_in b s)) → ⊥
unfolding cycle theory_in
no_cycle b s l c = of_false _ l.acyclic ((cyclic_agrees (theory_in b s) (proper_theory b s (ranged b s l.ranges))).1 c)
