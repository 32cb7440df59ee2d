-- The roots once all entries of a layout were taken in are the smallest atoms of the parts. Assumes nothing.
use Rattle.std.proofs.lemmas.Grind.{common_steps}
use Prim.Native.Nat.{ℕ, zero, suc, ◌+◌, ◌≤◌, ◌<◌}
use native.Mathlib.Nat.{le_refl, le_trans}
use native.Mathlib.Numerals.{add-one}
use native.Mathlib.Omega.{arith}
use mathlib.Core.Path.{◌≡◌, refl, sym, ◌∙◌, ap, subst}
use mathlib.Core.Logic.{⊎_elim}
use mathlib.Core.Bool.{cond}
use mathlib.Core.List.{List}
use lib.Dec.{T, eqb, eqb_refl}
use Rattle.logic.specs.Tests.{upto}
use Rattle.logic.specs.Theory.{atom, head_of}
use Rattle.logic.specs.Parts.{mentions, linked, smallest, Together, own, next}
use Rattle.logic.proofs.Tests.{lt_suc_cases}
use Rattle.logic.proofs.Lists.{member_map_intro, member_pick_intro, member_upto_intro}
use Rattle.logic.proofs.Parts.{head_mentioned, antecedent_mentioned, mentioned_cases, linked_by, linked_elim, together_trans, together_one, together_sym, smallest_only}
use Rattle.table.specs.declared.format.Sizes.{Sizes}
use Rattle.table.specs.declared.format.Entry.{Entry}
use Rattle.table.specs.declared.format.Rule.{Rule}
use Rattle.table.specs.Format.{rule_at, entry_at, body_in, theory_in}
use Rattle.table.specs.Refusals.{Legal}
use Rattle.table.proofs.Legal.{limited, ranged, rule_below, literal_below, head_below, body_entry, proper_theory}
use Rattle.parts.specs.Chains.{Alone, Rooted, lower, upper, chained, Chained, roots_by, ChainedBy, Flat, Words}

-- where two atoms are chained together no root rises, each goes over to one of the two, and the two have the same
module _ (f : ℕ → ℕ) (a b : ℕ) where
  chained_le : (z : ℕ) → chained f a b z ≤ f z
  unfolding chained
  chained_le z = grind (arith, common_steps)

  chained_cases : (P : ℕ → Type 0) (z : ℕ) → P (f z) → (f z ≡ f a → P (f b)) → (f z ≡ f b → P (f a)) → P (chained f a b z)
  unfolding chained
  chained_cases P z same left right = grind (arith, common_steps)

  chained_both : chained f a b a ≡ chained f a b b
  unfolding chained
  chained_both = grind (arith, common_steps)

  chained_keeps : {y z : ℕ} → f y ≡ f z → chained f a b y ≡ chained f a b z
  unfolding chained
  chained_keeps e = ap (λ x. cond (eqb x (upper (f a) (f b))) (lower (f a) (f b)) x) e

-- the atoms that the i-th entry chains together
abbrev head_atom : List ℕ → Sizes → ℕ → ℕ
head_atom b s i = atom (rule_at b s (entry_at b s i).rule).head.0

abbrev literal_atom : List ℕ → Sizes → ℕ → ℕ
literal_atom b s i = atom (entry_at b s i).literal.0

-- as they are read
pub head_read : (b : List ℕ) (s : Sizes) (i : ℕ) {entry : Entry} {rule : Rule} {w x : ℕ} → entry ≡ entry_at b s i → w ≡ entry.rule → rule ≡ rule_at b s w
    → x ≡ atom rule.head.0 → x ≡ head_atom b s i
head_read b s i e f g h = grind (arith, common_steps)

pub literal_read : (b : List ℕ) (s : Sizes) (i : ℕ) {entry : Entry} {x : ℕ} → entry ≡ entry_at b s i → x ≡ atom entry.literal.0 → x ≡ literal_atom b s i
literal_read b s i e h = grind (arith, common_steps)

-- no entry, one entry more
pub chained_none : (b : List ℕ) (s : Sizes) {p : List ℕ} → Alone p → ChainedBy b s 0 p
unfolding roots_by
chained_none b s w = grind (arith, common_steps)

pub chained_next : (b : List ℕ) (s : Sizes) (i : ℕ) {p q : List ℕ} {x y : ℕ} → x ≡ head_atom b s i → y ≡ literal_atom b s i → ChainedBy b s i p → Chained p x y q
    → ChainedBy b s (i + 1) q
unfolding roots_by
chained_next b s i {q = q} {x} {y} e g w c =
    rw add-one
    record {
      falling = c.falling;
      roots =
          subst (λ x. Rooted (chained (roots_by b s i) x (literal_atom b s i)) q) e
          (subst (λ y. Rooted (chained (roots_by b s i) x y) q) g (c.roots (roots_by b s i) w.roots));
    }

module _ (b : List ℕ) (s : Sizes) where
  -- no root is larger than its atom
  roots_le : (n z : ℕ) → roots_by b s n z ≤ z
  unfolding roots_by
  roots_le zero z = le_refl z
  roots_le (suc n) z = le_trans (chained_le (roots_by b s n) (head_atom b s n) (literal_atom b s n) z) (roots_le n z)

  -- what an entry chains together has one root once it was taken in
  roots_same : (n i : ℕ) → i < n → roots_by b s n (head_atom b s i) ≡ roots_by b s n (literal_atom b s i)
  unfolding roots_by
  roots_same zero i h = absurd (omega arith)
  roots_same (suc n) i h =
      ⊎_elim (λ l. chained_keeps (roots_by b s n) (head_atom b s n) (literal_atom b s n) (roots_same n i l))
      (λ e. subst (λ k. roots_by b s (suc n) (head_atom b s k) ≡ roots_by b s (suc n) (literal_atom b s k)) (sym e)
      (chained_both (roots_by b s n) (head_atom b s n) (literal_atom b s n))) (lt_suc_cases i n h)

module _ (b : List ℕ) (s : Sizes) (l : Legal b s) where
  -- the atoms of an entry have a place, and belong to one part
  pub head_atom_below : (i : ℕ) {x : ℕ} → i < s.entries → x ≡ head_atom b s i → x < 512
  head_atom_below i h e =
      let w = ranged b s l.ranges in omega (arith, head_below b s w (entry_at b s i).rule (rule_below b s w i h), (limited s l.limits).atoms)

  pub literal_atom_below : (i : ℕ) {x : ℕ} → i < s.entries → x ≡ literal_atom b s i → x < 512
  literal_atom_below i h e = omega (arith, literal_below b s (ranged b s l.ranges) i h, (limited s l.limits).atoms)

  entry_together : (i : ℕ) → i < s.entries → Together (theory_in b s) (head_atom b s i) (literal_atom b s i)
  unfolding theory_in body_in
  entry_together i h =
      let r = (entry_at b s i).rule in
      together_one (linked_by (theory_in b s) r _ _ (rule_below b s (ranged b s l.ranges) i h) (head_mentioned (theory_in b s) r)
      (antecedent_mentioned (theory_in b s) r (entry_at b s i).literal.0
      (member_map_intro (λ k. (entry_at b s k).literal.0) _ i
      (member_pick_intro (upto s.entries) (λ k. eqb (entry_at b s k).rule r) i (member_upto_intro s.entries i h) (eqb_refl r)))))

  -- an atom and its root belong to one part
  together_next : (n : ℕ) → n < s.entries → ((z : ℕ) → Together (theory_in b s) z (roots_by b s n z)) → (z : ℕ) → Together (theory_in b s) z (roots_by b s (suc n) z)
  unfolding roots_by
  together_next n h w z =
      let both = together_trans (together_sym (w (head_atom b s n))) (together_trans (entry_together n h) (w (literal_atom b s n))) in
      chained_cases (roots_by b s n) (head_atom b s n) (literal_atom b s n) (Together (theory_in b s) z) z (w z)
      (λ e. together_trans (subst (Together (theory_in b s) z) e (w z)) both) (λ e. together_trans (subst (Together (theory_in b s) z) e (w z)) (together_sym both))

  roots_together : (n : ℕ) → n ≤ s.entries → (z : ℕ) → Together (theory_in b s) z (roots_by b s n z)
  unfolding roots_by
  roots_together zero h z = own
  roots_together (suc n) h z = together_next n h (roots_together n (omega arith)) z

  -- the root, once all entries were taken in
  abbrev root : ℕ → ℕ
  root = roots_by b s s.entries

  -- the atoms of a part have one root
  root_mentioned : (r a : ℕ) → T (mentions (theory_in b s) r a) → root a ≡ root (atom (head_of (theory_in b s) r))
  unfolding theory_in
  root_mentioned r a t =
      ⊎_elim (λ e. ap root (sym e))
      (λ (q, m, e).
      let (i, h, f, g) = body_entry b s (ranged b s l.ranges) r q m in
      ap root (sym e ∙ ap atom g) ∙ sym (roots_same b s s.entries i h) ∙ ap (λ k. root (atom (rule_at b s k).head.0)) f) (mentioned_cases (theory_in b s) r a t)

  root_linked : (a c : ℕ) → T (linked (theory_in b s) a c) → root a ≡ root c
  root_linked a c t = let (r, _, u, v) = linked_elim (theory_in b s) a c t in root_mentioned r a u ∙ sym (root_mentioned r c v)

  root_together : {a c : ℕ} → Together (theory_in b s) a c → root a ≡ root c
  root_together own = refl
  root_together (next t w) = root_linked _ _ t ∙ root_together w

  -- and it is the smallest of them
  root_smallest : (a : ℕ) → a < s.atoms → root a ≡ smallest (theory_in b s) a
  unfolding theory_in
  root_smallest a h =
      smallest_only (theory_in b s) (proper_theory b s (ranged b s l.ranges)) a (root a) h (roots_together s.entries (le_refl s.entries) a)
      (λ c w. subst (λ x. x ≤ c) (sym (root_together w)) (roots_le b s s.entries c))

  pub words_smallest : {p q : List ℕ} → ChainedBy b s s.entries p → Flat p q → Words (theory_in b s) q
  unfolding theory_in
  words_smallest w f =
      record {
        size = f.size;
        each = λ a h. f.roots root w.roots a (omega (arith, (limited s l.limits).atoms)) ∙ root_smallest a h;
      }
