-- The origins of rules: the old layout has none, and an old reader refuses a layout that has one (document 02, S-5). Assumes nothing.
use Prim.Native.Nat.{ℕ, zero, suc, ◌+◌, ◌*◌, ◌/◌, ◌%◌, ◌≤◌, ◌<◌}
use native.Mathlib.Nat.{div-add-mod'}
use native.Mathlib.Omega.{arith}
use mathlib.Core.Path.{◌≡◌, refl, sym, ◌∙◌, ap, subst}
use mathlib.Core.Logic.{⊎_elim}
use mathlib.Core.Bool.{true, false}
use mathlib.Core.List.{List}
use borrow.Author.Tests.{lt-ltb, le-ltb, ltb-false}
use lib.Dec.{ltb}
use lib.ListN.{length}
use Rattle.logic.specs.Tests.{◌or◌}
use Rattle.logic.proofs.Tests.{true_of, of_true, false_of, of_false, or_right, or_elim, at_most, some_intro, some_elim}
use Rattle.table.specs.declared.format.Sizes.{Sizes}
use Rattle.table.specs.declared.format.Origin.TheVariants.{None}
use Rattle.std.specs.Prelude.{Ok, Err}
use Rattle.table.specs.declared.judge.Refusal.TheVariants.{BadKind}
use Rattle.table.specs.declared.edition.Edition.{Edition}
use Rattle.table.specs.declared.edition.Edition.TheVariants.{Old, Two}
use Rattle.table.specs.Editions.{layout_of, unmarked}
use Rattle.table.specs.Format.{sizes_of, left, rules_from, origin_number, origin_of, rule_at, origin_at}
use Rattle.table.specs.Refusals.{truncated, wrong_length, bad_left, bad_rule, bad_kind, out_of_range, disorder, cycle, judged, judgement_of}
use Rattle.table.proofs.Legal.{Passed, passed, legal, facts_zero, long_layout, left_in_lem, left_past}
use Rattle.content.proofs.Files.{left_small, rule_left}

-- a left word that an old reader takes has no origin
small_origin : (w : ℕ) → w ≤ 2 → origin_of (w / 4) ≡ None
unfolding origin_of
small_origin zero h = refl
small_origin (suc zero) h = refl
small_origin (suc (suc zero)) h = refl
small_origin (suc (suc (suc w))) h = absurd (omega arith)

-- and one with a kind and without an origin is one that an old reader takes
number_zero : (n : ℕ) → origin_number (origin_of n) ≡ 0 → n ≡ 0
unfolding origin_of
number_zero zero e = refl
number_zero (suc zero) e = absurd (omega arith)
number_zero (suc (suc zero)) e = absurd (omega arith)
number_zero (suc (suc (suc n))) e = absurd (omega arith)

parts_small : (w q m : ℕ) → q * 4 + m ≡ w → q ≡ 0 → m ≤ 2 → w ≤ 2
parts_small w q m e f h = omega arith

module _ (w : ℕ) where
  pub old_left : bad_left Old w ≡ false → origin_of (w / 4) ≡ None
  unfolding bad_left
  old_left h = small_origin w (ltb-false _ _ h)

  pub two_left : bad_left Old w ≡ false → bad_left Two w ≡ false
  unfolding bad_left ◌or◌
  two_left h = let (k, o) = left_small Old w h in simp (le-ltb 2 (w % 4) k, le-ltb 3 (w / 4) o)

  pub plain_left : bad_left Two w ≡ false → origin_number (origin_of (w / 4)) ≡ 0 → bad_left Old w ≡ false
  unfolding bad_left
  plain_left h e = le-ltb 2 w (parts_small w (w / 4) (w % 4) (div-add-mod' w 4) (number_zero (w / 4) e) (left_small Two w h).0)

  pub foreign_left : 0 < origin_number (origin_of (w / 4)) → bad_left Old w ≡ true
  unfolding bad_left
  foreign_left h =
      ⊎_elim (λ k. absurd (let z : origin_number (origin_of (w / 4)) ≡ 0 = ap (λ o. origin_number o) (small_origin w k) in omega arith)) (λ k. lt-ltb 2 w k) (at_most w 2)

foreign_kind : (l : List ℕ) (s : Sizes) (r : ℕ) → r < s.rules → 0 < origin_number (rule_at l s r).origin → bad_kind Old l s ≡ true
unfolding bad_kind bad_rule
foreign_kind l s r h o =
    true_of _ (or_right _ _ (some_intro s.rules _ r h (of_true _ (foreign_left (left l (rules_from s + r))
    (subst (λ w. 0 < origin_number (origin_of (w / 4))) (left_in_lem l (rules_from s) s.rules r h) o)))))

-- the kinds of a layout in one edition and in the other
kinds_as : (e d : Edition) (l : List ℕ) (s : Sizes) → bad_kind e l s ≡ false
    → ((r : ℕ) → r < s.rules → bad_left e (left l (rules_from s + r)) ≡ false → bad_left d (left l (rules_from s + r)) ≡ false) → bad_kind d l s ≡ false
unfolding bad_kind bad_rule
kinds_as e d l s k f =
    false_of _ (λ t. ⊎_elim (of_false _ (facts_zero e l s k))
    (λ u. let (r, h, v) = some_elim _ _ u in of_false _ (f r h (rule_left e l s k r h)) v) (or_elim _ _ t))

pub two_kinds : (l : List ℕ) (s : Sizes) → bad_kind Old l s ≡ false → bad_kind Two l s ≡ false
two_kinds l s k = kinds_as Old Two l s k (λ r h. two_left (left l (rules_from s + r)))

pub plain_kinds : (l : List ℕ) (s : Sizes) → bad_kind Two l s ≡ false → ((r : ℕ) → r < s.rules → origin_number (rule_at l s r).origin ≡ 0) → bad_kind Old l s ≡ false
plain_kinds l s k o =
    kinds_as Two Old l s k (λ r h b. plain_left (left l (rules_from s + r)) b
    (ap (λ w. origin_number (origin_of (w / 4))) (sym (left_in_lem l (rules_from s) s.rules r h)) ∙ o r h))

-- a legal layout is judged alike in two editions, save by the kinds of its rules
module _ (e d : Edition) (b c : List ℕ) (s : Sizes) (p : Passed e b s) (first : unmarked d c ≡ false) (same : layout_of d c ≡ layout_of e b) where
  long : truncated d c ≡ false
  unfolding truncated ◌or◌
  long = simp first (ap (λ l. ltb (length l) 10) same ∙ long_layout e b p.whole)

  pub passed_as : bad_kind d (layout_of e b) s ≡ false → Passed d c s
  passed_as k =
      record {
        whole = long;
        read = ap sizes_of same ∙ p.read;
        limits = p.limits;
        length = ap (λ l. wrong_length l s) same ∙ p.length;
        kinds = ap (λ l. bad_kind d l s) same ∙ k;
        ranges = ap (λ l. out_of_range l s) same ∙ p.ranges;
        sorted = ap (λ l. disorder l s) same ∙ p.sorted;
        acyclic = ap (λ l. cycle l s) same ∙ p.acyclic;
      }

  pub refused_as : bad_kind d (layout_of e b) s ≡ true → judgement_of d c ≡ Err BadKind
  unfolding judgement_of judged
  refused_as k =
      simp (long, ap sizes_of same ∙ p.read, p.limits, ap (λ l. wrong_length l s) same ∙ p.length, ap (λ l. bad_kind d l s) same ∙ k)

-- an old table says no origin
pub old_origins : (b : List ℕ) (s : Sizes) → judgement_of Old b ≡ Ok s → (r : ℕ) → (rule_at (layout_of Old b) s r).origin ≡ None
unfolding origin_of
old_origins b s a r =
    ⊎_elim (λ h. ap (λ w. origin_of (w / 4)) (left_past (layout_of Old b) (rules_from s) s.rules r h))
    (λ h. ap (λ w. origin_of (w / 4)) (left_in_lem (layout_of Old b) (rules_from s) s.rules r h) ∙ old_left _ (rule_left Old (layout_of Old b) s (passed Old b s a).kinds r h))
    (at_most s.rules r)

-- "An old reader given the old layout, otherwise legal, with an origin in it says 4, never a wrong kind."
pub old_reader : (b : List ℕ) (s : Sizes) → judgement_of Two b ≡ Ok s → (r : ℕ) → r < s.rules → 0 < origin_number (origin_at Two b r)
    → judgement_of Old (layout_of Two b) ≡ Err BadKind
unfolding layout_of unmarked
old_reader b s a r h o =
    refused_as Two Old b (layout_of Two b) s (passed Two b s a) refl refl (foreign_kind (layout_of Two b) s r h (subst (λ z. 0 < origin_number (rule_at (layout_of Two b) z r).origin) (legal Two b s a).read o))
