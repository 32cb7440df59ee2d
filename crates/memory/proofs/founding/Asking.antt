-- What a search asks of a literal and of a rule (specs/Founding.antt), by the words of the memory of an accepted table. Assumes nothing.
use Prim.Native.Nat.{ℕ, zero, suc, ◌*◌, ◌<◌}
use native.Mathlib.Omega.{arith}
use mathlib.Core.Path.{◌≡◌, refl, sym, ◌∙◌, ap, ap₂, subst}
use mathlib.Core.Bool.{Bool, false, not}
use mathlib.Core.List.{List}
use lib.Dec.{eqb, ltb}
use Rattle.logic.specs.Tests.{◌and◌, ◌or◌, isnt}
use Rattle.logic.specs.Theory.{complement, is_fact, kind_of}
use Rattle.logic.proofs.Tests.{none_above, not_isnt}
use Rattle.table.specs.declared.format.Sizes.{Sizes}
use Rattle.table.specs.Format.{theory_in}
use Rattle.table.specs.Refusals.{Legal}
use Rattle.table.proofs.Legal.{limited, ranged, stronger_below}
use Rattle.memory.specs.Layout.{field_size}
use Rattle.memory.specs.Fields.{has, kind_f, fact_f, unopposed_f}
use Rattle.memory.specs.Memory.{view, NeverBothAt, Ready}
use Rattle.memory.specs.Deciding.{processed}
use Rattle.memory.specs.Founding.{held_in, barred, secure, needy}
use Rattle.memory.proofs.index.Kinds.{strict_number, support_number}
use Rattle.memory.proofs.inference.Following.{fact_above, processed_held, out_definitely, out_defeasibly, unopposed_by}

-- a number that is not 0 is one more than another
after : (i : ℕ) → (i ≡ 0 → ⊥) → (j : ℕ) × (i ≡ suc j)
after zero n = absurd (n refl)
after (suc j) n = (j, refl)

-- an accepted table's rules are below 1,024
pub small_rule : (b : List ℕ) (s : Sizes) (r : ℕ) → Legal b s → r < s.rules → r < field_size
small_rule b s r e h = omega (arith, (limited s e.limits).rules)

pub never_in : (b : List ℕ) (s : Sizes) (m : List ℕ) → Ready (theory_in b s) m → (r : ℕ) → r < s.rules → NeverBothAt (view m) r
unfolding theory_in
never_in b s m ready = ready.invariant.never

module _ (b : List ℕ) (s : Sizes) (m : List ℕ) (accepted : Legal b s) (ready : Ready (theory_in b s) m) where
  module _ {i q : ℕ} (small : q < 2 * s.atoms) where
    pub barred_first : {w : ℕ} → i ≡ 0 → w ≡ view m fact_f q → ltb 0 w ≡ barred (theory_in b s) (held_in m) i q
    unfolding theory_in barred
    barred_first {w} e f =
        subst (λ z. ltb 0 w ≡ barred (theory_in b s) (held_in m) z q) (sym e)
        (ap (ltb 0) (f ∙ ready.invariant.index.facts q small) ∙ fact_above (is_fact (theory_in b s) q))

    pub barred_second : {p : Bool} → (i ≡ 0 → ⊥) → p ≡ processed (view m) q 1 → not p ≡ barred (theory_in b s) (held_in m) i q
    unfolding barred
    barred_second {p} ne f =
        let (j, e) = after i ne in
        subst (λ z. not p ≡ barred (theory_in b s) (held_in m) z q) (sym e)
        (not_isnt p ∙ ap isnt (f ∙ processed_held (theory_in b s) m ready q 1 (omega arith)))

    pub secure_first : i ≡ 0 → false ≡ secure (theory_in b s) (held_in m) i q
    unfolding secure
    secure_first e = subst (λ z. false ≡ secure (theory_in b s) (held_in m) z q) (sym e) refl

    pub secure_second : {n w : ℕ} {p r : Bool} → (i ≡ 0 → ⊥) → n ≡ complement q → p ≡ processed (view m) n 0 → w ≡ view m unopposed_f n
        → r ≡ (p or ltb 0 w) → r ≡ secure (theory_in b s) (held_in m) i q
    unfolding theory_in secure
    secure_second {n} {w} {p} {r} ne g f u k =
        let (j, e) = after i ne in
        subst (λ z. r ≡ secure (theory_in b s) (held_in m) z q) (sym e)
        (k
        ∙ ap₂ ◌or◌ (f ∙ ap (λ z. processed (view m) z 0) g ∙ processed_held (theory_in b s) m ready (complement q) 0 (omega arith))
        (ap (ltb 0) (u ∙ ap (view m unopposed_f) g)
        ∙ unopposed_by (theory_in b s) m ready q small (stronger_below b s (ranged b s accepted.ranges))))

  module _ {i r : ℕ} (small : r < s.rules) {k x : Bool} where
    pub needy_first : {n : ℕ} → i ≡ 0 → k ≡ eqb (view m kind_f r) 0 → n ≡ view m (has 1) r → x ≡ (k and eqb n 0) → x ≡ needy (theory_in b s) (held_in m) i r
    unfolding theory_in needy
    needy_first e kind f g =
        subst (λ z. x ≡ needy (theory_in b s) (held_in m) z r) (sym e)
        (g
        ∙ ap₂ ◌and◌ (kind ∙ ap (λ z. eqb z 0) (ready.invariant.index.kinds r small) ∙ strict_number (kind_of (theory_in b s) r))
        (ap (λ z. eqb z 0) f ∙ sym (none_above (view m (has 1) r)) ∙ ap isnt (out_definitely (theory_in b s) m ready r small)))

    pub needy_second : {y : Bool} → (i ≡ 0 → ⊥) → k ≡ ltb (view m kind_f r) 2 → y ≡ eqb (view m (has 3) r) 0 → x ≡ (k and y) → x ≡ needy (theory_in b s) (held_in m) i r
    unfolding theory_in needy
    needy_second ne kind f g =
        let (j, e) = after i ne in
        subst (λ z. x ≡ needy (theory_in b s) (held_in m) z r) (sym e)
        (g
        ∙ ap₂ ◌and◌ (kind ∙ ap (λ z. ltb z 2) (ready.invariant.index.kinds r small) ∙ support_number (kind_of (theory_in b s) r))
        (f ∙ sym (none_above (view m (has 3) r)) ∙ ap isnt (out_defeasibly (theory_in b s) m ready r small)))
