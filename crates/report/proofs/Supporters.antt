-- The literals that have a supporter which is not out: a rule more, and by the marks of a log. Assumes nothing.
use Prim.Native.Nat.{ℕ, ◌≤◌, ◌<◌}
use native.Mathlib.Omega.{arith}
use mathlib.Core.Path.{◌≡◌, refl, sym, ◌∙◌, ap, ap₂, subst}
use mathlib.Core.Bool.{Bool, true, false, not}
use mathlib.Core.List.{List}
use lib.Dec.{eqb}
use Rattle.logic.specs.Tests.{◌and◌, isnt, some}
use Rattle.logic.specs.Theory.{Theory, can_support, supporter}
use Rattle.logic.specs.Inference.{unsupported}
use Rattle.logic.specs.System.{held}
use Rattle.logic.specs.Reading.{tagged_by}
use Rattle.logic.specs.Standing.{Standing, first_fit, is_out, NeverBoth}
use Rattle.logic.proofs.Tests.{not_isnt, some_same}
use Rattle.logic.proofs.Verdicts.{unsupported_out}
use Rattle.table.specs.declared.format.Sizes.{Sizes}
use Rattle.table.specs.declared.format.Rule.{Rule}
use Rattle.table.specs.Format.{rule_at, kind_meant, theory_in}
use Rattle.table.specs.Refusals.{Legal}
use Rattle.standing.specs.Marks.{marked, MarkedBy, Marked}
use Rattle.standing.specs.Answers.{standing_by, Stood}
use Rattle.standing.proofs.Marking.{marked_by, marks_same}
use Rattle.standing.proofs.Bodies.{stood_standing}
use Rattle.standing.proofs.Answering.{standing_marked}
use Rattle.report.specs.Printing.{live_supporter, has_live_supporter, Supported}

-- how each rule stands by the marks of a log
abbrev pub stands : List ℕ → List ℕ → ℕ → Standing
stands lacking refuted r = first_fit (isnt (marked lacking r)) (marked refuted r)

reordered : (a b c : Bool) → (b and (a and c)) ≡ ((a and b) and c)
unfolding ◌and◌
reordered true b c = refl
reordered false true c = refl
reordered false false c = refl

-- a rule, as it is read
pub live_supporter_read : (b : List ℕ) (s : Sizes) (stands : ℕ → Standing) (r : ℕ) {x : Rule} {can out test : Bool} → x ≡ rule_at b s r → can ≡ can_support (kind_meant x.kind)
    → out ≡ is_out (stands r) → test ≡ (can and not out) → (q : ℕ) → (eqb x.head.0 q and test) ≡ live_supporter (theory_in b s) stands q r
unfolding theory_in supporter
live_supporter_read b s stands r {x} {can} {out} e f g h q =
    ap (λ t. eqb x.head.0 q and t) (h ∙ ap₂ ◌and◌ f (not_isnt out ∙ ap isnt g))
    ∙ reordered (can_support (kind_meant x.kind)) (eqb x.head.0 q) (isnt (is_out (stands r)))
    ∙ ap (λ (z : Rule). (can_support (kind_meant z.kind) and eqb z.head.0 q) and isnt (is_out (stands r))) e

-- all rules are passed
pub all_supported : (b : List ℕ) (s : Sizes) (stands : ℕ → Standing) {r : ℕ} {marks : List ℕ} → r ≡ s.rules
    → MarkedBy (λ q. some r (live_supporter (theory_in b s) stands q)) 1024 marks → Supported (theory_in b s) stands marks
unfolding theory_in has_live_supporter
all_supported b s stands {r} {marks} e = subst (λ n. MarkedBy (λ q. some n (live_supporter (theory_in b s) stands q)) 1024 marks) e

-- two standings that agree for each rule
supported_same : (d : Theory) (f g : ℕ → Standing) {marks : List ℕ} → ((r : ℕ) → r < d.rules → f r ≡ g r) → Supported d f marks → Supported d g marks
unfolding has_live_supporter
supported_same d f g e =
    marks_same (has_live_supporter d f) (has_live_supporter d g) (λ q. some_same d.rules (live_supporter d f q) (live_supporter d g q) (λ r h. ap (λ z. supporter d r q and isnt (is_out z)) (e r h)))

-- by the marks of the rules, and by those of the lines
pub supported_stood : (b : List ℕ) (s : Sizes) (marks : List ℕ) {lacking refuted supported : List ℕ} → s.rules ≤ 1024 → Stood b s marks lacking refuted
    → Supported (theory_in b s) (λ r. first_fit (isnt (marked lacking r)) (marked refuted r)) supported → Supported (theory_in b s) (λ r. standing_by b s r marks) supported
unfolding theory_in
supported_stood b s marks h f = supported_same (theory_in b s) _ _ (λ r k. stood_standing b s r marks f (omega arith))

-- A literal is unsupported exactly if it is not marked.
pub unmarked_unsupported : (b : List ℕ) (s : Sizes) → Legal b s → (log marks supported : List ℕ) → Marked log marks → NeverBoth (theory_in b s) 1 (tagged_by 4 (held log))
    → Supported (theory_in b s) (λ r. standing_by b s r marks) supported → (q : ℕ) → q < 1024 → isnt (marked supported q) ≡ unsupported (theory_in b s) (tagged_by 4 (held log)) q
unfolding has_live_supporter
unmarked_unsupported b s e log marks supported m n f q h =
    ap isnt (marked_by (has_live_supporter (theory_in b s) (λ r. standing_by b s r marks)) f q h ∙ some_same (theory_in b s).rules _ _ (λ r _. ap (λ z. supporter (theory_in b s) r q and isnt (is_out z)) (standing_marked b s e r log marks m)))
    ∙ sym (unsupported_out (theory_in b s) (tagged_by 4 (held log)) q n)
