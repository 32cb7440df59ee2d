-- Document 02, S-3: no rule fires and is out over what any run of any reading has processed, and over any derivation; and when the three
-- answers agree with the conditions that the inference rules are stated by. Assumes nothing.
use Prim.Native.Nat.{ℕ, ◌+◌, ◌*◌}
use native.Mathlib.Omega.{arith}
use mathlib.Core.Path.{◌≡◌, refl, sym, ap, subst}
use mathlib.Core.Logic.{◌↔◌}
use mathlib.Core.Bool.{Bool, true, false}
use mathlib.Core.List.{List, []}
use lib.Dec.{T}
use Rattle.logic.specs.Tests.{◌or◌, every_of}
use Rattle.logic.specs.Theory.{Theory, complement, body_of, proper}
use Rattle.logic.specs.Inference.{all_have, one_has}
use Rattle.logic.specs.System.{held, Coherent, derivation}
use Rattle.logic.specs.Worklist.{log_of}
use Rattle.logic.specs.Reading.{Reading, tags, conclusion, decided, tagged_by, system_of, searches_of}
use Rattle.logic.specs.Standing.{Standing, firing, out, waiting, first_fit, standing, NeverBoth, standing_number}
use Rattle.logic.specs.Laws.{Rules, reading_run}
use Rattle.logic.proofs.Lists.{member_left}
use Rattle.logic.proofs.Budgets.{run_derives}
use Rattle.logic.proofs.Coherence.{part_coherent}
use Rattle.logic.proofs.Readings.{reading_lawful, reading_coherent}
use Rattle.logic.proofs.Bodies.{all_one}

-- over what holds no conclusion beside its opposite
pub coherent_never : (m : Reading) (d : Theory) (f : ℕ) (h : ℕ → Bool) → Coherent h → NeverBoth d f (tagged_by (tags m) h)
unfolding Coherent
coherent_never m d f h c r =
    all_one d (tagged_by (tags m) h) (tagged_by (tags m) h) (2 * f) (2 * f + 1) r
    (λ a t u. let e : conclusion (tags m) a (2 * f + 1) ≡ complement (conclusion (tags m) a (2 * f)) = omega arith in
    c (conclusion (tags m) a (2 * f)) t (subst (λ x. T (h x)) e u))

module _ (m : Reading) (l : Rules m) (d : Theory) (p : T (proper d)) (f : ℕ) where
  pub derivation_never : (k : List ℕ) → T (derivation (system_of m d) (searches_of m d) k) → NeverBoth d f (tagged_by (tags m) (held k))
  derivation_never k t = coherent_never m d f (held k) (reading_coherent m l d p k t)

  -- "Over the worked lines of any run, firing and out never both hold."
  pub run_never : (budget : ℕ) → NeverBoth d f (tagged_by (tags m) (held (reading_run m d budget).processed))
  run_never budget =
      coherent_never m d f (held (reading_run m d budget).processed)
      (part_coherent _ (held (log_of (reading_run m d budget))) (λ x. member_left x (reading_run m d budget).processed (reading_run m d budget).pending)
      (reading_coherent m l d p (log_of (reading_run m d budget)) (run_derives (system_of m d) (searches_of m d) (reading_lawful m l d p) budget)))

-- the three answers by the two tests
apart : {x y : Standing} → (standing_number x ≡ standing_number y → ⊥) → x ≡ y → ⊥
apart n e = n (ap standing_number e)

pub out_not_firing : out ≡ firing → ⊥
unfolding standing_number
out_not_firing = apart (λ n. omega arith)

pub waiting_not_firing : waiting ≡ firing → ⊥
unfolding standing_number
waiting_not_firing = apart (λ n. omega arith)

pub waiting_not_out : waiting ≡ out → ⊥
unfolding standing_number
waiting_not_out = apart (λ n. omega arith)

pub fit_firing : (a b : Bool) → T a ↔ (first_fit a b ≡ firing)
fit_firing true b = (λ _. refl, λ _. tt)
fit_firing false true = (λ t. absurd t, out_not_firing)
fit_firing false false = (λ t. absurd t, waiting_not_firing)

pub fit_out : (a b : Bool) → (T a → T b → ⊥) → T b ↔ (first_fit a b ≡ out)
fit_out true true n = absurd (n tt tt)
fit_out true false n = (λ t. absurd t, λ e. out_not_firing (sym e))
fit_out false true n = (λ _. refl, λ _. tt)
fit_out false false n = (λ t. absurd t, waiting_not_out)

pub out_holds : (a b : Bool) → first_fit a b ≡ out → T b
out_holds true b e = absurd (out_not_firing (sym e))
out_holds false true e = tt
out_holds false false e = absurd (waiting_not_out e)

pub fit_waiting : (a b : Bool) → (T (a or b) → ⊥) ↔ (first_fit a b ≡ waiting)
unfolding ◌or◌
fit_waiting true b = (λ n. absurd (n tt), λ e. absurd (waiting_not_firing (sym e)))
fit_waiting false true = (λ n. absurd (n tt), λ e. absurd (waiting_not_out (sym e)))
fit_waiting false false = (λ _. refl, λ _ t. t)

-- A rule fires exactly if all its antecedents have the family's +, and waits exactly if it is not decided, whatever is held; it is out
-- exactly if one has its −, where never both hold.
module _ (d : Theory) (f : ℕ) (holds : ℕ → ℕ → Bool) (r : ℕ) where
  pub firing_all : T (all_have d holds (2 * f) r) ↔ (standing d f holds r ≡ firing)
  firing_all = fit_firing (all_have d holds (2 * f) r) (one_has d holds (2 * f + 1) r)

  pub waiting_decided : (T (decided d f holds r) → ⊥) ↔ (standing d f holds r ≡ waiting)
  waiting_decided = fit_waiting (all_have d holds (2 * f) r) (one_has d holds (2 * f + 1) r)

  pub out_one : NeverBoth d f holds → T (one_has d holds (2 * f + 1) r) ↔ (standing d f holds r ≡ out)
  out_one n = fit_out (all_have d holds (2 * f) r) (one_has d holds (2 * f + 1) r) (n r)

  -- a rule without antecedents
  pub none_fires : body_of d r ≡ [] → standing d f holds r ≡ firing
  unfolding all_have every_of
  none_fires e = firing_all.0 (subst (λ k. T (every_of k (λ a. holds a (2 * f)))) (sym e) tt)
