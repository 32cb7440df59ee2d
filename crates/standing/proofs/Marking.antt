-- Marks: a number is marked, and a log is passed to its end. Assumes nothing.
use Prim.Native.Nat.{ℕ, ◌+◌, ◌≤◌, ◌<◌}
use native.Mathlib.Numerals.{add-one}
use mathlib.Core.Path.{◌≡◌, refl, sym, ◌∙◌, ap, subst}
use mathlib.Core.Logic.{⊎_elim}
use mathlib.Core.Bool.{Bool, true, false, cond}
use mathlib.Core.List.{List, [], ◌∷◌, ◌++◌}
use lib.Dec.{T, eqb, eqb→eq}
use lib.ListN.{length, get_or, set, take, replicate, length-replicate, get_or-replicate, get_or-eq_default}
use lib.Seq.{take-suc, take_all, get_or-set_same, get_or-set_other}
use Rattle.logic.specs.Tests.{◌and◌, ◌or◌, some, member, weigh}
use Rattle.logic.specs.System.{held}
use Rattle.logic.proofs.Tests.{and_intro, and_left, and_right, and_true, cond_false, cond_true, eq→eqb, some_next, test_cases, test_eq}
use Rattle.logic.proofs.Lists.{member_more, member_nil}
use Rattle.logic.proofs.Sums.{weigh_false}
use Rattle.standing.specs.Marks.{marked, MarkedBy, Marked, MarkedToo}

-- what the marks say is what the test says
weighs : (b : Bool) → eqb (weigh b 1) 1 ≡ b
unfolding weigh
weighs true = refl
weighs false = refl

pub marked_by : (p : ℕ → Bool) {n : ℕ} {marks : List ℕ} → MarkedBy p n marks → (x : ℕ) → x < n → marked marks x ≡ p x
unfolding marked
marked_by p m x h = ap (λ k. eqb k 1) (m.each x h) ∙ weighs (p x)

pub marked_held : (log marks : List ℕ) → Marked log marks → (x : ℕ) → x < 4096 → marked marks x ≡ held log x
marked_held log marks = marked_by (held log)

-- past the marks
pub unmarked_past : (m : List ℕ) (x : ℕ) → length m ≤ x → false ≡ marked m x
unfolding marked
unmarked_past m x h = sym (ap (λ z. eqb z 1) (get_or-eq_default m 0 h))

-- a number is marked, or passed over
pub mark_set : (m : List ℕ) (x : ℕ) (test : Bool) → x < length m → T test → MarkedToo x test m (set m x 1)
mark_set m x test h t y _ =
    ⊎_elim
    (λ u. ap (λ z. get_or (set m x 1) z 0) (sym (eqb→eq x y (and_left _ _ u))) ∙ get_or-set_same m x 1 0 h ∙ sym (cond_true (eqb x y and test) 1 (get_or m y 0) u))
    (λ n. get_or-set_other m x y 1 0 (λ e. n (and_intro _ _ (eq→eqb x y (sym e)) t)) ∙ sym (cond_false (eqb x y and test) 1 (get_or m y 0) n)) (test_cases (eqb x y and test))

pub mark_past : (m : List ℕ) (x : ℕ) (test : Bool) → (x < length m → T test → ⊥) → MarkedToo x test m m
mark_past m x test n y l =
    sym (cond_false (eqb x y and test) 1 (get_or m y 0) (λ t. n (subst (λ z. z < length m) (sym (eqb→eq x y (and_left _ _ t))) l) (and_right _ _ t)))

-- no number is marked; one more
pub marks_none : (p : ℕ → Bool) (n : ℕ) → ((x : ℕ) → T (p x) → ⊥) → MarkedBy p n (replicate n 0)
marks_none p n h =
    record {
      size = length-replicate {A = ℕ} n 0;
      each = λ x l. get_or-replicate n x 0 0 l ∙ sym (weigh_false (p x) 1 (h x));
    }

either_weighs : (a b : Bool) → cond b 1 (weigh a 1) ≡ weigh (a or b) 1
unfolding weigh ◌or◌
either_weighs true true = refl
either_weighs true false = refl
either_weighs false true = refl
either_weighs false false = refl

pub marks_more : (p g : ℕ → Bool) (x : ℕ) (test : Bool) {n : ℕ} {m k : List ℕ} → ((y : ℕ) → g y ≡ p y or (eqb x y and test)) → MarkedBy p n m → length k ≡ length m
    → MarkedToo x test m k → MarkedBy g n k
marks_more p g x test {n} {m} {k} e f l t =
    record {
      size = l ∙ f.size;
      each = λ y h. t y (subst (λ z. y < z) (sym f.size) h) ∙ ap (cond (eqb x y and test) 1) (f.each y h) ∙ either_weighs (p y) (eqb x y and test) ∙ ap (λ b. weigh b 1) (sym (e y));
    }

pub marks_same : (p g : ℕ → Bool) {n : ℕ} {m : List ℕ} → ((x : ℕ) → p x ≡ g x) → MarkedBy p n m → MarkedBy g n m
marks_same p g e f = record { size = f.size; each = λ x h. f.each x h ∙ ap (λ b. weigh b 1) (e x) }

-- the numbers for each of which some index below i passes a test: no index, and one more
module _ (p : ℕ → ℕ → Bool) where
  pub some_marked_none : (n : ℕ) → MarkedBy (λ x. some 0 (p x)) n (replicate n 0)
  unfolding some
  some_marked_none n = marks_none (λ x. some 0 (p x)) n (λ x t. t)

  pub some_marked_next : (i x : ℕ) (test : Bool) {n : ℕ} {m k : List ℕ} → ((y : ℕ) → (eqb x y and test) ≡ p y i) → MarkedBy (λ y. some i (p y)) n m
      → length k ≡ length m → MarkedToo x test m k → MarkedBy (λ y. some (i + 1) (p y)) n k
  some_marked_next i x test e = marks_more (λ y. some i (p y)) (λ y. some (i + 1) (p y)) x test (λ y. sym (some_next (p y) i refl (e y) refl))

-- the lines that are passed
pub lines_none : (log : List ℕ) → Marked (take 0 log) (replicate 4096 0)
lines_none log = marks_none (held []) 4096 member_nil

swapped : (x y : ℕ) → eqb y x ≡ (eqb x y and true)
swapped x y = test_eq (eqb y x) (eqb x y) (λ t. eq→eqb x y (sym (eqb→eq y x t))) (λ t. eq→eqb y x (sym (eqb→eq x y t))) ∙ sym (and_true (eqb x y) true tt)

pub lines_next : (log m k : List ℕ) {i x : ℕ} → x ≡ get_or log i 0 → i < length log → length k ≡ length m → Marked (take i log) m → MarkedToo x true m k
    → Marked (take (i + 1) log) k
lines_next log m k {i} {x} e h l f t = marks_more (held (take i log)) (held (take (i + 1) log)) x true longer f l t
  where
    longer : (y : ℕ) → member y (take (i + 1) log) ≡ member y (take i log) or (eqb x y and true)
    longer y =
        sym (ap (λ z. member y (take i log ++ (z ∷ []))) e ∙ ap (member y) (sym (take-suc log i 0 h) ∙ ap (λ j. take j log) (sym (add-one i))))
        ∙ sym (member_more (take i log) x y) ∙ ap (λ b. member y (take i log) or b) (swapped x y)

pub lines_all : (log m : List ℕ) {i : ℕ} → length log ≤ i → Marked (take i log) m → Marked log m
lines_all log m {i} h f = subst (λ k. Marked k m) (take_all i log h) f
