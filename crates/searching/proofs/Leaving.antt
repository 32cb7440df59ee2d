-- The list of the literals that left, and its marks (specs/Leaving.antt): the start, and one literal more. Assumes nothing.
use Prim.Native.Nat.{ℕ, ◌+◌, ◌*◌, ◌≤◌, ◌<◌}
use native.Mathlib.Nat.{le_antisymm}
use native.Mathlib.Numerals.{add-one}
use native.Mathlib.Omega.{arith}
use mathlib.Core.Path.{◌≡◌, refl, sym, ◌∙◌, ap, subst}
use mathlib.Core.Logic.{⊎_elim}
use mathlib.Core.Bool.{Bool, true, false, cond}
use mathlib.Core.List.{List, [], ◌∷◌, ◌++◌}
use lib.Dec.{T, eqb, eqb→eq}
use lib.ListN.{length, get_or, set, take, length-set, length-append}
use lib.Seq.{take-suc-set, take-set-le, length-take-le, get_or-set_same, get_or-set_other}
use Rattle.logic.specs.Tests.{isnt, member, distinct}
use Rattle.logic.specs.Theory.{Theory}
use Rattle.logic.proofs.Tests.{test_cases, test_eq, of_true, of_false, cond_cases, cond_true, cond_false, eq→eqb, and_intro, and_left, and_right, isnt_intro, isnt_elim, lt_suc_cases}
use Rattle.logic.proofs.Lists.{member_nil, member_left, member_last, member_snoc, distinct_snoc}
use Rattle.logic.proofs.Pigeon.{pigeon}
use Rattle.table.proofs.Kahn.{pushed, pushed_in, pushed_last}
use Rattle.memory.specs.Founding.{barred}
use Rattle.searching.specs.Leaving.{leaves, Leaves, Excluded, Listed, Leaving, Barring}
use Rattle.searching.proofs.Unfounded.{unfounded_free}

-- A literal leaves or not, by what was read.
module _ (t : Bool) (q : ℕ) (gone list : List ℕ) (end : ℕ) where
  pub leave_more : t ≡ true → get_or gone q 0 ≡ 0 → end < length list → Leaves t q gone list end (set gone q 1) (set list end q) (end + 1)
  leave_more u z h =
      let y : T (leaves t gone q) = and_intro _ _ (of_true t u) (eq→eqb _ _ z) in record {
        marked = sym (cond_true (leaves t gone q) (set gone q 1) gone y);
        pushed =
            record {
              grown = rw add-one (take-suc-set list end q h) ∙ sym (cond_true (leaves t gone q) _ _ y);
              kept = λ k l. take-set-le k list end q l;
              more = omega arith;
              most = omega arith;
            };
        within = omega (arith, length-set list end q);
        size = length-set list end q;
      }

  leave_none : (T (leaves t gone q) → ⊥) → end ≤ length list → Leaves t q gone list end gone list end
  leave_none n h =
      record {
        marked = sym (cond_false (leaves t gone q) (set gone q 1) gone n);
        pushed =
            record {
              grown = sym (cond_false (leaves t gone q) _ _ n);
              kept = λ k l. refl;
              more = omega arith;
              most = omega arith;
            };
        within = h;
        size = refl;
      }

  pub leave_not : t ≡ false → end ≤ length list → Leaves t q gone list end gone list end
  leave_not u = leave_none (λ y. of_false t u (and_left _ _ y))

  pub leave_again : (get_or gone q 0 ≡ 0 → ⊥) → end ≤ length list → Leaves t q gone list end gone list end
  leave_again n = leave_none (λ y. n (eqb→eq _ _ (and_right _ _ y)))

-- the same test of the same literal
pub leaves_as : {t u : Bool} {p q : ℕ} {gone list : List ℕ} {end : ℕ} {gone' list' : List ℕ} {last : ℕ} → t ≡ u → p ≡ q → Leaves t p gone list end gone' list' last
    → Leaves u q gone list end gone' list' last
leaves_as {t} {u} {p} {q} {gone} {list} {end} {gone'} {list'} {last} e f k =
    subst (λ y. Leaves u y gone list end gone' list' last) f (subst (λ x. Leaves x p gone list end gone' list' last) e k)

module _ (d : Theory) (holds : ℕ → ℕ → Bool) (i : ℕ) where
  -- a barred literal is in no set
  pub barred_out : (q : ℕ) → T (barred d holds i q) → Excluded d holds i q
  barred_out q b s f m = unfounded_free d holds s i q (f q m) b

  -- nothing left
  none_left : (gone list : List ℕ) → length gone ≡ 1024 → length list ≡ 1024 → d.atoms ≤ 512 → ((q : ℕ) → q < 1024 → get_or gone q 0 ≡ 0)
      → Barring d holds i gone list 0 0
  unfolding distinct
  none_left gone list a b few z =
      record {
        leaving =
            record {
              listed =
                  record {
                    once = tt;
                    below = λ q m. absurd (member_nil q m);
                    marks = λ q h. test_eq _ _ (λ _. isnt_intro _ (member_nil q)) (λ _. eq→eqb _ _ (z q (omega arith)));
                    out = λ q m. absurd (member_nil q m);
                  };
              words = a;
              places = b;
              within = omega arith;
            };
        bars = λ q h _. absurd (omega arith);
      }

  pub leaving_none : (gone list : List ℕ) {end : ℕ} → end ≡ 0 → length gone ≡ 1024 → length list ≡ 1024 → d.atoms ≤ 512
      → ((q : ℕ) → q < 1024 → get_or gone q 0 ≡ 0) → Barring d holds i gone list end 0
  leaving_none gone list e a b few z = subst (λ n. Barring d holds i gone list n 0) (sym e) (none_left gone list a b few z)

  -- one that did not leave is not in the list
  marked_out : (gone list : List ℕ) → Listed d holds i gone list → (q : ℕ) → q < 2 * d.atoms → get_or gone q 0 ≡ 0 → T (member q list) → ⊥
  marked_out gone list k q h z = isnt_elim _ (subst T (k.marks q h) (eq→eqb _ _ z))

  -- so there is room for it
  pub room : (gone list : List ℕ) (end : ℕ) → Leaving d holds i gone list end → d.atoms ≤ 512 → (q : ℕ) → q < 2 * d.atoms → get_or gone q 0 ≡ 0 → end < 1024
  room gone list end k few q h z =
      omega (
        arith,
        pigeon (2 * d.atoms) (take end list ++ (q ∷ [])) (distinct_snoc (take end list) q k.listed.once (marked_out gone (take end list) k.listed q h z))
            (λ x m. ⊎_elim (k.listed.below x) (λ e. subst (λ y. y < 2 * d.atoms) (sym e) h) (member_snoc (take end list) q x m)),
        length-append (take end list) (q ∷ []),
        length-take-le end list (omega (arith, k.within, k.places)),
      )

  -- one literal leaves, if a test says so and it did not leave before
  module _ (gone list : List ℕ) (k : Listed d holds i gone list) (q : ℕ) (h : q < 2 * d.atoms) (fits : q < length gone) (t : Bool) (out : T t → Excluded d holds i q) where
    marks_next : (T (member q list) → ⊥) → (x : ℕ) → x < 2 * d.atoms → eqb (get_or (set gone q 1) x 0) 0 ≡ isnt (member x (list ++ (q ∷ [])))
    marks_next new x l =
        ⊎_elim
        (λ u. let e : x ≡ q = eqb→eq x q u in
        test_eq _ _
        (λ v. let one : get_or (set gone q 1) x 0 ≡ 1 = ap (λ y. get_or (set gone q 1) y 0) e ∙ get_or-set_same gone q 1 0 fits in
        let none : get_or (set gone q 1) x 0 ≡ 0 = eqb→eq _ _ v in absurd (omega arith))
        (λ v. absurd (isnt_elim _ v (subst (λ y. T (member y (list ++ (q ∷ [])))) (sym e) (member_last list q)))))
        (λ n. let ne : (x ≡ q) → ⊥ = λ e. n (eq→eqb x q e) in
        ap (λ y. eqb y 0) (get_or-set_other gone q x 1 0 ne) ∙ k.marks x l
        ∙ ap isnt (test_eq (member x list) (member x (list ++ (q ∷ []))) (member_left x list _) (λ m. ⊎_elim (λ v. v) (λ e. absurd (ne e)) (member_snoc list q x m))))
        (test_cases (eqb x q))

    listed_by : (b : Bool) → (T b → T t) → (T b → get_or gone q 0 ≡ 0) → Listed d holds i (cond b (set gone q 1) gone) (pushed b list q)
    listed_by false f z = k
    listed_by true f z =
        let new = marked_out gone list k q h (z tt) in
        record {
          once = distinct_snoc list q k.once new;
          below = λ x m. ⊎_elim (k.below x) (λ e. subst (λ y. y < 2 * d.atoms) (sym e) h) (member_snoc list q x m);
          marks = marks_next new;
          out = λ x m. ⊎_elim (k.out x) (λ e. subst (λ y. Excluded d holds i y) (sym e) (out (f tt))) (member_snoc list q x m);
        }

    listed_next : Listed d holds i (cond (leaves t gone q) (set gone q 1) gone) (pushed (leaves t gone q) list q)
    listed_next = listed_by (leaves t gone q) (and_left _ _) (λ u. eqb→eq _ _ (and_right _ _ u))

    -- by the test it is in the list then
    left_in_lem : T t → T (member q (pushed (leaves t gone q) list q))
    left_in_lem u =
        ⊎_elim (λ z. pushed_last (leaves t gone q) list q (and_intro _ _ u z)) (λ z. pushed_in (leaves t gone q) list q q (inside z)) (test_cases (eqb (get_or gone q 0) 0))
      where
        inside : (T (eqb (get_or gone q 0) 0) → ⊥) → T (member q list)
        inside z = ⊎_elim (λ m. m) (λ m. absurd (z (subst T (sym (k.marks q h)) (isnt_intro _ m)))) (test_cases (member q list))

  -- in the arrays
  module _ (gone list : List ℕ) (end : ℕ) (k : Leaving d holds i gone list end) (few : d.atoms ≤ 512) (q : ℕ) (h : q < 2 * d.atoms) (t : Bool) (out : T t → Excluded d holds i q)
      (gone' list' : List ℕ) (last : ℕ) (p : Leaves t q gone list end gone' list' last) where
    fits : q < length gone
    fits = omega (arith, k.words)

    pub leaving_next : Leaving d holds i gone' list' last
    leaving_next =
        record {
          listed =
              subst (λ g. Listed d holds i g (take last list')) (sym p.marked)
              (subst (λ l. Listed d holds i (cond (leaves t gone q) (set gone q 1) gone) l) (sym p.pushed.grown) (listed_next gone (take end list) k.listed q h fits t out));
          words = ap length p.marked ∙ cond_cases (λ g. length g ≡ 1024) (leaves t gone q) (set gone q 1) gone (λ _. length-set gone q 1 ∙ k.words) (λ _. k.words);
          places = p.size ∙ k.places;
          within = omega (arith, p.within, p.size, k.places);
        }

    pub leaving_in : T t → T (member q (take last list'))
    leaving_in u = subst (λ l. T (member q l)) (sym p.pushed.grown) (left_in_lem gone (take end list) k.listed q h fits t out u)

    pub leaving_kept : (x : ℕ) → T (member x (take end list)) → T (member x (take last list'))
    leaving_kept x m = subst (λ l. T (member x l)) (sym p.pushed.grown) (pushed_in (leaves t gone q) (take end list) q x m)

  -- a literal leaves where it is barred
  pub barring_next : (gone list : List ℕ) (end q : ℕ) → Barring d holds i gone list end q → d.atoms ≤ 512 → q < 2 * d.atoms → (t : Bool) → t ≡ barred d holds i q
      → (gone' list' : List ℕ) (last : ℕ) → Leaves t q gone list end gone' list' last → Barring d holds i gone' list' last (q + 1)
  barring_next gone list end q k few h t e gone' list' last p =
      let out : T t → Excluded d holds i q = λ u. barred_out q (subst T e u) in
      record {
        leaving = leaving_next gone list end k.leaving few q h t out gone' list' last p;
        bars =
            λ x l b. ⊎_elim (λ u. leaving_kept gone list end k.leaving few q h t out gone' list' last p x (k.bars x u b))
            (λ u. subst (λ y. T (member y (take last list'))) (sym u)
            (leaving_in gone list end k.leaving few q h t out gone' list' last p (subst T (sym e) (subst (λ y. T (barred d holds i y)) u b)))) (lt_suc_cases x q (subst (λ y. x < y) (add-one q) l));
      }

  pub barring_all : (gone list : List ℕ) (end q n : ℕ) → q ≤ n → n ≤ q → Barring d holds i gone list end q → Barring d holds i gone list end n
  barring_all gone list end q n f g k = subst (λ z. Barring d holds i gone list end z) (le_antisymm f g) k
