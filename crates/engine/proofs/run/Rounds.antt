-- The searches and the loop over them: what a search writes, and where a run stands between two searches. Assumes nothing.
use Prim.Native.Nat.{ℕ, zero, suc, ◌+◌, ◌-◌, ◌*◌, ◌%◌, ◌≤◌, ◌<◌}
use native.Mathlib.Nat.{le_refl, lt_irrefl, not-le_of_lt, not-suc-le-zero}
use lib.Arith.{lt_of_le-ne}
use native.Mathlib.Omega.{arith}
use mathlib.Core.Path.{◌≡◌, refl, sym, ◌∙◌, ap, ap₂, subst, fun_ext}
use mathlib.Core.Logic.{⊎_elim}
use mathlib.Core.Bool.{Bool, true, false, cond}
use mathlib.Core.List.{List, [], ◌∷◌, ◌++◌, append_assoc, append-nil}
use lib.Dec.{T, eqb, eqb→eq, leb, leb→le, le→leb, ltb, ltb→lt, lt→ltb}
use lib.ListN.{length, get_or, take, drop, length-append, take-append-drop}
use lib.Seq.{length-take-le}
use Rattle.logic.specs.Tests.{◌and◌, isnt, some_of, empty, member, weigh, upto, pick}
use Rattle.logic.specs.Theory.{Theory, proper, size}
use Rattle.logic.specs.System.{System, Searches, held}
use Rattle.logic.specs.Worklist.{stage, outcome, put, initial, found, step, goes, rest, toll_from}
use Rattle.logic.specs.Reading.{tagged_by, system_of, set_of, searches_of}
use Rattle.logic.specs.Plain.{plain_system, no_searches}
use Rattle.logic.specs.WellFounded.{well_founded, unfounded_searches}
use Rattle.logic.proofs.Tests.{test_cases, test_eq, true_of, false_of, of_true, of_false, cond_true, cond_false, at_most, empty_nil, nil_empty, and_intro, and_left, and_right, or_right, isnt_intro, isnt_elim, some_intro, eq→eqb}
use Rattle.logic.proofs.Lists.{pick_append, member_left, member_append, member_pick, member_upto}
use Rattle.logic.proofs.Literals.{join_div, join_mod}
use Rattle.logic.proofs.Sums.{weigh_true, weigh_false}
use Rattle.logic.proofs.Derivations.{Lawful}
use Rattle.logic.proofs.Runs.{toll_search, step_search, goes_intro, goes_on, proceed_stays, left}
use Rattle.logic.proofs.Budgets.{rest_goes, rest_lines, rest_halts, rest_ended}
use Rattle.logic.proofs.Plain.{no_searches_lem, plain_lawful}
use Rattle.logic.proofs.WellFounded.{searched_lawful}
use Rattle.table.specs.declared.accepted.Table.{Table}
use Rattle.table.specs.Tables.{theory_said}
use Rattle.memory.specs.Layout.{tag_count}
use Rattle.memory.specs.Memory.{held_of, written_of}
use Rattle.searching.specs.Sets.{set_in}
use Rattle.engine.specs.declared.answer.Answer.{Answer}
use Rattle.engine.specs.declared.answer.Answer.TheVariants.{Stopped, Finished}
use Rattle.engine.specs.declared.reading.Reading.{Reading}
use Rattle.engine.specs.declared.reading.Reading.TheVariants.{Plain, WellFounded}
use Rattle.engine.specs.declared.tally.Tally.{Tally}
use Rattle.engine.specs.Readings.{reading_of, run_of}
use Rattle.engine.specs.Working.{Logged, Yielded, Grown, Appended, Refuted, Reached, stage_at, Lined, Searched, SearchAsks, SearchedIf, Worked, counts_at}
use Rattle.engine.proofs.reading.Readings.{searches_in, run_opened}
use Rattle.engine.proofs.run.Trying.{grown_none, grown_on, atoms_in, proper_in, absent}
use Rattle.engine.proofs.run.Worklist.{none_left, Split, split_done, split_stage, stage_lines, stage_worked}

-- A conclusion that a search found, or not.
module _ (d : Theory) (p : T (proper d)) (mem log : List ℕ) (n x : ℕ) (g : Logged d mem log n) where
  -- it is not written: it was not found, or stands there already
  pub refuted_not : (b : Bool) → (T b → T (member x (take n log))) → Refuted d b x mem log n mem log n
  unfolding put
  refuted_not b f =
      record {
        logged = g;
        lines = sym (ap (λ t. put t (take n log) x) (false_of (b and isnt (member x (take n log))) (λ t. isnt_elim _ (and_right _ _ t) (f (and_left _ _ t)))));
        grown = grown_none mem log n;
        held = λ _. refl;
      }

  pub refuted_new : (b : Bool) → T b → (T (member x (take n log)) → ⊥) → (mem' log' : List ℕ) (n' : ℕ) → Appended d x mem log n mem' log' n' → Refuted d b x mem log n mem' log' n'
  unfolding put
  refuted_new b t new mem' log' n' a =
      record {
        logged = a.logged;
        lines = a.lines ∙ sym (ap (λ t. put t (take n log) x) (true_of (b and isnt (member x (take n log))) (and_intro _ _ t (isnt_intro _ new))));
        grown = a.grown;
        held = a.held;
      }

-- by what the code has at hand: of an accepted table
module _ (table : Table) {mem log : List ℕ} {n x : ℕ} (g : Logged (theory_said table) mem log n) {found : Bool} where
  pub refuted_unfound : found ≡ false → Refuted (theory_said table) found x mem log n mem log n
  refuted_unfound e = refuted_not (theory_said table) (proper_in table) mem log n x g found (λ t. absurd (of_false found e t))

  pub refuted_before : written_of mem x ≡ true → Refuted (theory_said table) found x mem log n mem log n
  refuted_before e = refuted_not (theory_said table) (proper_in table) mem log n x g found (λ _. subst T (g.written x) (of_true _ e))

  pub refuted_line : x < tag_count * (2 * table.sizes.atoms) → written_of mem x ≡ false → found ≡ true
      → (T found → Yielded (theory_said table) log n x)
      → {mem' log' : List ℕ} {n' : ℕ} → Appended (theory_said table) x mem log n mem' log' n' → Refuted (theory_said table) found x mem log n mem' log' n'
  refuted_line small new e y =
      let f = of_true found e in
      refuted_new (theory_said table) (proper_in table) mem log n x g found f
      (absent (theory_said table) (proper_in table) mem log n x g (omega (arith, atoms_in table)) new (y f)) _ _ _

-- the same of a table that is the other
pub refuted_by : {t u : Table} {b : Bool} {x : ℕ} {m l m' l' : List ℕ} {n n' : ℕ} → u ≡ t → Refuted (theory_said u) b x m l n m' l' n'
    → Refuted (theory_said t) b x m l n m' l' n'
refuted_by {b = b} {x} {m} {l} {m'} {l'} {n} {n'} e f = subst (λ k. Refuted (theory_said k) b x m l n m' l' n') e f

pub yields_by : {t u : Table} (log : List ℕ) (n x : ℕ) → u ≡ t → Yielded (theory_said t) log n x → Yielded (theory_said u) log n x
yields_by log n x e f = subst (λ k. Yielded (theory_said k) log n x) (sym e) f

pub searched_by : {t u : Table} {b : Bool} {i start : ℕ} {m l m' l' : List ℕ} {n n' : ℕ} {a z : Tally} → u ≡ t → SearchedIf (theory_said u) b i start m l n a m' l' n' z
    → SearchedIf (theory_said t) b i start m l n a m' l' n' z
searched_by {b = b} {i} {start} {m} {l} {m'} {l'} {n} {n'} {a} {z} e f = subst (λ k. SearchedIf (theory_said k) b i start m l n a m' l' n' z) e f

-- Of the conclusions below four times a number, those with one tag: literal by literal.
module _ (f : ℕ → Bool) where
  skip : (x : ℕ) (k : List ℕ) → (T (f x) → ⊥) → pick (x ∷ k) f ≡ pick k f
  unfolding pick
  skip x k n = cond_false (f x) _ _ n

  alone : (x y : ℕ) (k : List ℕ) → x ≡ y → pick k f ≡ [] → pick (x ∷ k) f ≡ cond (f y) (y ∷ []) []
  unfolding pick
  alone x y k e n = ap (λ (l : List ℕ). cond (f x) (x ∷ l) l) n ∙ ap (λ z. cond (f z) (z ∷ []) []) e

  none : pick [] f ≡ []
  unfolding pick
  none = refl

  four_pick : (t q a b c d : ℕ) → t < 4 → ((x : ℕ) → T (f x) → x % 4 ≡ t) → a ≡ 4 * q + 0 → b ≡ 4 * q + 1 → c ≡ 4 * q + 2 → d ≡ 4 * q + 3
      → pick (a ∷ b ∷ c ∷ d ∷ []) f ≡ cond (f (4 * q + t)) ((4 * q + t) ∷ []) []
  four_pick zero q a b c d l o ea eb ec ed =
      alone a (4 * q + 0) _ ea (skip b _ (λ u. absurd (omega (arith, o b u))) ∙ skip c _ (λ u. absurd (omega (arith, o c u))) ∙ skip d _ (λ u. absurd (omega (arith, o d u))) ∙ none)
  four_pick (suc zero) q a b c d l o ea eb ec ed =
      skip a _ (λ u. absurd (omega (arith, o a u))) ∙ alone b (4 * q + 1) _ eb (skip c _ (λ u. absurd (omega (arith, o c u))) ∙ skip d _ (λ u. absurd (omega (arith, o d u))) ∙ none)
  four_pick (suc (suc zero)) q a b c d l o ea eb ec ed =
      skip a _ (λ u. absurd (omega (arith, o a u))) ∙ skip b _ (λ u. absurd (omega (arith, o b u))) ∙ alone c (4 * q + 2) _ ec (skip d _ (λ u. absurd (omega (arith, o d u))) ∙ none)
  four_pick (suc (suc (suc zero))) q a b c d l o ea eb ec ed =
      skip a _ (λ u. absurd (omega (arith, o a u))) ∙ skip b _ (λ u. absurd (omega (arith, o b u))) ∙ skip c _ (λ u. absurd (omega (arith, o c u))) ∙ alone d (4 * q + 3) _ ed none
  four_pick (suc (suc (suc (suc t)))) q a b c d l o ea eb ec ed = absurd (omega arith)

  pick_literal : (t q : ℕ) → t < 4 → ((x : ℕ) → T (f x) → x % 4 ≡ t) → pick (upto (4 * (q + 1))) f ≡ pick (upto (4 * q)) f ++ cond (f (4 * q + t)) ((4 * q + t) ∷ []) []
  unfolding upto
  pick_literal t q l o =
      let e : 4 * (q + 1) ≡ suc (suc (suc (suc (4 * q)))) = omega arith in
      let n : ℕ = 4 * q in
      ap (λ k. pick (upto k) f) e
      ∙ ap (λ k. pick k f) (append_assoc ((upto n ++ (n ∷ [])) ++ (suc n ∷ [])) (suc (suc n) ∷ []) (suc (suc (suc n)) ∷ [])
      ∙ append_assoc (upto n ++ (n ∷ [])) (suc n ∷ []) (suc (suc n) ∷ suc (suc (suc n)) ∷ [])
      ∙ append_assoc (upto n) (n ∷ []) (suc n ∷ suc (suc n) ∷ suc (suc (suc n)) ∷ []))
      ∙ pick_append (upto n) (n ∷ suc n ∷ suc (suc n) ∷ suc (suc (suc n)) ∷ []) f
      ∙ ap (λ (k : List ℕ). pick (upto n) f ++ k)
      (four_pick t q n (suc n) (suc (suc n)) (suc (suc (suc n))) l o (omega arith) (omega arith) (omega arith) (omega arith))

-- two tests in one, and a third
pub three_tests : (a b c : Bool) {r v : Bool} → r ≡ (a and b) → v ≡ (r and c) → v ≡ (a and b and c)
three_tests a b c e f = f ∙ ap (λ u. u and c) e

put_cond : (b c : Bool) (l : List ℕ) (x : ℕ) → b ≡ c → put b l x ≡ l ++ cond c (x ∷ []) []
unfolding put
put_cond b true l x e = ap (λ t. put t l x) e
put_cond b false l x e = ap (λ t. put t l x) e ∙ sym (append-nil l)

-- What search i found is written, for the literals below q.
pub record FoundUpTo (d : Theory) (i q : ℕ) (mem₀ log₀ : List ℕ) (n₀ : ℕ) (mem log : List ℕ) (n : ℕ) : Type 0 where
  pub logged : Logged d mem log n
  pub grown : Grown mem₀ log₀ n₀ mem log n
  pub lines : take n log ≡ take n₀ log₀ ++ pick (upto (4 * q)) (λ x. (unfounded_searches d).finds i (held (take n₀ log₀)) x and isnt (member x (take n₀ log₀)))
  pub held : (x : ℕ) → held_of mem x ≡ held_of mem₀ x

module _ (d : Theory) (p : T (proper d)) (i : ℕ) (few : i < 2) (mem₀ log₀ : List ℕ) (n₀ : ℕ) (h : (x : ℕ) → held_of mem₀ x ≡ member x (take n₀ log₀)) where
  abbrev old : List ℕ
  old = take n₀ log₀

  abbrev adds : ℕ → Bool
  adds x = (unfounded_searches d).finds i (held old) x and isnt (member x old)

  -- the set of the search, by what is processed
  set_same : set_in d (held_of mem₀) i ≡ set_of well_founded d (tagged_by tag_count (held old)) i
  set_same = ap (λ k. set_in d k i) (fun_ext h)

  -- what it finds has its tag
  finds_tag : (x : ℕ) → T ((unfounded_searches d).finds i (held old) x) → x % 4 ≡ 2 * i + 1
  unfolding searches_of
  finds_tag x t = eqb→eq _ _ (and_left _ _ t)

  finds_at : (q : ℕ) → (unfounded_searches d).finds i (held old) (4 * q + (2 * i + 1)) ≡ member q (set_in d (held_of mem₀) i)
  unfolding searches_of
  finds_at q =
      ap₂ (λ u v. eqb u (2 * i + 1) and member v (set_of well_founded d (tagged_by tag_count (held old)) i)) (join_mod 4 q (2 * i + 1) (omega arith)) (join_div 4 q (2 * i + 1) (omega arith))
      ∙ ap (λ b. b and member q (set_of well_founded d (tagged_by tag_count (held old)) i)) (true_of (eqb (2 * i + 1) (2 * i + 1)) (eq→eqb (2 * i + 1) (2 * i + 1) refl))
      ∙ true_and _ ∙ ap (member q) (sym set_same)
    where
      true_and : (b : Bool) → (true and b) ≡ b
      true_and b = test_eq _ _ (and_right _ _) (and_intro _ _ tt)

  pub found_none : Logged d mem₀ log₀ n₀ → FoundUpTo d i 0 mem₀ log₀ n₀ mem₀ log₀ n₀
  unfolding upto pick
  found_none g = record { logged = g; grown = grown_none mem₀ log₀ n₀; lines = sym (append-nil old); held = λ _. refl }

  module _ (q : ℕ) (mem log : List ℕ) (n : ℕ) (g : FoundUpTo d i q mem₀ log₀ n₀ mem log n) (b : Bool) (e : b ≡ member q (set_in d (held_of mem₀) i)) where
    abbrev x : ℕ
    x = 4 * q + (2 * i + 1)

    -- what is found is yielded by the lines
    pub found_yields : T b → Yielded d log n x
    unfolding searches_of
    found_yields t =
        or_right _ _ (some_intro 2 _ i few ((searched_lawful d p).widens i (held old) (held (take n log)) x
        (λ y m. subst (λ k. T (member y k)) (sym g.lines) (member_left y old _ m)) (subst T (e ∙ sym (finds_at q)) t)))

    -- it is written already exactly if it was before
    fresh : member x (take n log) ≡ member x old
    fresh = ap (member x) g.lines ∙ test_eq _ _
        (λ m. ⊎_elim (λ u. u) (λ u. absurd (let (v, _) = member_pick (upto (4 * q)) adds x u in lt_irrefl (4 * q) (omega (arith, member_upto (4 * q) x v)))) (member_append x old _ m))
        (member_left x old _)

    pub found_next : (mem' log' : List ℕ) (n' : ℕ) → Refuted d b x mem log n mem' log' n' → FoundUpTo d i (q + 1) mem₀ log₀ n₀ mem' log' n'
    found_next mem' log' n' k =
        record {
          logged = k.logged;
          grown = grown_on g.grown k.grown;
          lines = k.lines
              ∙ put_cond (b and isnt (member x (take n log))) (adds x) (take n log) x (ap₂ (λ u v. u and isnt v) (e ∙ sym (finds_at q)) fresh)
              ∙ ap (λ (l : List ℕ). l ++ cond (adds x) (x ∷ []) []) g.lines
              ∙ append_assoc old (pick (upto (4 * q)) adds) (cond (adds x) (x ∷ []) [])
              ∙ ap (λ (l : List ℕ). old ++ l) (sym (pick_literal adds (2 * i + 1) q (omega arith) (λ y t. finds_tag y (and_left _ _ t))));
          held = λ y. k.held y ∙ g.held y;
        }

  -- by what the code has at hand: a literal below 2A, and its word
  module _ {q : ℕ} {mem log : List ℕ} {n : ℕ} (g : FoundUpTo d i q mem₀ log₀ n₀ mem log n) (gone : List ℕ)
      (a : (r : ℕ) → r < 2 * d.atoms → eqb (get_or gone r 0) 0 ≡ member r (set_in d (held_of mem₀) i)) (inside : q < 2 * d.atoms) where
    pub found_asks : T (eqb (get_or gone q 0) 0) → Yielded d log n (tag_count * q + (2 * i + 1))
    found_asks = found_yields q mem log n g (eqb (get_or gone q 0) 0) (a q inside)

    pub found_turn : {mem' log' : List ℕ} {n' : ℕ} → Refuted d (eqb (get_or gone q 0) 0) (tag_count * q + (2 * i + 1)) mem log n mem' log' n'
        → FoundUpTo d i (q + 1) mem₀ log₀ n₀ mem' log' n'
    found_turn = found_next q mem log n g (eqb (get_or gone q 0) 0) (a q inside) _ _ _

  pub found_all : {q : ℕ} {mem log : List ℕ} {n : ℕ} → q ≡ 2 * d.atoms → FoundUpTo d i q mem₀ log₀ n₀ mem log n → Searched d i mem₀ log₀ n₀ mem log n
  unfolding system_of
  found_all {q} {mem} {log} {n} e g =
      record {
        logged = g.logged;
        grown = g.grown;
        lines = g.lines ∙ ap (λ k. old ++ pick (upto (4 * k)) adds) e;
        held = g.held;
      }

-- where a run stands at its start
pub opened_reached : {d : Theory} {budget start : ℕ} {mem log : List ℕ} {n : ℕ} → Logged d mem log n → ((x : ℕ) → held_of mem x ≡ false) → start ≤ budget
    → Reached d budget mem log n (record { worked = 0; spent = start })
unfolding some_of
opened_reached g h f = record { logged = g; few = omega arith; held = h; within = f }

-- no line is left of a stage exactly if as many are worked as there are
quiet_lines : (log : List ℕ) (n : ℕ) (t : Tally) → t.worked ≤ n → n ≤ length log → empty (drop t.worked (take n log)) ≡ leb n t.worked
quiet_lines log n t few inside =
    test_eq (empty (drop t.worked (take n log))) (leb n t.worked)
    (λ u. let e : drop t.worked (take n log) ≡ [] = empty_nil (drop t.worked (take n log)) u in
    let f : length (take n log) ≡ length (take t.worked log) = ap length (stage_lines log n t few ∙ ap (λ (k : List ℕ). take t.worked log ++ k) e ∙ append-nil (take t.worked log)) in
    le→leb n t.worked (omega (arith, f, length-take-le n log inside, stage_worked log n t few inside)))
    (λ u. nil_empty (drop t.worked (take n log))
    (none_left (take t.worked log) (drop t.worked (take n log)) (take n log) t.worked (stage_lines log n t few) (stage_worked log n t few inside)
    (omega (arith, length-take-le n log inside, leb→le n t.worked u))))

pub lawful_in : (m : Reading) (d : Theory) → T (proper d) → Lawful (plain_system d) (searches_in m d)
lawful_in Plain d p = plain_lawful d p
lawful_in WellFounded d p = searched_lawful d p

-- what a search adds, in a reading that has it
found_in : (m : Reading) (d : Theory) (i : ℕ) (done : List ℕ) → i < (reading_of m).searches → found (plain_system d) (searches_in m d) i done ≡ found (plain_system d) (unfounded_searches d) i done
found_in Plain d i done h = absurd (not-suc-le-zero h)
found_in WellFounded d i done h = refl

few_searches : (m : Reading) → (reading_of m).searches ≤ 2
few_searches Plain = omega arith
few_searches WellFounded = le_refl 2

no_length : (l : List ℕ) → length l ≡ 0 → l ≡ []
no_length [] e = refl
no_length (x ∷ l) e = absurd (lt_irrefl 0 (omega (arith, e)))

-- Where the loop stands: what is left from here is the run; where a line is left no search was idle last; and once the loop is left, nothing more
-- is done.
pub record Turns (m : Reading) (d : Theory) (budget : ℕ) (mem₀ log₀ : List ℕ) (n₀ : ℕ) (mem log : List ℕ) (n : ℕ) (t : Tally) (idle : ℕ) (more : Bool) : Type 0 where
  pub reached : Reached d budget mem log n t
  pub grown : Grown mem₀ log₀ n₀ mem log n
  pub searched : ℕ
  pub same : rest (plain_system d) (searches_in m d) budget (stage_at log n t idle searched) ≡ run_of m d budget
  pub quiet : t.worked < n → idle ≡ 0
  pub halted : (T more → ⊥) → T (goes (plain_system d) (searches_in m d) budget (stage_at log n t idle searched)) → ⊥

module _ (m : Reading) (d : Theory) (p : T (proper d)) (budget : ℕ) where
  abbrev s : System
  s = plain_system d

  abbrev z : Searches
  z = searches_in m d

  -- what the loop over the lines leaves
  module _ (mem log : List ℕ) (n : ℕ) (t : Tally) (few : t.worked ≤ n) (inside : n ≤ length log) (mem' log' : List ℕ) (n' : ℕ) (t' : Tally) (l : Lined d budget mem log n t mem' log' n' t') where
    -- what is left, with whatever searches, is left after it
    lined_same : (idle searched : ℕ) → (t.worked < n → idle ≡ 0) → rest s z budget (stage_at log n t idle searched) ≡ rest s z budget (stage_at log' n' t' idle searched)
    lined_same idle searched q =
        rest_lines s z (lawful_in m d p) (no_searches d) (no_searches_lem d) (suc (no_searches d).count * (budget - t.spent) + (no_searches d).count) budget (stage_at log n t 0 0) idle searched
        (λ u. q (⊎_elim (λ h. absurd (u (subst T (sym (quiet_lines log n t few inside)) (le→leb _ _ h)))) (λ h. h) (at_most n t.worked)))
        ∙ ap (λ o. rest s z budget (stage o.processed o.pending idle searched o.spent)) l.same

    -- the next line, if one is left, does not fit
    lined_stuck : T (goes s (no_searches d) budget (stage_at log' n' t' 0 0)) → ⊥
    lined_stuck =
        subst (λ o. T (goes s (no_searches d) budget (left s (no_searches d) o)) → ⊥) l.same
        (rest_halts s (no_searches d) (plain_lawful d p) budget (stage_at log n t 0 0))

    -- where no line was left none is
    lined_idle : n ≤ t.worked → n' ≤ t'.worked
    lined_idle h =
        let e : outcome true (stage_at log n t 0 0) ≡ outcome (leb n' t'.worked) (stage_at log' n' t' 0 0) =
        sym (rest_ended s (no_searches d) (plain_lawful d p) budget (stage_at log n t 0 0)
        (and_intro _ _ (subst T (sym (quiet_lines log n t few inside)) (le→leb _ _ h)) (le→leb (no_searches d).count 0 (omega (arith, no_searches_lem d))))) ∙ l.same in
        leb→le n' t'.worked (subst T (ap (λ o. o.finished) e) tt)

  pub turns_start : {mem log : List ℕ} {n start : ℕ} → Reached d budget mem log n (record { worked = 0; spent = start }) → take n log ≡ initial s → start ≡ size d → start ≤ budget
      → Turns m d budget mem log n mem log n (record { worked = 0; spent = start }) 0 true
  unfolding system_of
  turns_start {mem} {log} {n} {start} g e f h =
      record {
        reached = g;
        grown = grown_none mem log n;
        searched = 0;
        same = ap₂ (λ k b. rest s z budget (stage [] k 0 0 b)) e f ∙ sym (run_opened m d budget (subst (λ k. k ≤ budget) f h));
        quiet = λ _. refl;
        halted = λ left_it. absurd (left_it tt);
      }

  module _ (mem₀ log₀ : List ℕ) (n₀ : ℕ) (mem log : List ℕ) (n : ℕ) (t : Tally) (idle : ℕ) (more : Bool) (g : Turns m d budget mem₀ log₀ n₀ mem log n t idle more) where
    -- the run's outcome, as it is answered
    pub turns_end : {searches : ℕ} {b : Bool} {a : Answer} → more ≡ false → searches ≡ (reading_of m).searches → b ≡ (leb n t.worked and leb searches idle)
        → a ≡ cond b (Finished (counts_at n t)) (Stopped (counts_at n t)) → Worked (run_of m d budget) mem₀ log₀ mem log a
    unfolding searches_of
    turns_end {b = b} left_it es eb ea =
        subst (Worked (run_of m d budget) mem₀ log₀ mem log) (sym ea)
        (subst (λ r. Worked r mem₀ log₀ mem log (cond b (Finished (counts_at n t)) (Stopped (counts_at n t)))) outcome_is
        (record {
          answer = ap (λ k. cond b (Finished k) (Stopped k)) counts;
          written =
              sym (take-append-drop n log) ∙ ap₂ (λ (x y : List ℕ). x ++ y) (stage_lines log n t few) g.grown.past
              ∙ ap (λ i. (take t.worked log ++ drop t.worked (take n log)) ++ drop i log₀) number;
          kept = g.grown.kept;
        }))
      where
        inside : n ≤ length log
        inside = g.reached.logged.inside

        few : t.worked ≤ n
        few = g.reached.few

        outcome_is : outcome b (stage_at log n t idle g.searched) ≡ run_of m d budget
        outcome_is =
            ap (λ c. outcome c (stage_at log n t idle g.searched))
            (eb ∙ ap₂ (λ c k. c and leb k idle) (sym (quiet_lines log n t few inside)) es)
            ∙ sym (proceed_stays s z (suc z.count * (budget - t.spent) + z.count) budget (stage_at log n t idle g.searched) (g.halted (of_false more left_it))) ∙ g.same

        number : n ≡ length (take t.worked log ++ drop t.worked (take n log))
        number = sym (length-take-le n log inside) ∙ ap length (stage_lines log n t few)

        counts : counts_at n t ≡ record { lines = length (take t.worked log ++ drop t.worked (take n log)); worked = length (take t.worked log); spent = t.spent }
        counts = λ i. record { lines = number i; worked = stage_worked log n t few inside i; spent = t.spent }

    -- One turn: lines are processed, and then a search is made if it is the next.
    module _ (start : ℕ) (f : start ≡ size d) (mem₁ log₁ : List ℕ) (n₁ : ℕ) (t₁ : Tally) (l : Lined d budget mem log n t mem₁ log₁ n₁ t₁) (r : Bool)
        (er : r ≡ (leb n₁ t₁.worked and ltb idle (reading_of m).searches and leb start (budget - t₁.spent))) where
      inside₁ : n₁ ≤ length log₁
      inside₁ = l.reached.logged.inside

      few₁ : t₁.worked ≤ n₁
      few₁ = l.reached.few

      same₁ : rest s z budget (stage_at log₁ n₁ t₁ idle g.searched) ≡ run_of m d budget
      same₁ = sym (lined_same mem log n t g.reached.few g.reached.logged.inside mem₁ log₁ n₁ t₁ l idle g.searched g.quiet) ∙ g.same

      quiet₁ : t₁.worked < n₁ → idle ≡ 0
      quiet₁ h =
          ⊎_elim (λ k. absurd (not-le_of_lt h (lined_idle mem log n t g.reached.few g.reached.logged.inside mem₁ log₁ n₁ t₁ l k))) g.quiet (at_most n t.worked)

      no_line : T (leb n₁ t₁.worked) → drop t₁.worked (take n₁ log₁) ≡ []
      no_line u = empty_nil _ (subst T (sym (quiet_lines log₁ n₁ t₁ few₁ inside₁)) u)

      -- nothing more is done where no search is the next, as no line fits
      halts : (T r → ⊥) → T (goes s z budget (stage_at log₁ n₁ t₁ idle g.searched)) → ⊥
      unfolding system_of searches_of
      halts no-search u =
          let (unended, fit) = goes_on s z budget (stage_at log₁ n₁ t₁ idle g.searched) u in
          ⊎_elim
          (λ h. let e : drop t₁.worked (take n₁ log₁) ≡ [] = no_line h in
          let c : idle < (reading_of m).searches = ⊎_elim (λ k. absurd (unended (and_intro _ _ (nil_empty _ e) (le→leb _ _ k)))) (λ k. k) (at_most (reading_of m).searches idle) in
          no-search (subst T (sym er) (and_intro _ _ (and_intro _ _ h (lt→ltb _ _ c))
          (le→leb _ _ (subst (λ k. k ≤ budget - t₁.spent) (ap (toll_from s (take t₁.worked log₁)) e ∙ toll_search s (take t₁.worked log₁) ∙ sym f) fit)))))
          (λ h. lined_stuck mem log n t g.reached.few g.reached.logged.inside mem₁ log₁ n₁ t₁ l
          (goes_intro s (no_searches d) budget (stage_at log₁ n₁ t₁ 0 0) (λ k. h (subst T (quiet_lines log₁ n₁ t₁ few₁ inside₁) (and_left _ _ k))) fit))
          (test_cases (leb n₁ t₁.worked))

      -- where a search is the next
      module _ (u : T r) where
        next : T (leb n₁ t₁.worked and ltb idle (reading_of m).searches and leb start (budget - t₁.spent))
        next = subst T er u

        all_worked : t₁.worked ≡ n₁
        all_worked = omega (arith, few₁, leb→le n₁ t₁.worked (and_left _ _ (and_left _ _ next)))

        searches_left : idle < (reading_of m).searches
        searches_left = ltb→lt _ _ (and_right _ _ (and_left _ _ next))

        pub one_of_two : idle < 2
        one_of_two = omega (arith, searches_left, few_searches m)

        start_fits : start ≤ budget - t₁.spent
        start_fits = leb→le _ _ (and_right _ _ next)

        pub turns_asks : budget < 4294967296 → SearchAsks mem₁ log₁ n₁ t₁ idle start
        turns_asks small =
            record {
              search = one_of_two;
              held = λ x. l.reached.held x ∙ ap (λ k. member x (take k log₁)) all_worked;
              small = omega (arith, start_fits, l.reached.within, small);
            }

        abbrev new : List ℕ
        new = found s (unfounded_searches d) idle (take n₁ log₁)

        abbrev idle₂ : ℕ
        idle₂ = cond (empty new) (suc idle) 0

        abbrev paid : Tally
        paid = record { worked = t₁.worked; spent = t₁.spent + start }

        -- the search's step
        stage_here : stage_at log₁ n₁ t₁ idle g.searched ≡ stage (take n₁ log₁) [] idle g.searched t₁.spent
        stage_here = ap₂ (λ (a b : List ℕ). stage a b idle g.searched t₁.spent) (ap (λ i. take i log₁) all_worked) (no_line (and_left _ _ (and_left _ _ next)))

        goes_here : T (goes s z budget (stage (take n₁ log₁) [] idle g.searched t₁.spent))
        unfolding system_of searches_of
        goes_here =
            goes_intro s z budget (stage (take n₁ log₁) [] idle g.searched t₁.spent)
            (λ e. not-le_of_lt searches_left (leb→le _ _ (and_right _ _ e)))
            (subst (λ i. i ≤ budget - t₁.spent) (f ∙ sym (toll_search s (take n₁ log₁))) start_fits)

        module _ (mem₂ log₂ : List ℕ) (n₂ : ℕ) (k : Searched d idle mem₁ log₁ n₁ mem₂ log₂ n₂) where
          parts : Split log₂ n₂ paid
          parts = record { done = take n₁ log₁; todo = new; lines = k.lines; worked = all_worked ∙ sym (length-take-le n₁ log₁ inside₁) }

          few₂ : t₁.worked ≤ n₂
          few₂ = omega (arith, few₁, k.grown.more)

          number₂ : n₂ ≡ n₁ + length new
          number₂ = sym (length-take-le n₂ log₂ k.logged.inside) ∙ ap length k.lines ∙ length-append (take n₁ log₁) new ∙ ap (λ i. i + length new) (length-take-le n₁ log₁ inside₁)

          -- as many lines as before exactly if nothing is new
          grows : empty new ≡ eqb n₂ n₁
          grows =
              test_eq (empty new) (eqb n₂ n₁) (λ e. eq→eqb n₂ n₁ (omega (arith, number₂, ap length (empty_nil new e))))
              (λ e. nil_empty new (no_length new (omega (arith, number₂, eqb→eq n₂ n₁ e))))

          stage_then : step s z (stage (take n₁ log₁) [] idle g.searched t₁.spent) ≡ stage_at log₂ n₂ paid idle₂ (suc g.searched)
          unfolding system_of parts
          stage_then =
              step_search s z (take n₁ log₁) idle g.searched t₁.spent
              ∙ ap₂ (λ (a : List ℕ) b. stage (take n₁ log₁) a (cond (empty a) (suc idle) 0) (suc g.searched) (t₁.spent + b)) (found_in m d idle (take n₁ log₁) searches_left) (sym f)
              ∙ sym (split_stage few₂ parts idle₂ (suc g.searched))

          searched_turn : Turns m d budget mem₀ log₀ n₀ mem₂ log₂ n₂ paid (cond (eqb n₂ n₁) (suc idle) 0) r
          unfolding parts
          searched_turn =
              subst (λ b. Turns m d budget mem₀ log₀ n₀ mem₂ log₂ n₂ paid (cond b (suc idle) 0) r) grows
              (record {
                reached =
                    record {
                      logged = k.logged;
                      few = few₂;
                      held = λ x. k.held x ∙ l.reached.held x ∙ ap (λ i. member x (take i log₁)) all_worked ∙ ap (member x) (sym (split_done few₂ parts));
                      within = omega (arith, start_fits, l.reached.within);
                    };
                grown = grown_on g.grown (grown_on l.grown k.grown);
                searched = suc g.searched;
                same = ap (rest s z budget) (sym stage_then) ∙ sym (rest_goes s z (lawful_in m d p) budget _ goes_here) ∙ ap (rest s z budget) (sym stage_here) ∙ same₁;
                quiet = λ h. cond_false (empty new) (suc idle) 0 (λ e. lt_irrefl n₁ (omega (arith, h, number₂, ap length (empty_nil new e), all_worked)));
                halted = λ skipped. absurd (skipped u);
              })

      -- where none is
      unsearched_turn : (T r → ⊥) → Turns m d budget mem₀ log₀ n₀ mem₁ log₁ n₁ t₁ idle r
      unsearched_turn skipped =
          record { reached = l.reached; grown = grown_on g.grown l.grown; searched = g.searched; same = same₁; quiet = quiet₁; halted = λ _. halts skipped }

      module _ {mem₂ log₂ : List ℕ} {n₂ : ℕ} {t₂ : Tally} (k : SearchedIf d r idle start mem₁ log₁ n₁ t₁ mem₂ log₂ n₂ t₂) {i : ℕ} (ei : i ≡ cond r (cond (eqb n₂ n₁) (suc idle) 0) idle) where
        pub turns_next : Turns m d budget mem₀ log₀ n₀ mem₂ log₂ n₂ t₂ i r
        turns_next =
            ⊎_elim
            (λ u. let (ks, et) = k.made u in
            subst (λ j. Turns m d budget mem₀ log₀ n₀ mem₂ log₂ n₂ t₂ j r) (sym (ei ∙ cond_true r _ _ u))
            (subst (λ v. Turns m d budget mem₀ log₀ n₀ mem₂ log₂ n₂ v (cond (eqb n₂ n₁) (suc idle) 0) r) (sym et) (searched_turn u mem₂ log₂ n₂ ks)))
            (λ skipped. let (em, el, en, et) = k.none skipped in
            subst (λ j. Turns m d budget mem₀ log₀ n₀ mem₂ log₂ n₂ t₂ j r) (sym (ei ∙ cond_false r _ _ skipped))
            (coe 1 0 (j. Turns m d budget mem₀ log₀ n₀ (em j) (el j) (en j) (et j) idle r) (unsearched_turn skipped)))
            (test_cases r)

        -- there are more lines, or one more search was idle, or the loop is left
        pub turns_less : more ≡ true → n₂ ≤ 4 * d.atoms → (4 * d.atoms - n₂) * 3 + (2 - i) + weigh r 1 < (4 * d.atoms - n) * 3 + (2 - idle) + weigh more 1
        turns_less on most =
            let w = weigh_true more 1 (of_true more on) in
            ⊎_elim
            (λ u. let ks = (k.made u).0 in let e : i ≡ cond (eqb n₂ n₁) (suc idle) 0 = ei ∙ cond_true r _ _ u in
            ⊎_elim
            (λ v. omega (arith, e ∙ cond_true (eqb n₂ n₁) (suc idle) 0 v, eqb→eq n₂ n₁ v, one_of_two u, l.grown.more, weigh_true r 1 u, w))
            (λ v. let h : n₁ < n₂ = lt_of_le-ne ks.grown.more (λ j. v (eq→eqb n₂ n₁ (sym j))) in
            omega (arith, e ∙ cond_false (eqb n₂ n₁) (suc idle) 0 v, h, l.grown.more, weigh_true r 1 u, w))
            (test_cases (eqb n₂ n₁)))
            (λ skipped. let (_, _, en, _) = k.none skipped in omega (arith, ei ∙ cond_false r _ _ skipped, en, l.grown.more, weigh_false r 1 skipped, w))
            (test_cases r)
