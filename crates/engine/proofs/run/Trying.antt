-- Trying conclusions: what is not written and follows goes to the end of the log, which has room for it. Assumes nothing.
use Prim.Native.Nat.{ℕ, ◌+◌, ◌-◌, ◌*◌, ◌%◌, ◌≤◌, ◌<◌}
use native.Mathlib.Nat.{le_refl, le_trans}
use native.Mathlib.Numerals.{add-one}
use native.Mathlib.Omega.{arith}
use mathlib.Core.Path.{◌≡◌, refl, sym, ◌∙◌, ap, subst, fun_ext}
use mathlib.Core.Logic.{◌⊎◌, inl, inr, ⊎_elim}
use mathlib.Core.Bool.{Bool, true, false}
use mathlib.Core.List.{List, [], ◌∷◌, ◌++◌, append_assoc, map}
use lib.Dec.{T, eqb, eqb→eq}
use lib.ListN.{length, set, take, drop, length-append, length-set}
use lib.Seq.{length-take-le, take-suc-set, drop-set-lt, drop-drop}
use Rattle.logic.specs.Tests.{◌and◌, ◌or◌, isnt, member, distinct, upto}
use Rattle.logic.specs.Theory.{Theory, proper, complement}
use Rattle.logic.specs.System.{System, held, Coherent, derivation}
use Rattle.logic.specs.Worklist.{put, grow}
use Rattle.logic.specs.Reading.{system_of, with_tags, conclusion}
use Rattle.logic.specs.Plain.{plain_system}
use Rattle.logic.specs.WellFounded.{unfounded_searches}
use Rattle.logic.proofs.Tests.{and_intro, and_left, and_right, false_of, isnt_elim, isnt_intro, of_false, of_true, or_elim, or_left, or_right, test_cases}
use Rattle.logic.proofs.Lists.{distinct_snoc, member_last, member_left, member_more}
use Rattle.logic.proofs.Derivations.{derivation_snoc, monotone}
use Rattle.logic.proofs.Coherence.{part_coherent}
use Rattle.logic.proofs.Runs.{grow_append}
use Rattle.logic.proofs.WellFounded.{searched_lawful, searched_coherent, searched_length}
use Rattle.table.specs.declared.accepted.Table.{Table}
use Rattle.table.specs.Tables.{theory_said}
use Rattle.table.specs.Format.{theory_in}
use Rattle.table.proofs.Legal.{Limited, limited, ranged, proper_theory}
use Rattle.memory.specs.Layout.{tag_count}
use Rattle.memory.specs.Memory.{held_of, written_of}
use Rattle.memory.specs.Api.{adds, Wrote, Kept}
use Rattle.engine.specs.Working.{Logged, Yielded, Grown, Tried, Appended}
use Rattle.memory.proofs.Views.{kept_none, kept_then}
use Rattle.memory.proofs.visit.Marks.{held_written}

-- A table that is accepted.
module _ (table : Table) where
  pub atoms_in : (theory_said table).atoms ≡ table.sizes.atoms
  unfolding theory_in
  atoms_in = refl

  pub rules_in : (theory_said table).rules ≡ table.sizes.rules
  unfolding theory_in
  rules_in = refl

  pub few : Limited table.sizes
  few = limited table.sizes table.legal.limits

  pub proper_in : T (proper (theory_said table))
  proper_in = proper_theory table.layout.now table.sizes (ranged table.layout.now table.sizes table.legal.ranges)

pub drop_further : (n k : ℕ) (l m : List ℕ) → n ≤ k → drop n l ≡ drop n m → drop k l ≡ drop k m
drop_further n k l m h e =
    let f : n + (k - n) ≡ k = omega arith in
    ap (λ i. drop i l) (sym f) ∙ sym (drop-drop (k - n) n l) ∙ ap (drop (k - n)) e ∙ drop-drop (k - n) n m ∙ ap (λ i. drop i m) f

-- nothing has grown, growth goes on, and it is growth since the memory changed before
pub grown_none : (mem log : List ℕ) (n : ℕ) → Grown mem log n mem log n
grown_none mem log n = record { past = refl; more = le_refl n; size = refl; kept = kept_none mem }

pub grown_on : {m l m' l' m'' l'' : List ℕ} {n n' n'' : ℕ} → Grown m l n m' l' n' → Grown m' l' n' m'' l'' n'' → Grown m l n m'' l'' n''
grown_on {l = l} {l' = l'} {n' = n'} {n'' = n''} f g =
    record {
      past = g.past ∙ drop_further n' n'' l' l g.more f.past;
      more = le_trans f.more g.more;
      size = g.size ∙ f.size;
      kept = kept_then f.kept g.kept;
    }

pub grown_after : {m m₁ l m' l' : List ℕ} {n n' : ℕ} → Kept m m₁ → Grown m₁ l n m' l' n' → Grown m l n m' l' n'
grown_after k g = record { past = g.past; more = g.more; size = g.size; kept = kept_then k g.kept }

put_stays : (b : Bool) (l : List ℕ) (x : ℕ) → (T b → ⊥) → put b l x ≡ l
unfolding put
put_stays true l x n = absurd (n tt)
put_stays false l x n = refl

put_adds : (b : Bool) (l : List ℕ) (x : ℕ) → T b → put b l x ≡ l ++ (x ∷ [])
unfolding put
put_adds true l x t = refl
put_adds false l x t = absurd t

module _ (d : Theory) (p : T (proper d)) where
  -- a derivation without repeats has at most 4A lines
  pub good_length : (l : List ℕ) → T (derivation (plain_system d) (unfounded_searches d) l) → T (distinct l) → length l ≤ tag_count * d.atoms
  good_length = searched_length d p

  pub lines_most : (m l : List ℕ) (n : ℕ) → Logged d m l n → n ≤ tag_count * d.atoms
  lines_most m l n g = omega (arith, good_length (take n l) g.derives g.once, length-take-le n l g.inside)

  -- a conclusion that is written already, or does not follow, is not written
  pub skips : (m l : List ℕ) (n x : ℕ) → Logged d m l n → (T ((plain_system d).infers (held_of m) x) → T (member x (take n l))) → Tried d (x ∷ []) m l n m l n
  unfolding grow
  skips m l n x g o =
      record {
        logged = g;
        lines = sym (put_stays _ (take n l) x (λ t. isnt_elim _ (and_right _ _ t) (o (and_left _ _ t))));
        grown = grown_none m l n;
        held = λ _. refl;
      }

  -- what follows from what is processed is yielded by the lines
  line_yields : (m l : List ℕ) (n x : ℕ) → Logged d m l n → T ((plain_system d).infers (held_of m) x) → Yielded d l n x
  line_yields m l n x g t =
      or_left _ _ (monotone (plain_system d) (unfounded_searches d) (searched_lawful d p) (held_of m) (held (take n l)) x (λ y u. subst T (g.written y) (held_written m y u)) t)

  -- the lines with what they yield are a derivation, so its opposite is no line
  line_derives : (m l : List ℕ) (n x : ℕ) → Logged d m l n → x < tag_count * (2 * d.atoms) → Yielded d l n x
      → T (derivation (plain_system d) (unfounded_searches d) (take n l ++ (x ∷ [])))
  unfolding system_of
  line_derives m l n x g small t = derivation_snoc (plain_system d) (unfounded_searches d) (take n l) x g.derives (omega arith) t

  opposite_never : (m l : List ℕ) (n x y : ℕ) → Logged d m l n → x < tag_count * (2 * d.atoms) → y ≡ complement x → T (member y (take n l)) → T ((plain_system d).infers (held_of m) x) → ⊥
  unfolding Coherent
  opposite_never m l n x y g small e o t =
      searched_coherent d p (take n l ++ (x ∷ [])) (line_derives m l n x g small (line_yields m l n x g t)) x (member_last (take n l) x)
      (subst (λ z. T (member z (take n l ++ (x ∷ [])))) e (member_left y (take n l) (x ∷ []) o))

  -- so what is processed, with a line that is next, holds no conclusion beside its opposite
  pub next_coherent : (m l : List ℕ) (n x : ℕ) → Logged d m l n → written_of m x ≡ true → Coherent (adds (held_of m) x)
  next_coherent m l n x g e =
      part_coherent (adds (held_of m) x) (held (take n l))
      (λ y u. ⊎_elim (λ v. subst T (g.written y) (held_written m y v)) (λ v. subst (λ z. T (member z (take n l))) (sym (eqb→eq y x v)) (subst T (g.written x) (of_true _ e))) (or_elim _ _ u))
      (searched_coherent d p (take n l) g.derives)

  -- a conclusion is not tried if it or its opposite is written
  pub skips_opposed : (m l : List ℕ) (n x y : ℕ) → Logged d m l n → x < tag_count * (2 * d.atoms) → y ≡ complement x → T (written_of m x) ⊎ T (written_of m y) → Tried d (x ∷ []) m l n m l n
  skips_opposed m l n x y g small e w =
      skips m l n x g (λ t. ⊎_elim (λ u. subst T (g.written x) u) (λ u. absurd (opposite_never m l n x y g small e (subst T (g.written y) u) t)) w)

  -- a conclusion that the lines yield and that is not written goes to the end of the log
  module _ (m l : List ℕ) (n x : ℕ) (g : Logged d m l n) (small : x < tag_count * (2 * d.atoms)) (new : written_of m x ≡ false)
      (t : Yielded d l n x) where
    pub absent : T (member x (take n l)) → ⊥
    absent u = of_false _ new (subst T (sym (g.written x)) u)

    derives_more : T (derivation (plain_system d) (unfounded_searches d) (take n l ++ (x ∷ [])))
    derives_more = line_derives m l n x g small t

    once_more : T (distinct (take n l ++ (x ∷ [])))
    once_more = distinct_snoc (take n l) x g.once absent

    pub fits_line : n < tag_count * d.atoms
    fits_line =
        omega (arith, good_length (take n l ++ (x ∷ [])) derives_more once_more, length-append (take n l) (x ∷ []), length-take-le n l g.inside)

    pub fits_log : n < length l
    fits_log = omega (arith, fits_line, g.room)

    taken : take (n + 1) (set l n x) ≡ take n l ++ (x ∷ [])
    taken = ap (λ k. take k (set l n x)) (add-one n) ∙ take-suc-set l n x fits_log

    pub appends : (m' : List ℕ) → Wrote d x m m' → Appended d x m l n m' (set l n x) (n + 1)
    appends m' w =
        record {
          logged =
              record {
                ready = w.ready;
                written = λ y. w.written y ∙ ap (λ b. b or eqb y x) (g.written y) ∙ member_more (take n l) x y ∙ ap (member y) (sym taken);
                derives = subst (λ k. T (derivation (plain_system d) (unfounded_searches d) k)) (sym taken) derives_more;
                once = subst (λ k. T (distinct k)) (sym taken) once_more;
                inside = omega (arith, fits_log, length-set l n x);
                room = omega (arith, g.room, length-set l n x);
              };
          lines = taken;
          grown = record { past = drop-set-lt (n + 1) l n x (omega arith); more = omega arith; size = length-set l n x; kept = w.kept };
          held = w.same;
        }

  -- one that follows from what is processed
  pub writes : (m l : List ℕ) (n x : ℕ) → Logged d m l n → x < tag_count * (2 * d.atoms) → written_of m x ≡ false → T ((plain_system d).infers (held_of m) x)
      → {m' l' : List ℕ} {n' : ℕ} → Appended d x m l n m' l' n' → Tried d (x ∷ []) m l n m' l' n'
  unfolding grow
  writes m l n x g small new t a =
      record {
        logged = a.logged;
        lines = a.lines ∙ sym (put_adds _ (take n l) x (and_intro _ _ t (isnt_intro _ (absent m l n x g small new (line_yields m l n x g t)))));
        grown = a.grown;
        held = a.held;
      }

-- the same held, as functions
grow_held : (s : System) (h k : ℕ → Bool) → ((x : ℕ) → h x ≡ k x) → (l cs : List ℕ) → grow s h [] l cs ≡ grow s k [] l cs
grow_held s h k f l cs = ap (λ j. grow s j [] l cs) (fun_ext f)

-- nothing tried, and two lists tried one after the other
module _ (d : Theory) where
  pub tried_none : (m l : List ℕ) (n : ℕ) → Logged d m l n → Tried d [] m l n m l n
  unfolding grow
  tried_none m l n g = record { logged = g; lines = refl; grown = grown_none m l n; held = λ _. refl }

  pub tried_on : {cs ds m l m' l' m'' l'' : List ℕ} {n n' n'' : ℕ} → Tried d cs m l n m' l' n' → Tried d ds m' l' n' m'' l'' n'' → Tried d (cs ++ ds) m l n m'' l'' n''
  tried_on {cs} {ds} {m} {l} {m'} {l'} {m''} {l''} {n} {n'} {n''} f g =
      record {
        logged = g.logged;
        lines =
            g.lines ∙ grow_held (plain_system d) (held_of m') (held_of m) f.held (take n' l') ds
            ∙ ap (λ k. grow (plain_system d) (held_of m) [] k ds) f.lines ∙ sym (grow_append (plain_system d) (held_of m) [] (take n l) cs ds);
        grown = grown_on f.grown g.grown;
        held = λ x. g.held x ∙ f.held x;
      }

-- one conclusion was tried: there are as many lines as before and the same are written, or it is written
module _ (d : Theory) (m l m' l' : List ℕ) (n n' x : ℕ) (g : Logged d m l n) (f : Tried d (x ∷ []) m l n m' l' n') where
  abbrev goes : Bool
  goes = (plain_system d).infers (held_of m) x and isnt (member x (take n l))

  lines_now : take n' l' ≡ put goes (take n l) x
  unfolding grow
  lines_now = f.lines

  counted : n' ≡ length (put goes (take n l) x)
  counted = sym (length-take-le n' l' f.logged.inside) ∙ ap length lines_now

  pub still_written : n' ≡ n → (y : ℕ) → written_of m' y ≡ written_of m y
  still_written e y = f.logged.written y ∙ ap (member y) same ∙ sym (g.written y)
    where
      more : T goes → ⊥
      more t =
          absurd
          (omega (arith, counted, ap length (put_adds goes (take n l) x t), length-append (take n l) (x ∷ []), length-take-le n l g.inside))

      same : take n' l' ≡ take n l
      same = lines_now ∙ put_stays goes (take n l) x more

  pub now_written : (n' ≡ n → ⊥) → T (written_of m' x)
  now_written h =
      ⊎_elim (λ t. subst T (sym (f.logged.written x ∙ ap (member x) (lines_now ∙ put_adds goes (take n l) x t))) (member_last (take n l) x))
      (λ u. absurd (h (counted ∙ ap length (put_stays goes (take n l) x u) ∙ length-take-le n l g.inside))) (test_cases goes)

-- A conclusion of a table that its lines yield and that is not written.
module _ (table : Table) (m l : List ℕ) (n x : ℕ) (g : Logged (theory_said table) m l n) (small : x < tag_count * (2 * table.sizes.atoms)) (new : written_of m x ≡ false)
    (yielded : Yielded (theory_said table) l n x) where
  small_here : x < tag_count * (2 * (theory_said table).atoms)
  small_here = omega (arith, atoms_in table)

  pub room_for : (n < length l) × (n < 2048)
  room_for = (
    fits_log (theory_said table) (proper_in table) m l n x g small_here new yielded,
    omega (arith, fits_line (theory_said table) (proper_in table) m l n x g small_here new yielded, atoms_in table, (few table).atoms),
  )

  pub appends_line : (m' : List ℕ) → Wrote (theory_said table) x m m' → Appended (theory_said table) x m l n m' (set l n x) (n + 1)
  appends_line = appends (theory_said table) (proper_in table) m l n x g small_here new yielded

-- One that follows from what is processed.
module _ (table : Table) (m l : List ℕ) (n x : ℕ) (g : Logged (theory_said table) m l n) (small : x < tag_count * (2 * table.sizes.atoms)) (new : written_of m x ≡ false)
    (follows : (plain_system (theory_said table)).infers (held_of m) x ≡ true) where
  pub yielded_so : Yielded (theory_said table) l n x
  yielded_so = line_yields (theory_said table) (proper_in table) m l n x g (of_true _ follows)

  pub tried_so : {m' l' : List ℕ} {n' : ℕ} → Appended (theory_said table) x m l n m' l' n' → Tried (theory_said table) (x ∷ []) m l n m' l' n'
  tried_so = writes (theory_said table) (proper_in table) m l n x g (omega (arith, atoms_in table)) new (of_true _ follows)

-- What was tried for a table was tried for one that is the same.
pub tried_of : (cs : Theory → List ℕ) {t u : Table} {m l m' l' : List ℕ} {n n' : ℕ} → u ≡ t → Tried (theory_said u) (cs (theory_said u)) m l n m' l' n'
    → Tried (theory_said t) (cs (theory_said t)) m l n m' l' n'
tried_of cs {m = m} {l} {m'} {l'} {n} {n'} e f = subst (λ k. Tried (theory_said k) (cs (theory_said k)) m l n m' l' n') e f

pub tried_by : {t u : Table} {cs m l m' l' : List ℕ} {n n' : ℕ} → u ≡ t → Tried (theory_said u) cs m l n m' l' n' → Tried (theory_said t) cs m l n m' l' n'
tried_by {cs = cs} = tried_of (λ _. cs)

-- The conclusions of two lists of literals, and of one literal.
pub with_tags_append : (n : ℕ) (qs rs : List ℕ) → with_tags n (qs ++ rs) ≡ with_tags n qs ++ with_tags n rs
unfolding with_tags
with_tags_append n [] rs = refl
with_tags_append n (q ∷ qs) rs =
    ap (λ (k : List ℕ). map (conclusion n q) (upto n) ++ k) (with_tags_append n qs rs)
    ∙ sym (append_assoc (map (conclusion n q) (upto n)) (with_tags n qs) (with_tags n rs))

pub tried_same : {d : Theory} {cs ds m l m' l' : List ℕ} {n n' : ℕ} → cs ≡ ds → Tried d cs m l n m' l' n' → Tried d ds m l n m' l' n'
tried_same {d} {cs} {ds} {m} {l} {m'} {l'} {n} {n'} e f = subst (λ k. Tried d k m l n m' l' n') e f

pub tried_tags : {d : Theory} {m0 l0 m1 l1 m2 l2 : List ℕ} {n0 n1 n2 : ℕ} (q : ℕ) → Tried d ((tag_count * q + 0) ∷ (tag_count * q + (0 + 1)) ∷ []) m0 l0 n0 m1 l1 n1
    → Tried d ((tag_count * q + 2) ∷ (tag_count * q + (2 + 1)) ∷ []) m1 l1 n1 m2 l2 n2 → Tried d (with_tags tag_count (q ∷ [])) m0 l0 n0 m2 l2 n2
unfolding with_tags upto
tried_tags {d} q f g = tried_on d f g

-- A tag and its opposite, of an accepted table: of the two only one is ever written.
module _ (table : Table) {q t : ℕ} (l : q < 2 * table.sizes.atoms) (k : t < 3) (even : t % 2 ≡ 0) where
  abbrev first : ℕ
  first = tag_count * q + t

  abbrev second : ℕ
  second = tag_count * q + (t + 1)

  module _ {mem log : List ℕ} {n : ℕ} (g : Logged (theory_said table) mem log n) where
    skip_first : T (written_of mem first) ⊎ T (written_of mem second) → Tried (theory_said table) (first ∷ []) mem log n mem log n
    skip_first = skips_opposed (theory_said table) (proper_in table) mem log n first second g (omega (arith, atoms_in table)) (omega arith)

    skip_second : T (written_of mem second) ⊎ T (written_of mem first) → Tried (theory_said table) (second ∷ []) mem log n mem log n
    skip_second = skips_opposed (theory_said table) (proper_in table) mem log n second first g (omega (arith, atoms_in table)) (omega arith)

    module _ {u : Bool} (eu : u ≡ (written_of mem first or written_of mem second)) where
      pub opposed : u ≡ true → Tried (theory_said table) (first ∷ second ∷ []) mem log n mem log n
      opposed h =
          let w = or_elim _ _ (of_true _ (sym eu ∙ h)) in tried_on (theory_said table) (skip_first w) (skip_second (⊎_elim inr inl w))

      pub first_open : u ≡ false → written_of mem first ≡ false
      first_open h = false_of _ (λ w. of_false _ (sym eu ∙ h) (or_left _ _ w))

      pub second_open : u ≡ false → {mem' log' : List ℕ} {n' : ℕ} → Tried (theory_said table) (first ∷ []) mem log n mem' log' n' → n' ≡ n → written_of mem' second ≡ false
      second_open h {mem'} {log'} {n'} f c =
          still_written (theory_said table) mem log mem' log' n n' first g f c second ∙ false_of _ (λ w. of_false _ (sym eu ∙ h) (or_right _ _ w))

  pub first_written : {mem log : List ℕ} {n : ℕ} → Logged (theory_said table) mem log n → {mem' log' : List ℕ} {n' : ℕ} → Tried (theory_said table) (first ∷ []) mem log n mem' log' n'
      → (n' ≡ n → ⊥) → Tried (theory_said table) (first ∷ second ∷ []) mem log n mem' log' n'
  first_written {mem} {log} {n} g {mem'} {log'} {n'} f c =
      tried_on (theory_said table) f (skip_second f.logged (inr (now_written (theory_said table) mem log mem' log' n n' first g f c)))

-- the literals of two lists tried one after the other
pub tried_literals : {d : Theory} {m l m' l' m'' l'' : List ℕ} {n n' n'' : ℕ} (qs rs : List ℕ) → Tried d (with_tags tag_count qs) m l n m' l' n'
    → Tried d (with_tags tag_count rs) m' l' n' m'' l'' n'' → Tried d (with_tags tag_count (qs ++ rs)) m l n m'' l'' n''
tried_literals {d} qs rs f g = tried_same (sym (with_tags_append 4 qs rs)) (tried_on d f g)

pub tried_both : {d : Theory} {m l m' l' m'' l'' : List ℕ} {n n' n'' : ℕ} (q c : ℕ) → c ≡ complement q → Tried d (with_tags tag_count (q ∷ [])) m l n m' l' n'
    → Tried d (with_tags tag_count (c ∷ [])) m' l' n' m'' l'' n'' → Tried d (with_tags tag_count (q ∷ complement q ∷ [])) m l n m'' l'' n''
tried_both {d} q c e f g = tried_literals (q ∷ []) (complement q ∷ []) f (tried_same (ap (λ z. with_tags tag_count (z ∷ [])) e) g)
