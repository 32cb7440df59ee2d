-- The loop over the lines: where a run stands between two of them. Assumes nothing.
use Prim.Native.Nat.{ℕ, ◌+◌, ◌-◌, ◌*◌, ◌≤◌, ◌<◌}
use native.Mathlib.Nat.{lt_irrefl, not-le_of_lt}
use native.Mathlib.Omega.{arith}
use mathlib.Core.Path.{◌≡◌, refl, sym, ◌∙◌, ap, ap₂, subst, fun_ext}
use mathlib.Core.Bool.{Bool, true, false}
use mathlib.Core.List.{List, [], ◌∷◌, ◌++◌, append_assoc, append-nil}
use lib.Dec.{T, eqb, leb, leb→le, le→leb}
use lib.ListN.{length, get_or, take, drop, length-append, take-append-drop}
use lib.Seq.{length-take-le, get_or_at, get_or-take, take-take, take_at, drop_at}
use Rattle.logic.specs.Tests.{◌and◌, ◌or◌, isnt, empty, member, distinct}
use Rattle.logic.specs.Theory.{Theory, proper}
use Rattle.logic.specs.System.{System, held}
use Rattle.logic.specs.Worklist.{Stage, stage, outcome, put, grow, process, cost_after, rest}
use Rattle.logic.specs.Reading.{system_of}
use Rattle.logic.specs.Plain.{plain_system, no_searches}
use Rattle.logic.specs.WellFounded.{unfounded_searches}
use Rattle.logic.proofs.Tests.{false_of, true_of, and_intro, and_left, nil_empty}
use Rattle.logic.proofs.Lists.{distinct_apart, member_here, member_more, member_right, snoc_append}
use Rattle.logic.proofs.Derivations.{derives_all_below}
use Rattle.logic.proofs.Runs.{toll_line, step_line, goes_intro}
use Rattle.logic.proofs.Budgets.{rest_ended, rest_goes, rest_stops}
use Rattle.logic.proofs.Plain.{no_searches_lem, plain_lawful}
use Rattle.table.specs.declared.accepted.Table.{Table}
use Rattle.table.specs.Tables.{theory_said}
use Rattle.engine.specs.declared.tally.Tally.{Tally}
use Rattle.memory.specs.Layout.{tag_count}
use Rattle.memory.specs.Memory.{held_of}
use Rattle.memory.specs.Api.{adds}
use Rattle.engine.specs.Tallies.{next, due, Next, Stepped}
use Rattle.engine.specs.Working.{Grown, Reached, stage_at, Lined}
use Rattle.engine.proofs.run.Trying.{grown_none, grown_on}
use Rattle.engine.proofs.run.Tallies.{step_stopped, step_worked}

-- what was processed may stand before what is pending
put_after : (b : Bool) (done todo : List ℕ) (x : ℕ) → done ++ put b todo x ≡ put b (done ++ todo) x
unfolding put
put_after true done todo x = sym (append_assoc done todo (x ∷ []))
put_after false done todo x = refl

grow_after : (s : System) (h : ℕ → Bool) (done todo cs : List ℕ) → done ++ grow s h done todo cs ≡ grow s h [] (done ++ todo) cs
unfolding grow
grow_after s h done todo [] = refl
grow_after s h done todo (x ∷ cs) =
    grow_after s h done (put (s.infers h x and isnt (member x (done ++ todo))) todo x) cs
    ∙ ap (λ l. grow s h [] l cs) (put_after (s.infers h x and isnt (member x (done ++ todo))) done todo x)

-- the next of what is pending stands in the log at the number of those processed
split_of : (done todo l : List ℕ) (w : ℕ) → l ≡ done ++ todo → w ≡ length done → w < length l → (xs : List ℕ) × (todo ≡ get_or l w 0 ∷ xs)
split_of done [] l w e f h = absurd (lt_irrefl w (omega (arith, ap length e, ap length (append-nil done))))
split_of done (x ∷ xs) l w e f h = (xs, ap (λ z. z ∷ xs) (sym (ap (λ k. get_or k w 0) e ∙ get_or_at done x xs 0 w (sym f))))

pub none_left : (done todo l : List ℕ) (w : ℕ) → l ≡ done ++ todo → w ≡ length done → length l ≤ w → todo ≡ []
none_left done [] l w e f h = refl
none_left done (x ∷ xs) l w e f h = absurd (lt_irrefl w (omega (arith, ap length e, length-append done (x ∷ xs))))

-- What is processed, and what is pending, of the lines.
pub record Split (log : List ℕ) (n : ℕ) (t : Tally) : Type 0 where
  pub done : List ℕ
  pub todo : List ℕ
  pub lines : take n log ≡ done ++ todo
  pub worked : t.worked ≡ length done

-- the lines of a stage
pub stage_lines : (log : List ℕ) (n : ℕ) (t : Tally) → t.worked ≤ n → take n log ≡ take t.worked log ++ drop t.worked (take n log)
stage_lines log n t h =
    sym (take-append-drop t.worked (take n log)) ∙ ap (λ (k : List ℕ). k ++ drop t.worked (take n log)) (take-take t.worked n log h)

pub stage_worked : (log : List ℕ) (n : ℕ) (t : Tally) → t.worked ≤ n → n ≤ length log → t.worked ≡ length (take t.worked log)
stage_worked log n t h l = sym (length-take-le t.worked log (omega arith))

-- so the stage has these
module _ {log : List ℕ} {n : ℕ} {t : Tally} (h : t.worked ≤ n) (p : Split log n t) where
  pub split_done : take t.worked log ≡ p.done
  split_done = sym (take-take t.worked n log h) ∙ ap (take t.worked) p.lines ∙ take_at p.done p.todo t.worked (sym p.worked)

  pub split_todo : drop t.worked (take n log) ≡ p.todo
  split_todo = ap (drop t.worked) p.lines ∙ drop_at p.done p.todo t.worked (sym p.worked)

  pub split_stage : (idle searched : ℕ) → stage_at log n t idle searched ≡ stage p.done p.todo idle searched t.spent
  split_stage idle searched = ap₂ (λ (k l : List ℕ). stage k l idle searched t.spent) split_done split_todo

-- Where the loop stands: what is left from here is what was left at the start.
pub record Stands (d : Theory) (budget : ℕ) (mem₀ log₀ : List ℕ) (n₀ : ℕ) (t₀ : Tally) (mem log : List ℕ) (n : ℕ) (t : Tally) : Type 0 where
  pub reached : Reached d budget mem log n t
  pub grown : Grown mem₀ log₀ n₀ mem log n
  pub same : rest (plain_system d) (no_searches d) budget (stage_at log₀ n₀ t₀ 0 0) ≡ rest (plain_system d) (no_searches d) budget (stage_at log n t 0 0)

module _ (d : Theory) (p : T (proper d)) (budget : ℕ) where
  abbrev s : System
  s = plain_system d

  pub stands_start : {mem log : List ℕ} {n : ℕ} {t : Tally} → Reached d budget mem log n t → Stands d budget mem log n t mem log n t
  stands_start {mem} {log} {n} g = record { reached = g; grown = grown_none mem log n; same = refl }

  module _ (mem₀ log₀ : List ℕ) (n₀ : ℕ) (t₀ : Tally) (mem log : List ℕ) (n : ℕ) (t : Tally) (g : Stands d budget mem₀ log₀ n₀ t₀ mem log n t) where
    abbrev done : List ℕ
    done = take t.worked log

    lines_here : take n log ≡ done ++ drop t.worked (take n log)
    lines_here = stage_lines log n t g.reached.few

    worked_here : t.worked ≡ length done
    worked_here = stage_worked log n t g.reached.few g.reached.logged.inside

    long : length (take n log) ≡ n
    long = length-take-le n log g.reached.logged.inside

    -- no line is left
    pub stands_done : n ≤ t.worked → Lined d budget mem₀ log₀ n₀ t₀ mem log n t
    stands_done h =
        let e : drop t.worked (take n log) ≡ [] = none_left done (drop t.worked (take n log)) (take n log) t.worked lines_here worked_here (omega (arith, long)) in
        record {
          reached = g.reached;
          grown = g.grown;
          same = g.same
              ∙ rest_ended s (no_searches d) (plain_lawful d p) budget (stage_at log n t 0 0) (and_intro _ _ (nil_empty _ e) (le→leb (no_searches d).count 0 (omega (arith, no_searches_lem d))))
              ∙ ap (λ b. outcome b (stage_at log n t 0 0)) (sym (true_of (leb n t.worked) (le→leb _ _ h)));
        }

    module _ (more : t.worked < n) where
      abbrev x : ℕ
      x = next log t

      split : (xs : List ℕ) × (drop t.worked (take n log) ≡ x ∷ xs)
      split =
          let (xs, e) = split_of done (drop t.worked (take n log)) (take n log) t.worked lines_here worked_here (omega (arith, long)) in
          (xs, e ∙ ap (λ z. z ∷ xs) (get_or-take n log t.worked 0 more))

      whole : take n log ≡ done ++ (x ∷ split.0)
      whole = lines_here ∙ ap (λ (k : List ℕ). done ++ k) split.1

      -- where the run stands, by its next line
      abbrev here : Stage
      here = stage done (x ∷ split.0) 0 0 t.spent

      at_line : stage_at log n t 0 0 ≡ here
      at_line = ap (λ (k : List ℕ). stage done k 0 0 t.spent) split.1

      unended : T (empty (x ∷ split.0) and leb (no_searches d).count 0) → ⊥
      unfolding empty
      unended u = and_left _ _ u

      next_member : T (member x (take n log))
      next_member = subst (λ k. T (member x k)) (sym whole) (member_right x done (x ∷ split.0) (member_here x split.0))

      next_small : x < tag_count * (2 * d.atoms)
      unfolding system_of
      next_small = let b : x < tag_count * (2 * d.atoms) = derives_all_below s (unfounded_searches d) [] (take n log) g.reached.logged.derives x next_member in omega arith

      -- the next line, written and not processed
      pub stands_asks : Next d budget mem log n t
      stands_asks =
          record {
            logged = g.reached.logged;
            more = more;
            small = next_small;
            written = g.reached.logged.written x ∙ true_of _ next_member;
            new = g.reached.held x ∙ false_of _ (distinct_apart done x split.0 (subst (λ k. T (distinct k)) whole g.reached.logged.once));
            within = g.reached.within;
          }

      adds_done : (y : ℕ) → adds (held_of mem) x y ≡ member y (done ++ (x ∷ []))
      adds_done y = ap (λ b. b or eqb y x) (g.reached.held y) ∙ member_more done x y

      next_cost : due d mem x ≡ cost_after s done x
      next_cost = ap₂ (λ h k. s.cost h k x) (fun_ext g.reached.held) (fun_ext adds_done)

      module _ (mem' log' : List ℕ) (n' : ℕ) (t' : Tally) (e : Stepped d budget mem log n t mem' log' n' t') where
        -- the cost of the next line does not fit
        stopped_here : budget - t.spent < due d mem x → Lined d budget mem₀ log₀ n₀ t₀ mem log n t
        stopped_here less =
            record {
              reached = g.reached;
              grown = g.grown;
              same = g.same ∙ ap (rest s (no_searches d) budget) at_line
                  ∙ rest_stops s (no_searches d) (plain_lawful d p) budget here unended
                  (subst (λ k. budget - t.spent < k) (next_cost ∙ sym (toll_line s done x split.0)) less)
                  ∙ ap₂ outcome (sym (false_of (leb n t.worked) (λ u. not-le_of_lt more (leb→le _ _ u)))) (sym at_line);
            }

        pub stands_stopped : t'.worked ≡ t.worked → Lined d budget mem₀ log₀ n₀ t₀ mem' log' n' t'
        stands_stopped h =
            let (less, em, el, en, et) = step_stopped e h in
            coe 1 0 (j. Lined d budget mem₀ log₀ n₀ t₀ (em j) (el j) (en j) (et j)) (stopped_here less)

        -- it fits, and was processed
        module _ (h : t'.worked ≡ t.worked → ⊥) where
          abbrev todo : List ℕ
          todo = process s done x split.0

          ew : t'.worked ≡ t.worked + 1
          ew = ap (λ z. z.worked) (step_worked e h).2

          es : t'.spent ≡ t.spent + cost_after s done x
          es = ap (λ z. z.spent) (step_worked e h).2 ∙ ap (λ z. t.spent + z) next_cost

          fit : cost_after s done x ≤ budget - t.spent
          fit = subst (λ z. z ≤ budget - t.spent) next_cost (step_worked e h).0

          later : Split log' n' t'
          later =
              record {
                done = done ++ (x ∷ []);
                todo = todo;
                lines =
                    let k = (step_worked e h).1 in
                    k.lines ∙ ap (λ j. grow s j [] (take n log) (s.tried x)) (fun_ext adds_done)
                    ∙ ap (λ l. grow s (held (done ++ (x ∷ []))) [] l (s.tried x)) (whole ∙ sym (snoc_append done x split.0))
                    ∙ sym (grow_after s (held (done ++ (x ∷ []))) (done ++ (x ∷ [])) split.0 (s.tried x));
                worked = omega (arith, ew, worked_here, length-append done (x ∷ []));
              }

          few' : t'.worked ≤ n'
          few' = let k = (step_worked e h).1 in omega (arith, ew, k.grown.more, more)

          pub stands_next : Stands d budget mem₀ log₀ n₀ t₀ mem' log' n' t'
          unfolding later
          stands_next =
              let k = (step_worked e h).1 in
              record {
                reached =
                    record {
                      logged = k.logged;
                      few = few';
                      held = λ y. k.held y ∙ adds_done y ∙ ap (member y) (sym (split_done few' later));
                      within = omega (arith, es, fit, g.reached.within);
                    };
                grown = grown_on g.grown k.grown;
                same = g.same ∙ ap (rest s (no_searches d) budget) at_line
                    ∙ rest_goes s (no_searches d) (plain_lawful d p) budget here
                    (goes_intro s (no_searches d) budget here unended (subst (λ z. z ≤ budget - t.spent) (sym (toll_line s done x split.0)) fit))
                    ∙ ap (rest s (no_searches d) budget) (step_line s (no_searches d) done x split.0 0 0 t.spent ∙ ap (stage (done ++ (x ∷ [])) todo 0 0) (sym es) ∙ sym (split_stage few' later 0 0));
              }

          pub stands_less : t'.worked ≡ t.worked + 1
          stands_less = ew

-- the same of a table that is the other
pub lined_by : {t u : Table} {budget : ℕ} {m l m' l' : List ℕ} {n n' : ℕ} {a z : Tally} → u ≡ t → Lined (theory_said u) budget m l n a m' l' n' z
    → Lined (theory_said t) budget m l n a m' l' n' z
lined_by {budget = budget} {m} {l} {m'} {l'} {n} {n'} {a} {z} e f = subst (λ k. Lined (theory_said k) budget m l n a m' l' n' z) e f

pub reached_by : {t u : Table} {budget : ℕ} {m l : List ℕ} {n : ℕ} {a : Tally} → u ≡ t → Reached (theory_said t) budget m l n a → Reached (theory_said u) budget m l n a
reached_by {budget = budget} {m} {l} {n} {a} e f = subst (λ k. Reached (theory_said k) budget m l n a) (sym e) f
