-- The worklist run under a budget, of any lawful closure system with searches: the loop equations, and demands 2 and 3. Assumes nothing.
use Prim.Native.Nat.{ℕ, zero, suc, ◌+◌, ◌-◌, ◌*◌, ◌≤◌, ◌<◌}
use native.Mathlib.Nat.{le_trans, not-le_of_lt, lt_irrefl, zero-mul, suc-mul, mul-suc, mul-add, mul-le-mul_left, mul-le-mul_right, not-suc-le-zero}
use native.Mathlib.Omega.{arith}
use mathlib.Core.Path.{◌≡◌, refl, sym, ◌∙◌, ap, subst}
use mathlib.Core.Logic.{⊎_elim, ◌↔◌}
use mathlib.Core.Bool.{Bool, true, false, cond}
use mathlib.Core.List.{List, [], ◌∷◌, ◌++◌, append-nil, IsPrefix}
use lib.Dec.{T, leb, leb→le, le→leb}
use Rattle.logic.specs.Tests.{◌and◌, member, empty, distinct, total, weigh}
use Rattle.logic.specs.System.{System, Searches, held, Coherent, derives_from, derivation, Derivable, Closed}
use Rattle.logic.specs.Worklist.{Stage, stage, Outcome, outcome, log_of, process, cost_after, costs, costs_from, toll_from, toll, found, step_from, step, ended, goes, proceed, rest, opened, unstarted, run}
use Rattle.logic.specs.Demands.{Demands}
use Rattle.logic.proofs.Tests.{test_cases, cond_true, cond_false, cond_cases, at_most, empty_nil, nil_empty, and_intro, and_left, and_right, or_elim, some_elim, true_of, false_of}
use Rattle.logic.proofs.Lists.{snoc_append, distinct_left, member_here, member_left, member_right}
use Rattle.logic.proofs.Sums.{total_le, total_more, weigh_true, weigh_false, weigh_le, weigh_imply}
use Rattle.logic.proofs.Derivations.{Lawful, derives_front, closed_least}
use Rattle.logic.proofs.Runs.{prefix_refl, prefix_trans, prefix_under, prefix_member, grow_extends, Sound, costs_snoc, toll_line, toll_search, goes_intro, goes_on, goes_not, proceed_steps, proceed_stays, proceed-cases, left, proceed-keeps, proceed_finished, step-cases, initial_sound, found_of, step_sound}

module _ (s : System) (z : Searches) where
  pub run_started : (budget : ℕ) → s.start ≤ budget → run s z budget ≡ rest s z budget (opened s z)
  unfolding run
  run_started budget h = cond_true (leb s.start budget) _ _ (le→leb _ _ h)

  pub run_unstarted : (budget : ℕ) → budget < s.start → run s z budget ≡ unstarted s z
  unfolding run
  run_unstarted budget h = cond_false (leb s.start budget) _ _ (λ t. not-le_of_lt h (leb→le _ _ t))

  -- what holds of every run: by whether the start is paid
  pub run-cases {ℓ} : (Q : Outcome → Type ℓ) (budget : ℕ) → (s.start ≤ budget → Q (rest s z budget (opened s z))) → (budget < s.start → Q (unstarted s z)) → Q (run s z budget)
  run-cases Q budget f g = ⊎_elim (λ h. subst Q (sym (run_started budget h)) (f h)) (λ h. subst Q (sym (run_unstarted budget h)) (g h)) (at_most s.start budget)

  -- a log only grows
  step_extends : (g : Stage) → IsPrefix (g.processed ++ g.pending) ((step s z g).processed ++ (step s z g).pending)
  step_extends g =
      step-cases s z (λ h. h ≡ g) (λ h. IsPrefix (g.processed ++ g.pending) (h.processed ++ h.pending))
      (λ done x xs idle searched spent e. subst (λ h. IsPrefix (h.processed ++ h.pending) ((done ++ (x ∷ [])) ++ process s done x xs)) e
      (subst (λ l. IsPrefix l ((done ++ (x ∷ [])) ++ process s done x xs)) (snoc_append done x xs)
      (prefix_under (done ++ (x ∷ [])) xs _ (grow_extends s _ _ xs (s.tried x)))))
      (λ done idle searched spent e. subst (λ h. IsPrefix (h.processed ++ h.pending) (done ++ found s z idle done)) e
      (prefix_under done [] (found s z idle done) (found s z idle done, refl))) g refl

  pub proceed_extends : (n budget : ℕ) (g : Stage) → IsPrefix (g.processed ++ g.pending) (log_of (proceed s z n budget g))
  proceed_extends n budget =
      proceed-cases s z (λ g o. IsPrefix (g.processed ++ g.pending) (log_of o)) budget (λ g. prefix_refl _)
      (λ g o t q. prefix_trans (g.processed ++ g.pending) ((step s z g).processed ++ (step s z g).pending) (log_of o) (step_extends g) q) n

-- a search is left to make
search_left : (s : System) (z : Searches) (budget : ℕ) (done : List ℕ) (idle searched spent : ℕ) → T (goes s z budget (stage done [] idle searched spent)) → idle < z.count
unfolding empty
search_left s z budget done idle searched spent t =
    ⊎_elim (λ l. absurd ((goes_on s z budget (stage done [] idle searched spent) t).0 (and_intro _ _ tt (le→leb _ _ l)))) (λ l. l) (at_most z.count idle)

-- The steps that a run can still make: between two of them that cost something no more than all searches.
abbrev steps_left : ℕ → ℕ → List ℕ → ℕ → ℕ
steps_left count funds todo idle = suc count * funds + cond (empty todo) (count - idle) 0

-- what is paid leaves fewer steps
paid_less : (k b c : ℕ) → 1 ≤ c → c ≤ b → suc k * (b - c) + suc k ≤ suc k * b
paid_less k b c p f =
    let e : suc k * b ≡ suc k * (b - c) + suc k * c = ap (suc k *◌) (let i : b ≡ (b - c) + c = omega arith in i) ∙ mul-add (suc k) (b - c) c in
    let m : suc k * 1 ≤ suc k * c = mul-le-mul_left (suc k) p in
    let u : suc k * 1 ≡ suc k * 0 + suc k = mul-suc (suc k) 0 in
    omega arith

module _ (s : System) (z : Searches) where
  abbrev measure : ℕ → Stage → ℕ
  measure budget g = steps_left z.count (budget - g.spent) g.pending g.idle

  -- each step spends its toll
  step_spends : (g : Stage) → (step s z g).spent ≡ g.spent + toll s g
  step_spends g =
      step-cases s z (λ h. h ≡ g) (λ h. h.spent ≡ g.spent + toll s g)
      (λ done x xs idle searched spent e. ap (spent +◌) (sym (toll_line s done x xs)) ∙ ap (λ h. h.spent + toll s h) e)
      (λ done idle searched spent e. ap (spent +◌) (sym (toll_search s done)) ∙ ap (λ h. h.spent + toll s h) e) g refl

  module _ (w : Lawful s z) where
    -- and leaves fewer
    line_fewer : (budget : ℕ) (done : List ℕ) (x : ℕ) (xs : List ℕ) (idle searched spent : ℕ) → T (goes s z budget (stage done (x ∷ xs) idle searched spent))
        → measure budget (stage (done ++ (x ∷ [])) (process s done x xs) 0 searched (spent + cost_after s done x)) < measure budget (stage done (x ∷ xs) idle searched spent)
    unfolding empty
    line_fewer budget done x xs idle searched spent t =
        let c : ℕ = cost_after s done x in
        let p : 1 ≤ c = w.positive _ _ x in
        let f : c ≤ budget - spent = subst (λ k. k ≤ budget - spent) (toll_line s done x xs) (goes_on s z budget (stage done (x ∷ xs) idle searched spent) t).1 in
        let e : budget - (spent + c) ≡ budget - spent - c = omega arith in
        let l : suc z.count * (budget - spent - c) + suc z.count ≤ suc z.count * (budget - spent) = paid_less z.count (budget - spent) c p f in
        let i : suc z.count * (budget - (spent + c)) ≡ suc z.count * (budget - spent - c) = ap (suc z.count *◌) e in
        let q : cond (empty (process s done x xs)) (z.count - 0) 0 ≤ z.count =
        cond_cases (λ n. n ≤ z.count) (empty (process s done x xs)) (z.count - 0) 0 (λ _. omega arith) (λ _. omega arith) in
        omega arith

    search_fewer : (budget : ℕ) (done : List ℕ) (idle searched spent : ℕ) → T (goes s z budget (stage done [] idle searched spent))
        → measure budget (stage done (found s z idle done) (cond (empty (found s z idle done)) (suc idle) 0) (suc searched) (spent + s.start))
        < measure budget (stage done [] idle searched spent)
    unfolding empty
    search_fewer budget done idle searched spent t =
        let l : idle < z.count = search_left s z budget done idle searched spent t in
        let m : suc z.count * (budget - (spent + s.start)) ≤ suc z.count * (budget - spent) = mul-le-mul_left (suc z.count) (omega arith) in
        let q : cond (empty (found s z idle done)) (z.count - cond (empty (found s z idle done)) (suc idle) 0) 0 < z.count - idle =
        ⊎_elim
        (λ e. subst (λ b. cond b (z.count - cond b (suc idle) 0) 0 < z.count - idle) (sym (true_of (empty (found s z idle done)) e)) (omega arith))
        (λ e. subst (λ b. cond b (z.count - cond b (suc idle) 0) 0 < z.count - idle) (sym (false_of (empty (found s z idle done)) e)) (omega arith))
        (test_cases (empty (found s z idle done))) in
        omega arith

    step_fewer : (budget : ℕ) (g : Stage) → T (goes s z budget g) → measure budget (step s z g) < measure budget g
    step_fewer budget g t =
        step-cases s z (λ h. (h ≡ g) × T (goes s z budget h)) (λ h. measure budget h < measure budget g)
        (λ done x xs idle searched spent (e, u). subst (λ h. measure budget (stage (done ++ (x ∷ [])) (process s done x xs) 0 searched (spent + cost_after s done x)) < measure budget h) e
        (line_fewer budget done x xs idle searched spent u))
        (λ done idle searched spent (e, u). subst
        (λ h. measure budget (stage done (found s z idle done) (cond (empty (found s z idle done)) (suc idle) 0) (suc searched) (spent + s.start)) < measure budget h) e
        (search_fewer budget done idle searched spent u)) g (refl, t)

    -- so many steps are enough, and so is any larger number
    enough_steps : (n m budget : ℕ) (g : Stage) → measure budget g ≤ n → measure budget g ≤ m → proceed s z n budget g ≡ proceed s z m budget g
    enough_steps zero m budget g a b = proceed_stays s z 0 budget g none ∙ sym (proceed_stays s z m budget g none)
      where
        none : T (goes s z budget g) → ⊥
        none t = let l = step_fewer budget g t in lt_irrefl 0 (omega arith)
    enough_steps (suc n) m budget g a b =
        ⊎_elim (λ t. fits m b t (λ k c e. enough_steps n k budget (step s z g) c e))
        (λ t. proceed_stays s z (suc n) budget g t ∙ sym (proceed_stays s z m budget g t)) (test_cases (goes s z budget g))
      where
        fits : (m : ℕ) → measure budget g ≤ m → T (goes s z budget g)
            → ((k : ℕ) → measure budget (step s z g) ≤ n → measure budget (step s z g) ≤ k → proceed s z n budget (step s z g) ≡ proceed s z k budget (step s z g))
            → proceed s z (suc n) budget g ≡ proceed s z m budget g
        fits zero b t hyp = let l = step_fewer budget g t in absurd (lt_irrefl 0 (omega arith))
        fits (suc m) b t hyp =
            let l = step_fewer budget g t in
            proceed_steps s z n budget g t ∙ hyp m (omega arith) (omega arith) ∙ sym (proceed_steps s z m budget g t)

    -- where it made them it does not go on
    proceed_halts : (n budget : ℕ) (g : Stage) → measure budget g ≤ n → T (goes s z budget (left s z (proceed s z n budget g))) → ⊥
    unfolding proceed
    proceed_halts zero budget g a = λ t. let l = step_fewer budget g t in lt_irrefl 0 (omega arith)
    proceed_halts (suc n) budget g a =
        ⊎_elim
        (λ t. subst (λ o. T (goes s z budget (left s z o)) → ⊥) (sym (proceed_steps s z n budget g t))
        (let l = step_fewer budget g t in proceed_halts n budget (step s z g) (omega arith)))
        (λ t. subst (λ o. T (goes s z budget (left s z o)) → ⊥) (sym (proceed_stays s z (suc n) budget g t)) t) (test_cases (goes s z budget g))

    -- the steps of `rest` are enough
    rest_enough : (budget : ℕ) (g : Stage) → measure budget g ≤ suc z.count * (budget - g.spent) + z.count
    rest_enough budget g =
        let q : cond (empty g.pending) (z.count - g.idle) 0 ≤ z.count =
        cond_cases (λ n. n ≤ z.count) (empty g.pending) (z.count - g.idle) 0 (λ _. omega arith) (λ _. omega arith) in
        omega arith

    pub rest_halts : (budget : ℕ) (g : Stage) → T (goes s z budget (left s z (rest s z budget g))) → ⊥
    rest_halts budget g = proceed_halts _ budget g (rest_enough budget g)

    -- the loop equations: it goes on; it has ended; the next step does not fit
    pub rest_goes : (budget : ℕ) (g : Stage) → T (goes s z budget g) → rest s z budget g ≡ rest s z budget (step s z g)
    rest_goes budget g t =
        let n : ℕ = suc z.count * (budget - g.spent) + z.count in
        let a = rest_enough budget g in let b = rest_enough budget (step s z g) in let l = step_fewer budget g t in
        enough_steps n (suc n) budget g a (omega arith) ∙ proceed_steps s z n budget g t
        ∙ enough_steps n (suc z.count * (budget - (step s z g).spent) + z.count) budget (step s z g) (omega arith) b

    pub rest_ended : (budget : ℕ) (g : Stage) → T (ended s z g) → rest s z budget g ≡ outcome true g
    rest_ended budget g t =
        proceed_stays s z _ budget g (λ u. (goes_on s z budget g u).0 t) ∙ ap (λ b. outcome b g) (true_of (ended s z g) t)

    pub rest_stops : (budget : ℕ) (g : Stage) → (T (ended s z g) → ⊥) → budget - g.spent < toll s g → rest s z budget g ≡ outcome false g
    rest_stops budget g n h =
        proceed_stays s z _ budget g (λ u. not-le_of_lt h (goes_on s z budget g u).1) ∙ ap (λ b. outcome b g) (false_of (ended s z g) n)

    -- a line is processed as in a run without searches
    line_alike : (y : Searches) → y.count ≡ 0 → (budget : ℕ) (done todo : List ℕ) (i n spent : ℕ) → T (goes s y budget (stage done todo i n spent))
        → (idle searched : ℕ) → ((T (empty todo) → ⊥) → idle ≡ 0)
        → (idle ≡ 0) × (rest s z budget (stage done todo idle searched spent)
        ≡ rest s z budget (stage (step_from s y done todo i n spent).processed (step_from s y done todo i n spent).pending idle searched (step_from s y done todo i n spent).spent))
    unfolding step_from empty ◌and◌
    line_alike y none budget done [] i n spent t idle searched q = absurd (not-suc-le-zero (subst (λ k. i < k) none (search_left s y budget done i n spent t)))
    line_alike y none budget done (x ∷ xs) i n spent t idle searched q =
        let zero_idle : idle ≡ 0 = q (λ u. u) in (
          zero_idle,
          rest_goes budget (stage done (x ∷ xs) idle searched spent)
              (goes_intro s z budget (stage done (x ∷ xs) idle searched spent) (λ u. u) (goes_on s y budget (stage done (x ∷ xs) i n spent) t).1)
              ∙ ap (λ k. rest s z budget (stage (done ++ (x ∷ [])) (process s done x xs) k searched (spent + cost_after s done x))) (sym zero_idle),
        )

    -- so until none is left, or the next does not fit
    pub rest_lines : (y : Searches) → y.count ≡ 0 → (n budget : ℕ) (g : Stage) (idle searched : ℕ) → ((T (empty g.pending) → ⊥) → idle ≡ 0)
        → rest s z budget (stage g.processed g.pending idle searched g.spent)
        ≡ rest s z budget (stage (proceed s y n budget g).processed (proceed s y n budget g).pending idle searched (proceed s y n budget g).spent)
    rest_lines y none n budget =
        proceed-cases s y
        (λ g o. (idle searched : ℕ) → ((T (empty g.pending) → ⊥) → idle ≡ 0)
        → rest s z budget (stage g.processed g.pending idle searched g.spent) ≡ rest s z budget (stage o.processed o.pending idle searched o.spent)) budget
        (λ g idle searched q. refl)
        (λ g o t hyp idle searched q.
        let (none-idle, e) = line_alike y none budget g.processed g.pending g.idle g.searched g.spent t idle searched q in e ∙ hyp idle searched (λ _. none-idle)) n

    -- a smaller budget's log is a prefix
    rest_prefix : (n less more : ℕ) → less ≤ more → (g : Stage) → IsPrefix (log_of (proceed s z n less g)) (log_of (rest s z more g))
    rest_prefix n less more l =
        proceed-cases s z (λ g o. IsPrefix (log_of o) (log_of (rest s z more g))) less
        (λ g. proceed_extends s z (suc z.count * (more - g.spent) + z.count) more g)
        (λ g o t q. let (e, f) = goes_on s z less g t in
        subst (λ r. IsPrefix (log_of o) (log_of r)) (sym (rest_goes more g (goes_intro s z more g e (le_trans f (omega arith))))) q) n

    pub run_prefix : (less more : ℕ) → less ≤ more → IsPrefix (log_of (run s z less)) (log_of (run s z more))
    run_prefix less more l =
        run-cases s z (λ o. IsPrefix (log_of o) (log_of (run s z more))) less
        (λ h. subst (λ r. IsPrefix (log_of (rest s z less (opened s z))) (log_of r)) (sym (run_started s z more (le_trans h l)))
        (rest_prefix _ less more l (opened s z)))
        (λ _. (log_of (run s z more), refl))

    -- a run whose start is paid
    abbrev started : ℕ → Outcome
    started budget = rest s z budget (opened s z)

    started-keeps {ℓ} : (P : Stage → Type ℓ) (budget : ℕ) → ((g : Stage) → T (goes s z budget g) → P g → P (step s z g)) → P (opened s z) → P (left s z (started budget))
    started-keeps P budget next p = proceed-keeps s z P budget next _ (opened s z) p

    started_sound : (budget : ℕ) → Sound s z (left s z (started budget))
    started_sound budget = started-keeps (Sound s z) budget (step_sound s z w budget) (initial_sound s z w)

    started_sum : (budget : ℕ) → (started budget).spent ≡ s.start + costs s (started budget).processed + (started budget).searched * s.start
    unfolding costs_from
    started_sum budget =
        started-keeps (λ g. g.spent ≡ s.start + costs s g.processed + g.searched * s.start) budget
        (λ g t. step-cases s z (λ h. h.spent ≡ s.start + costs s h.processed + h.searched * s.start) (λ h. h.spent ≡ s.start + costs s h.processed + h.searched * s.start)
        (λ done x xs idle searched spent e. let more : costs s (done ++ (x ∷ [])) ≡ costs s done + cost_after s done x = costs_snoc s done x in omega arith)
        (λ done idle searched spent e. let more : suc searched * s.start ≡ searched * s.start + s.start = suc-mul searched s.start in omega arith) g)
        (let none : 0 * s.start ≡ 0 = zero-mul s.start in omega arith)

    started_within : (budget : ℕ) → s.start ≤ budget → (started budget).spent ≤ budget
    started_within budget =
        started-keeps (λ g. g.spent ≤ budget) budget (λ g t l. let e = step_spends g in let f = (goes_on s z budget g t).1 in omega arith)

    started_stops : (budget : ℕ) → s.start ≤ budget → (T (started budget).finished → ⊥) → budget < (started budget).spent + toll s (left s z (started budget))
    started_stops budget h n =
        let o = started budget in
        let l : budget - o.spent < toll s (left s z o) =
        goes_not s z budget (left s z o) (rest_halts budget (opened s z))
        (λ t. n (subst T (sym (proceed_finished s z _ budget (opened s z))) t)) in
        let i = started_within budget h in
        omega arith

    -- the log is a derivation
    pub run_derives : (budget : ℕ) → T (derivation s z (log_of (run s z budget)))
    unfolding derives_from
    run_derives budget = run-cases s z (λ o. T (derivation s z (log_of o))) budget (λ _. (started_sound budget).derives) (λ _. tt)

    -- what an idle search finds over the log is there
    Idle : Outcome → Type 0
    Idle o = (i x : ℕ) → i < o.idle → x < s.conclusions → T (z.finds i (held (log_of o)) x) → T (member x (log_of o))

    started_idle : (budget : ℕ) → Idle (started budget)
    unfolding Idle
    started_idle budget i x h b t =
        let o = started budget in let k = started_sound budget in
        let e : o.pending ≡ [] = ⊎_elim (empty_nil o.pending) (λ n. absurd (lt_irrefl 0 (let q = k.quiet n in omega arith))) (test_cases (empty o.pending)) in
        let whole : log_of o ≡ o.processed = ap (λ (l : List ℕ). o.processed ++ l) e ∙ append-nil o.processed in
        subst (λ l. T (member x l)) (sym whole) (k.nothing i x h b (subst (λ l. T (z.finds i (held l) x)) whole t))

    -- where it has ended
    started_ends : (budget : ℕ) → T (started budget).finished → ((started budget).pending ≡ []) × (z.count ≤ (started budget).idle)
    started_ends budget t =
        let u = subst T (proceed_finished s z (suc z.count * (budget - s.start) + z.count) budget (opened s z)) t in
        (empty_nil (started budget).pending (and_left _ _ u), leb→le _ _ (and_right _ _ u))

    started_closed : (budget : ℕ) → T (started budget).finished → Closed s z (held (log_of (started budget)))
    unfolding Idle
    started_closed budget t x b y =
        let o = started budget in let (e, c) = started_ends budget t in
        let whole : log_of o ≡ o.processed = ap (λ (l : List ℕ). o.processed ++ l) e ∙ append-nil o.processed in
        ⊎_elim (λ u. (started_sound budget).closed x b (subst (λ l. T (s.infers (held l) x)) whole u))
        (λ u. let (i, h, v) = some_elim _ _ u in started_idle budget i x (le_trans h c) b v) (or_elim _ _ y)

    pub run_closed : (budget : ℕ) → T (run s z budget).finished → Closed s z (held (log_of (run s z budget)))
    run_closed budget = run-cases s z (λ o. T o.finished → Closed s z (held (log_of o))) budget (λ _. started_closed budget) (λ _ t. absurd t)

    -- a finished run's log holds exactly what is derivable
    pub run_exact : (budget : ℕ) → T (run s z budget).finished → (x : ℕ) → T (member x (log_of (run s z budget))) ↔ Derivable s z x
    run_exact budget t x = (
      λ m. (log_of (run s z budget), run_derives budget, m),
      λ (l, u, m). closed_least s z w (held (log_of (run s z budget))) (run_closed budget t) l u x m,
    )

-- A weight of what is held: each cost is its growth. A share for each conclusion: of one that search i finds, above i, so that it pays for the
-- searches that were idle before it was found, and for its own. Neither exceeds what `most` leaves past the start.
pub record Weighed (s : System) (z : Searches) (most : ℕ) : Type 0 where
  pub weight : (ℕ → Bool) → ℕ
  pub nothing : weight (held []) ≡ 0
  pub growth : (l : List ℕ) (x : ℕ) → T (derivation s z (l ++ (x ∷ []))) → T (distinct (l ++ (x ∷ []))) → weight (held (l ++ (x ∷ []))) ≡ weight (held l) + cost_after s l x
  pub share : ℕ → ℕ
  pub shared : (i : ℕ) (h : ℕ → Bool) (x : ℕ) → i < z.count → T (z.finds i h x) → i < share x
  pub limit : (l : List ℕ) → T (derivation s z l) → s.start + weight (held l) + (total s.conclusions share + z.count) * s.start ≤ most

module _ (s : System) (z : Searches) (w : Lawful s z) (most : ℕ) (v : Weighed s z most) where
  -- the next of what is pending goes on the derivation
  next_derives : (done : List ℕ) (x : ℕ) (xs : List ℕ) (idle searched spent : ℕ) → Sound s z (stage done (x ∷ xs) idle searched spent)
      → T (derivation s z (done ++ (x ∷ []))) × T (distinct (done ++ (x ∷ [])))
  next_derives done x xs idle searched spent k = (
    derives_front s z [] (done ++ (x ∷ [])) xs (subst (λ l. T (derivation s z l)) (sym (snoc_append done x xs)) k.derives),
    distinct_left (done ++ (x ∷ [])) xs (subst (λ l. T (distinct l)) (sym (snoc_append done x xs)) k.once),
  )

  next_weight : (done : List ℕ) (x : ℕ) (xs : List ℕ) (idle searched spent : ℕ) → Sound s z (stage done (x ∷ xs) idle searched spent)
      → v.weight (held (done ++ (x ∷ []))) ≡ v.weight (held done) + cost_after s done x
  next_weight done x xs idle searched spent k = let (t, u) = next_derives done x xs idle searched spent k in v.growth done x t u

  -- the shares of what is written
  shares : List ℕ → ℕ
  shares l = total s.conclusions (λ x. weigh (member x l) (v.share x))

  shares_more : (l m : List ℕ) → IsPrefix l m → shares l ≤ shares m
  unfolding shares
  shares_more l m p = total_le s.conclusions _ _ (λ x _. weigh_imply (member x l) (member x m) (v.share x) (prefix_member l m p x))

  -- a search that adds something finds a conclusion that pays for it
  shares_found : (done : List ℕ) (i : ℕ) (x : ℕ) (xs : List ℕ) → i < z.count → found s z i done ≡ x ∷ xs → shares done + suc i ≤ shares (done ++ (x ∷ xs))
  unfolding shares
  shares_found done i x xs c e =
      let (b, t, n) = found_of s z w i done x (subst (λ l. T (member x l)) (sym e) (member_here x xs)) in
      let p : i < v.share x = v.shared i (held done) x c t in
      total_more s.conclusions (λ y. weigh (member y done) (v.share y)) (λ y. weigh (member y (done ++ (x ∷ xs))) (v.share y)) x (suc i) b
      (λ y _. weigh_imply (member y done) (member y (done ++ (x ∷ xs))) (v.share y) (member_left y done (x ∷ xs)))
      (let a : weigh (member x done) (v.share x) ≡ 0 = weigh_false _ _ n in
      let f : weigh (member x (done ++ (x ∷ xs))) (v.share x) ≡ v.share x = weigh_true _ _ (member_right x done (x ∷ xs) (member_here x xs)) in omega arith)

  -- Where a run stands by its weight: spent is the start, the weight of what is processed, and the start for each search, of which there are no
  -- more than the shares and the idle ones.
  record Paid (g : Stage) : Type 0 where
    sound : Sound s z g
    sum : g.spent ≡ s.start + v.weight (held g.processed) + g.searched * s.start
    paid : g.searched ≤ shares (g.processed ++ g.pending) + g.idle
    few : g.idle ≤ z.count

  line_paid : (done : List ℕ) (x : ℕ) (xs : List ℕ) (idle searched spent : ℕ) → Sound s z (stage (done ++ (x ∷ [])) (process s done x xs) 0 searched (spent + cost_after s done x))
      → Paid (stage done (x ∷ xs) idle searched spent) → Paid (stage (done ++ (x ∷ [])) (process s done x xs) 0 searched (spent + cost_after s done x))
  unfolding empty
  line_paid done x xs idle searched spent k p =
      record {
        sound = k;
        sum = let e = next_weight done x xs idle searched spent p.sound in let f = p.sum in omega arith;
        paid = let e : idle ≡ 0 = p.sound.quiet (λ t. t) in let f = p.paid in
            let l = shares_more (done ++ (x ∷ xs)) ((done ++ (x ∷ [])) ++ process s done x xs) (log_extends done x xs) in omega arith;
        few = omega arith;
      }
    where
      log_extends : (done : List ℕ) (x : ℕ) (xs : List ℕ) → IsPrefix (done ++ (x ∷ xs)) ((done ++ (x ∷ [])) ++ process s done x xs)
      log_extends done x xs =
          subst (λ l. IsPrefix l ((done ++ (x ∷ [])) ++ process s done x xs)) (snoc_append done x xs)
          (prefix_under (done ++ (x ∷ [])) xs _ (grow_extends s _ _ xs (s.tried x)))

  search_paid : (done : List ℕ) (idle searched spent : ℕ) → idle < z.count → (new : List ℕ) → found s z idle done ≡ new
      → Sound s z (stage done new (cond (empty new) (suc idle) 0) (suc searched) (spent + s.start))
      → Paid (stage done [] idle searched spent) → Paid (stage done new (cond (empty new) (suc idle) 0) (suc searched) (spent + s.start))
  unfolding empty
  search_paid done idle searched spent c [] e k p =
      record {
        sound = k;
        sum = let f = p.sum in let m : suc searched * s.start ≡ searched * s.start + s.start = suc-mul searched s.start in omega arith;
        paid = let f = p.paid in omega arith;
        few = c;
      }
  search_paid done idle searched spent c (x ∷ xs) e k p =
      record {
        sound = k;
        sum = let f = p.sum in let m : suc searched * s.start ≡ searched * s.start + s.start = suc-mul searched s.start in omega arith;
        paid = let f : searched ≤ shares done + idle = subst (λ l. searched ≤ shares l + idle) (append-nil done) p.paid in
            let l = shares_found done idle x xs c e in omega arith;
        few = omega arith;
      }

  step_paid : (budget : ℕ) (g : Stage) → T (goes s z budget g) → Paid g → Paid (step s z g)
  step_paid budget g t p =
      step-cases s z (λ h. Paid h × T (goes s z budget h)) (λ h. Sound s z h → Paid h)
      (λ done x xs idle searched spent (q, _) k. line_paid done x xs idle searched spent k q)
      (λ done idle searched spent (q, u) k. search_paid done idle searched spent (search_left s z budget done idle searched spent u) (found s z idle done) refl k q)
      g (p, t) (step_sound s z w budget g t p.sound)

  started_paid : (budget : ℕ) → Paid (left s z (started s z w budget))
  started_paid budget =
      started-keeps s z w Paid budget (step_paid budget)
      (record {
        sound = initial_sound s z w;
        sum = let n = v.nothing in let m : 0 * s.start ≡ 0 = zero-mul s.start in omega arith;
        paid = omega arith;
        few = omega arith;
      })

  -- no more searches than all shares and all idle ones; and, as long as not all are idle, one more
  all_shares : ℕ
  all_shares = total s.conclusions v.share + z.count

  searches_most : (n : ℕ) (g : Stage) → Paid g → n + g.idle ≤ z.count → (n + g.searched) * s.start ≤ all_shares * s.start
  unfolding shares all_shares
  searches_most n g p h =
      mul-le-mul_right s.start
      (let a = p.paid in let l : shares (g.processed ++ g.pending) ≤ total s.conclusions v.share = total_le s.conclusions _ v.share (λ x _. weigh_le _ _) in omega arith)

  limit_of : (l : List ℕ) → T (derivation s z l) → s.start + v.weight (held l) + all_shares * s.start ≤ most
  unfolding all_shares
  limit_of = v.limit

  -- spent is the start, the weight of what is processed, and the start for each search
  pub run_weight : (budget : ℕ) → s.start ≤ budget → (run s z budget).spent ≡ s.start + v.weight (held (run s z budget).processed) + (run s z budget).searched * s.start
  run_weight budget h =
      run-cases s z (λ o. o.spent ≡ s.start + v.weight (held o.processed) + o.searched * s.start) budget (λ _. (started_paid budget).sum) (λ l. absurd (not-le_of_lt l h))

  started_bounded : (budget : ℕ) → (started s z w budget).spent ≤ most
  started_bounded budget =
      let o = started s z w budget in let p = started_paid budget in
      let l = limit_of o.processed (derives_front s z [] o.processed o.pending p.sound.derives) in
      let m : (0 + o.searched) * s.start ≤ all_shares * s.start = searches_most 0 (left s z o) p (let a = p.few in omega arith) in
      let i : (0 + o.searched) * s.start ≡ o.searched * s.start = ap (λ k. k * s.start) (let j : 0 + o.searched ≡ o.searched = omega arith in j) in
      let e = p.sum in
      omega arith

  -- within the bound the next step fits
  line_fits : (done : List ℕ) (x : ℕ) (xs : List ℕ) (idle searched spent : ℕ) → Paid (stage done (x ∷ xs) idle searched spent) → spent + cost_after s done x ≤ most
  line_fits done x xs idle searched spent p =
      let l = limit_of (done ++ (x ∷ [])) (next_derives done x xs idle searched spent p.sound).0 in
      let a = next_weight done x xs idle searched spent p.sound in
      let m : (0 + searched) * s.start ≤ all_shares * s.start = searches_most 0 (stage done (x ∷ xs) idle searched spent) p (let b = p.few in omega arith) in
      let i : (0 + searched) * s.start ≡ searched * s.start = ap (λ k. k * s.start) (let j : 0 + searched ≡ searched = omega arith in j) in
      let e = p.sum in
      omega arith

  search_fits : (done : List ℕ) (idle searched spent : ℕ) → idle < z.count → Paid (stage done [] idle searched spent) → spent + s.start ≤ most
  search_fits done idle searched spent c p =
      let l = limit_of done (subst (λ k. T (derivation s z k)) (append-nil done) p.sound.derives) in
      let m : (1 + searched) * s.start ≤ all_shares * s.start = searches_most 1 (stage done [] idle searched spent) p (omega arith) in
      let i : (1 + searched) * s.start ≡ searched * s.start + s.start = ap (λ k. k * s.start) (let j : 1 + searched ≡ suc searched = omega arith in j) ∙ suc-mul searched s.start in
      let e = p.sum in
      omega arith

  toll_fits : (g : Stage) → Paid g → (T (ended s z g) → ⊥) → g.spent + toll s g ≤ most
  unfolding empty
  toll_fits g = go g.processed g.pending g.idle g.searched g.spent
    where
      go : (done todo : List ℕ) (idle searched spent : ℕ) → Paid (stage done todo idle searched spent) → (T (ended s z (stage done todo idle searched spent)) → ⊥)
          → spent + toll_from s done todo ≤ most
      go done [] idle searched spent p n =
          subst (λ k. spent + k ≤ most) (sym (toll_search s done)) (search_fits done idle searched spent
          (⊎_elim (λ l. absurd (n (and_intro _ _ tt (le→leb _ _ l)))) (λ l. l) (at_most z.count idle)) p)
      go done (x ∷ xs) idle searched spent p n = subst (λ k. spent + k ≤ most) (sym (toll_line s done x xs)) (line_fits done x xs idle searched spent p)

  started_finishes : (budget : ℕ) → s.start ≤ budget → most ≤ budget → T (started s z w budget).finished
  started_finishes budget h m =
      ⊎_elim (λ t. t)
      (λ n. let o = started s z w budget in
      let f = toll_fits (left s z o) (started_paid budget) (λ t. n (subst T (sym (proceed_finished s z _ budget (opened s z))) t)) in
      let l = started_stops s z w budget h n in
      absurd (lt_irrefl budget (omega arith)))
      (test_cases (started s z w budget).finished)

  -- Demands 2 and 3, for every budget.
  pub demands : ((l : List ℕ) → T (derivation s z l) → Coherent (held l)) → (plenty : ℕ) → s.start ≤ plenty → most ≤ plenty → (budget : ℕ) → Demands s z most plenty budget
  unfolding distinct Idle
  demands coherent plenty a b budget =
      record {
        is_derivation = run_derives s z w budget;
        once = run-cases s z (λ o. T (distinct (log_of o))) budget (λ _. (started_sound s z w budget).once) (λ _. tt);
        exact = run_exact s z w budget;
        closed = run_closed s z w budget;
        least = λ h c x m. closed_least s z w h c (log_of (run s z budget)) (run_derives s z w budget) x m;
        coherent = coherent (log_of (run s z budget)) (run_derives s z w budget);
        finishes = run-cases s z (λ o. T o.finished ↔ ((s.start ≤ budget) × (o.pending ≡ []) × (z.count ≤ o.idle))) budget
            (λ h. (λ t. let (e, c) = started_ends s z w budget t in (h, e, c), λ (_, e, c). ends e c))
            (λ h. (λ t. absurd t, λ p. absurd (not-le_of_lt h p.0)));
        searched_all = run-cases s z (Idle s z w) budget (λ _. started_idle s z w budget) (λ _ i x h. absurd (not-suc-le-zero h));
        sum = run-cases s z (λ o. o.spent ≡ cond (leb s.start budget) (s.start + costs s o.processed + o.searched * s.start) 0) budget
            (λ h. started_sum s z w budget ∙ sym (cond_true (leb s.start budget) _ _ (le→leb _ _ h)))
            (λ h. sym (cond_false (leb s.start budget) _ _ (λ t. not-le_of_lt h (leb→le _ _ t))));
        within = run-cases s z (λ o. o.spent ≤ budget) budget (started_within s z w budget) (λ _. omega arith);
        stops = λ h. run-cases s z (λ o. (T o.finished → ⊥) → budget < o.spent + toll_from s o.processed o.pending) budget
            (started_stops s z w budget) (λ l. absurd (not-le_of_lt l h));
        prefix = run_prefix s z w;
        bounded = run-cases s z (λ o. o.spent ≤ most) budget (λ _. started_bounded budget) (λ _. omega arith);
        enough = λ p. run-cases s z (λ o. T o.finished) budget (λ h. started_finishes budget h (le_trans b p)) (λ l. absurd (not-le_of_lt l (le_trans a p)));
      }
    where
      ends : (started s z w budget).pending ≡ [] → z.count ≤ (started s z w budget).idle → T (started s z w budget).finished
      ends e c =
          subst T (sym (proceed_finished s z (suc z.count * (budget - s.start) + z.count) budget (opened s z)))
          (and_intro _ _ (nil_empty _ e) (le→leb _ _ c))
