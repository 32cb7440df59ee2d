-- The worklist run of any lawful closure system with searches: what each step keeps. Assumes nothing.
use Prim.Native.Nat.{ℕ, zero, suc, ◌+◌, ◌-◌, ◌≤◌, ◌<◌}
use native.Mathlib.Nat.{not-suc-le-zero}
use native.Mathlib.Omega.{arith}
use mathlib.Core.Path.{◌≡◌, refl, sym, ◌∙◌, ap, subst}
use mathlib.Core.Logic.{⊎_elim}
use mathlib.Core.Bool.{Bool, true, false, cond}
use mathlib.Core.List.{List, [], ◌∷◌, ◌++◌, append_assoc, append-nil, IsPrefix}
use lib.Dec.{T, leb, leb→le, le→leb}
use Rattle.logic.specs.Tests.{◌and◌, isnt, member, empty, distinct}
use Rattle.logic.specs.System.{System, Searches, held, yields, derives_from, derivation}
use Rattle.logic.specs.Worklist.{Stage, stage, Outcome, outcome, put, initial, grow, process, cost_after, costs_from, costs, toll_from, toll, found, step_from, step, ended, goes, step_if, proceed, opened}
use Rattle.logic.proofs.Tests.{test_cases, true_of, false_of, cond_true, cond_false, at_most, empty_nil, and_intro, and_left, and_right, or_left, or_right, isnt_intro, isnt_elim, some_intro, lt_suc_cases}
use Rattle.logic.proofs.Lists.{member_nil, member_here, member_there, member_left, member_right, member_cons_elim, member_snoc, member_last, snoc_append, distinct_snoc, distinct_append, distinct_pick, distinct_upto, member_pick, member_pick_intro, member_upto, member_upto_intro}
use Rattle.logic.proofs.Derivations.{Lawful, monotone, yields_more, derives_next, derives_append, derivation_snoc, derives_all_below}

pub prefix_refl : (l : List ℕ) → IsPrefix l l
prefix_refl l = ([], append-nil l)

pub prefix_trans : (l m n : List ℕ) → IsPrefix l m → IsPrefix m n → IsPrefix l n
prefix_trans l m n (r, e) (q, f) = (r ++ q, sym (append_assoc l r q) ∙ ap (λ (k : List ℕ). k ++ q) e ∙ f)

pub prefix_under : (k l m : List ℕ) → IsPrefix l m → IsPrefix (k ++ l) (k ++ m)
prefix_under k l m (r, e) = (r, append_assoc k l r ∙ ap (λ (n : List ℕ). k ++ n) e)

pub prefix_member : (l m : List ℕ) → IsPrefix l m → (x : ℕ) → T (member x l) → T (member x m)
prefix_member l m (r, e) x t = subst (λ k. T (member x k)) e (member_left x l r t)

put_extends : (b : Bool) (l : List ℕ) (x : ℕ) → IsPrefix l (put b l x)
unfolding put
put_extends true l x = (x ∷ [], refl)
put_extends false l x = prefix_refl l

put_holds : (b : Bool) (done todo : List ℕ) (x : ℕ) → ((T b → ⊥) → T (member x (done ++ todo))) → T (member x (done ++ put b todo x))
unfolding put
put_holds true done todo x f = member_right x done _ (member_last todo x)
put_holds false done todo x f = f (λ t. t)

module _ (s : System) where
  pub grow_extends : (h : ℕ → Bool) (done todo cs : List ℕ) → IsPrefix todo (grow s h done todo cs)
  unfolding grow
  grow_extends h done todo [] = prefix_refl todo
  grow_extends h done todo (c ∷ cs) = prefix_trans todo _ _ (put_extends _ todo c) (grow_extends h done (put (s.infers h c and isnt (member c (done ++ todo))) todo c) cs)

  -- a list tried in two parts
  pub grow_append : (h : ℕ → Bool) (done todo cs ds : List ℕ) → grow s h done todo (cs ++ ds) ≡ grow s h done (grow s h done todo cs) ds
  unfolding grow
  grow_append h done todo [] ds = refl
  grow_append h done todo (c ∷ cs) ds = grow_append h done (put (s.infers h c and isnt (member c (done ++ todo))) todo c) cs ds

  -- the sum of costs grows at its end
  pub costs_from_snoc : (e l : List ℕ) (x : ℕ) → costs_from s e (l ++ (x ∷ [])) ≡ costs_from s e l + cost_after s (e ++ l) x
  unfolding costs_from
  costs_from_snoc e [] x =
      let here : cost_after s e x ≡ cost_after s (e ++ []) x = ap (λ k. cost_after s k x) (sym (append-nil e)) in
      omega arith
  costs_from_snoc e (y ∷ l) x =
      let more : costs_from s (e ++ (y ∷ [])) (l ++ (x ∷ [])) ≡ costs_from s (e ++ (y ∷ [])) l + cost_after s (e ++ (y ∷ l)) x =
      costs_from_snoc (e ++ (y ∷ [])) l x ∙ ap (λ k. costs_from s (e ++ (y ∷ [])) l + cost_after s k x) (snoc_append e y l) in
      omega arith

  pub costs_snoc : (l : List ℕ) (x : ℕ) → costs s (l ++ (x ∷ [])) ≡ costs s l + cost_after s l x
  costs_snoc l x = costs_from_snoc [] l x

  -- a step, by whether a line is pending
  pub toll_line : (done : List ℕ) (x : ℕ) (xs : List ℕ) → toll_from s done (x ∷ xs) ≡ cost_after s done x
  unfolding toll_from
  toll_line done x xs = refl

  pub toll_search : (done : List ℕ) → toll_from s done [] ≡ s.start
  unfolding toll_from
  toll_search done = refl

module _ (s : System) (z : Searches) where
  pub step_line : (done : List ℕ) (x : ℕ) (xs : List ℕ) (idle searched spent : ℕ)
      → step_from s z done (x ∷ xs) idle searched spent ≡ stage (done ++ (x ∷ [])) (process s done x xs) 0 searched (spent + cost_after s done x)
  unfolding step_from
  step_line done x xs idle searched spent = refl

  pub step_search : (done : List ℕ) (idle searched spent : ℕ)
      → step_from s z done [] idle searched spent
      ≡ stage done (found s z idle done) (cond (empty (found s z idle done)) (suc idle) 0) (suc searched) (spent + s.start)
  unfolding step_from
  step_search done idle searched spent = refl

  -- where a run goes on, and where it does not
  pub goes_intro : (budget : ℕ) (g : Stage) → (T (ended s z g) → ⊥) → toll s g ≤ budget - g.spent → T (goes s z budget g)
  goes_intro budget g n f = and_intro _ _ (isnt_intro _ n) (le→leb _ _ f)

  pub goes_on : (budget : ℕ) (g : Stage) → T (goes s z budget g) → (T (ended s z g) → ⊥) × (toll s g ≤ budget - g.spent)
  goes_on budget g t = (isnt_elim _ (and_left _ _ t), leb→le _ _ (and_right _ _ t))

  pub goes_not : (budget : ℕ) (g : Stage) → (T (goes s z budget g) → ⊥) → (T (ended s z g) → ⊥) → budget - g.spent < toll s g
  goes_not budget g n e = ⊎_elim (λ f. absurd (n (goes_intro budget g e f))) (λ f. f) (at_most (toll s g) (budget - g.spent))

  pub proceed_steps : (n budget : ℕ) (g : Stage) → T (goes s z budget g) → proceed s z (suc n) budget g ≡ proceed s z n budget (step s z g)
  unfolding proceed step_if
  proceed_steps n budget g t = ap (λ b. proceed s z n budget (step_if s z b g)) (true_of (goes s z budget g) t)

  pub proceed_stays : (n budget : ℕ) (g : Stage) → (T (goes s z budget g) → ⊥) → proceed s z n budget g ≡ outcome (ended s z g) g
  unfolding proceed step_if
  proceed_stays zero budget g t = refl
  proceed_stays (suc n) budget g t = ap (λ b. proceed s z n budget (step_if s z b g)) (false_of (goes s z budget g) t) ∙ proceed_stays n budget g t

  -- what holds wherever a run is left, and holds before a step if it holds after it, holds of a run
  pub proceed-cases {ℓ} : (Q : Stage → Outcome → Type ℓ) (budget : ℕ) → ((g : Stage) → Q g (outcome (ended s z g) g))
      → ((g : Stage) (o : Outcome) → T (goes s z budget g) → Q (step s z g) o → Q g o) → (n : ℕ) (g : Stage) → Q g (proceed s z n budget g)
  unfolding proceed
  proceed-cases Q budget end next zero g = end g
  proceed-cases Q budget end next (suc n) g =
      ⊎_elim (λ t. subst (Q g) (sym (proceed_steps n budget g t)) (next g _ t (proceed-cases Q budget end next n (step s z g))))
      (λ t. subst (Q g) (sym (proceed_stays (suc n) budget g t)) (end g)) (test_cases (goes s z budget g))

  -- what each step keeps, a run keeps
  abbrev pub left : Outcome → Stage
  left o = stage o.processed o.pending o.idle o.searched o.spent

  pub proceed-keeps {ℓ} : (P : Stage → Type ℓ) (budget : ℕ) → ((g : Stage) → T (goes s z budget g) → P g → P (step s z g))
      → (n : ℕ) (g : Stage) → P g → P (left (proceed s z n budget g))
  proceed-keeps P budget next = proceed-cases (λ g o. P g → P (left o)) budget (λ g p. p) (λ g o t q p. q (next g t p))

  -- finished exactly if it has ended
  pub proceed_finished : (n budget : ℕ) (g : Stage) → (proceed s z n budget g).finished ≡ ended s z (left (proceed s z n budget g))
  proceed_finished n budget = proceed-cases (λ g o. o.finished ≡ ended s z (left o)) budget (λ g. refl) (λ g o t q. q) n

  -- what holds of every step: of a line's, and of a search's
  pub step-cases {ℓ} : (P : Stage → Type ℓ) (Q : Stage → Type ℓ)
      → ((done : List ℕ) (x : ℕ) (xs : List ℕ) (idle searched spent : ℕ) → P (stage done (x ∷ xs) idle searched spent)
      → Q (stage (done ++ (x ∷ [])) (process s done x xs) 0 searched (spent + cost_after s done x)))
      → ((done : List ℕ) (idle searched spent : ℕ) → P (stage done [] idle searched spent)
      → Q (stage done (found s z idle done) (cond (empty (found s z idle done)) (suc idle) 0) (suc searched) (spent + s.start)))
      → (g : Stage) → P g → Q (step s z g)
  step-cases P Q line search g = go g.processed g.pending g.idle g.searched g.spent
    where
      go : (done todo : List ℕ) (idle searched spent : ℕ) → P (stage done todo idle searched spent) → Q (step_from s z done todo idle searched spent)
      go done [] idle searched spent p = subst Q (sym (step_search done idle searched spent)) (search done idle searched spent p)
      go done (x ∷ xs) idle searched spent p = subst Q (sym (step_line done x xs idle searched spent)) (line done x xs idle searched spent p)

  -- What is processed, then what is pending: a derivation without repeats that holds all that follows from what is processed; nothing is
  -- pending past an idle search, and what an idle search finds is there.
  pub record Sound (g : Stage) : Type 0 where
    pub derives : T (derivation s z (g.processed ++ g.pending))
    pub once : T (distinct (g.processed ++ g.pending))
    pub closed : (x : ℕ) → x < s.conclusions → T (s.infers (held g.processed) x) → T (member x (g.processed ++ g.pending))
    pub quiet : (T (empty g.pending) → ⊥) → g.idle ≡ 0
    pub nothing : (i x : ℕ) → i < g.idle → x < s.conclusions → T (z.finds i (held g.processed) x) → T (member x g.processed)

module _ (s : System) (z : Searches) (w : Lawful s z) where
  Good : List ℕ → List ℕ → Type 0
  Good done todo = T (derivation s z (done ++ todo)) × T (distinct (done ++ todo))

  put_good : (done todo : List ℕ) (c : ℕ) → c < s.conclusions → Good done todo
      → Good done (put (s.infers (held done) c and isnt (member c (done ++ todo))) todo c)
  unfolding Good put
  put_good done todo c b (g, o) = go (s.infers (held done) c and isnt (member c (done ++ todo))) (λ t. t)
    where
      go : (t : Bool) → (T t → T (s.infers (held done) c and isnt (member c (done ++ todo)))) → Good done (put t todo c)
      go false f = (g, o)
      go true f =
          let i : T (s.infers (held (done ++ todo)) c) = monotone s z w (held done) (held (done ++ todo)) c (λ z. member_left z done todo) (and_left _ _ (f tt)) in
          let n : T (member c (done ++ todo)) → ⊥ = isnt_elim _ (and_right _ _ (f tt)) in (
            subst (λ k. T (derivation s z k)) (append_assoc done todo (c ∷ [])) (derivation_snoc s z (done ++ todo) c g b (or_left _ _ i)),
            subst (λ k. T (distinct k)) (append_assoc done todo (c ∷ [])) (distinct_snoc (done ++ todo) c o n),
          )

  grow_good : (done todo cs : List ℕ) → ((c : ℕ) → T (member c cs) → c < s.conclusions) → Good done todo → Good done (grow s (held done) done todo cs)
  unfolding grow
  grow_good done todo [] b g = g
  grow_good done todo (c ∷ cs) b g =
      grow_good done (put (s.infers (held done) c and isnt (member c (done ++ todo))) todo c) cs (λ x m. b x (member_there x c cs m)) (put_good done todo c (b c (member_here c cs)) g)

  -- what was tried and follows is in the log
  grow_holds : (done todo cs : List ℕ) (c : ℕ) → T (member c cs) → T (s.infers (held done) c) → T (member c (done ++ grow s (held done) done todo cs))
  unfolding grow
  grow_holds done todo [] c m t = absurd (member_nil c m)
  grow_holds done todo (y ∷ cs) c m t = ⊎_elim here (λ u. grow_holds done (put (s.infers (held done) y and isnt (member y (done ++ todo))) todo y) cs c u t) (member_cons_elim c y cs m)
    where
      written : T (member c (done ++ put (s.infers (held done) c and isnt (member c (done ++ todo))) todo c))
      written =
          put_holds _ done todo c
          (λ n. ⊎_elim (λ u. u) (λ v. absurd (n (and_intro _ _ t (isnt_intro _ v)))) (test_cases (member c (done ++ todo))))

      here : c ≡ y → T (member c (done ++ grow s (held done) done (put (s.infers (held done) y and isnt (member y (done ++ todo))) todo y) cs))
      here e =
          prefix_member _ _ (prefix_under done _ _ (grow_extends s (held done) done _ cs)) c
          (subst (λ z. T (member c (done ++ put (s.infers (held done) z and isnt (member z (done ++ todo))) todo z))) e written)

  -- the initial conclusions
  all_infer : (e l : List ℕ) → ((x : ℕ) → T (member x l) → (x < s.conclusions) × T (s.infers (held []) x)) → T (derives_from s z e l)
  unfolding derives_from
  all_infer e [] f = tt
  all_infer e (x ∷ l) f =
      let (b, t) = f x (member_here x l) in
      derives_next s z e x l b (or_left _ _ (monotone s z w (held []) (held e) x (λ y m. absurd (member_nil y m)) t))
      (all_infer (e ++ (x ∷ [])) l (λ y m. f y (member_there y x l m)))

  pub initial_sound : Sound s z (opened s z)
  initial_sound =
      record {
        derives = all_infer [] (initial s) (λ x m. let (u, t) = member_pick _ _ x m in (member_upto s.conclusions x u, t));
        once = distinct_pick _ _ (distinct_upto s.conclusions);
        closed = λ x b t. member_pick_intro _ _ x (member_upto_intro s.conclusions x b) t;
        quiet = λ _. refl;
        nothing = λ i x h. absurd (not-suc-le-zero h);
      }

  -- processing a conclusion
  process_sound : (done : List ℕ) (x : ℕ) (xs : List ℕ) (idle searched spent : ℕ) → Sound s z (stage done (x ∷ xs) idle searched spent)
      → Sound s z (stage (done ++ (x ∷ [])) (process s done x xs) 0 searched (spent + cost_after s done x))
  unfolding Good
  process_sound done x xs idle searched spent k =
      record { derives = good.0; once = good.1; closed = closed'; quiet = λ _. refl; nothing = λ i y h. absurd (not-suc-le-zero h) }
    where
      now : List ℕ
      now = done ++ (x ∷ [])

      same : now ++ xs ≡ done ++ (x ∷ xs)
      same = snoc_append done x xs

      below : x < s.conclusions
      below = derives_all_below s z [] (done ++ (x ∷ xs)) k.derives x (member_right x done (x ∷ xs) (member_here x xs))

      good : Good now (process s done x xs)
      good =
          grow_good now xs (s.tried x) (λ c m. w.inside x c below m)
          (subst (λ l. T (derivation s z l)) (sym same) k.derives, subst (λ l. T (distinct l)) (sym same) k.once)

      closed' : (z : ℕ) → z < s.conclusions → T (s.infers (held now) z) → T (member z (now ++ process s done x xs))
      closed' z b t = ⊎_elim (λ m. grow_holds now xs (s.tried x) z m t) untried (test_cases (member z (s.tried x)))
        where
          untried : (T (member z (s.tried x)) → ⊥) → T (member z (now ++ process s done x xs))
          untried n =
              let before : T (s.infers (held done) z) =
              w.local (held now) (held done) z
              (λ y m u. ⊎_elim (λ v. v) (λ e. absurd (n (subst (λ j. T (member z (s.tried j))) e m))) (member_snoc done x y u)) t in
              prefix_member _ _ (prefix_under now xs _ (grow_extends s (held now) now xs (s.tried x))) z
              (subst (λ l. T (member z l)) (sym same) (k.closed z b before))

  -- making a search
  pub found_of : (i : ℕ) (done : List ℕ) (x : ℕ) → T (member x (found s z i done)) → (x < s.conclusions) × T (z.finds i (held done) x) × (T (member x done) → ⊥)
  found_of i done x m =
      let (u, t) = member_pick _ _ x m in (member_upto s.conclusions x u, and_left _ _ t, isnt_elim _ (and_right _ _ t))

  found_all : (i : ℕ) (done : List ℕ) (x : ℕ) → x < s.conclusions → T (z.finds i (held done) x) → T (member x (done ++ found s z i done))
  found_all i done x b t =
      ⊎_elim (λ m. member_left x done _ m)
      (λ n. member_right x done _ (member_pick_intro _ _ x (member_upto_intro s.conclusions x b) (and_intro _ _ t (isnt_intro _ n)))) (test_cases (member x done))

  all_yield : (done e l : List ℕ) → ((x : ℕ) → T (member x done) → T (member x e)) → ((x : ℕ) → T (member x l) → (x < s.conclusions) × T (yields s z (held done) x))
      → T (derives_from s z e l)
  unfolding derives_from
  all_yield done e [] m f = tt
  all_yield done e (x ∷ l) m f =
      let (b, t) = f x (member_here x l) in
      derives_next s z e x l b (yields_more s z w (held done) (held e) x m t)
      (all_yield done (e ++ (x ∷ [])) l (λ y u. member_left y e (x ∷ []) (m y u)) (λ y u. f y (member_there y x l u)))

  search_sound : (done : List ℕ) (idle searched spent : ℕ) → idle < z.count → Sound s z (stage done [] idle searched spent)
      → Sound s z (stage done (found s z idle done) (cond (empty (found s z idle done)) (suc idle) 0) (suc searched) (spent + s.start))
  search_sound done idle searched spent c k =
      record {
        derives = derives_append s z [] done (found s z idle done) derived
            (all_yield done done (found s z idle done) (λ x m. m) (λ x m. let (b, t, _) = found_of idle done x m in (b, or_right _ _ (some_intro _ _ idle c t))));
        once = distinct_append done (found s z idle done) (subst (λ l. T (distinct l)) (append-nil done) k.once)
            (distinct_pick _ _ (distinct_upto s.conclusions)) (λ x m n. (found_of idle done x n).2 m);
        closed = λ x b t. member_left x done _ (subst (λ l. T (member x l)) (append-nil done) (k.closed x b t));
        quiet = λ n. cond_false (empty (found s z idle done)) (suc idle) 0 n;
        nothing = λ i x h b t. ⊎_elim (none i x h b t) (λ n. absurd (not-suc-le-zero (subst (λ j. i < j) (cond_false (empty (found s z idle done)) (suc idle) 0 n) h))) (test_cases (empty (found s z idle done)));
      }
    where
      derived : T (derivation s z done)
      derived = subst (λ l. T (derivation s z l)) (append-nil done) k.derives

      none : (i x : ℕ) → i < cond (empty (found s z idle done)) (suc idle) 0 → x < s.conclusions → T (z.finds i (held done) x) → T (empty (found s z idle done)) → T (member x done)
      none i x h b t e =
          ⊎_elim (λ l. k.nothing i x l b t)
          (λ i≡. subst (λ l. T (member x l)) (append-nil done) (subst (λ l. T (member x (done ++ l))) (empty_nil (found s z idle done) e) (found_all idle done x b (subst (λ j. T (z.finds j (held done) x)) i≡ t))))
          (lt_suc_cases i idle (subst (λ j. i < j) (cond_true (empty (found s z idle done)) (suc idle) 0 e) h))

  -- a run's step
  pub step_sound : (budget : ℕ) (g : Stage) → T (goes s z budget g) → Sound s z g → Sound s z (step s z g)
  unfolding empty
  step_sound budget g t k =
      step-cases s z (λ g. T (goes s z budget g) × Sound s z g) (Sound s z) (λ done x xs idle searched spent (_, q). process_sound done x xs idle searched spent q)
      (λ done idle searched spent (u, q). search_sound done idle searched spent (search_left idle (goes_on s z budget (stage done [] idle searched spent) u).0) q) g (t, k)
    where
      search_left : (idle : ℕ) → (T (true and leb z.count idle) → ⊥) → idle < z.count
      search_left idle n = ⊎_elim (λ l. absurd (n (and_intro _ _ tt (le→leb _ _ l)))) (λ l. l) (at_most z.count idle)
