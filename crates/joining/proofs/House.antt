-- In a join the rules of the house prevail over those of the tour. Assumes nothing.
use Prim.Native.Nat.{ℕ, ◌+◌, ◌-◌, ◌*◌, ◌≤◌, ◌<◌}
use native.Mathlib.Nat.{lt_irrefl}
use native.Mathlib.Omega.{arith}
use mathlib.Core.Path.{◌≡◌, refl, sym, ◌∙◌, ap, ap₂, subst}
use mathlib.Core.Logic.{⊎_elim}
use mathlib.Core.Bool.{Bool}
use mathlib.Core.List.{List, ◌∷◌, [], ◌++◌, map}
use lib.Dec.{T, eqb_refl}
use lib.ListN.{length, length-append, length-map, get_or-append}
use lib.Seq.{get_or-append-add}
use Rattle.logic.specs.Tests.{member}
use Rattle.logic.specs.Theory.{Theory, complement, can_support, kind_of, head_of, body_of, supporter, attacker, superior, proper}
use Rattle.logic.specs.Inference.{−Δ, +∂, all_have, follows}
use Rattle.logic.specs.Worklist.{log_of}
use Rattle.logic.specs.Reading.{conclusion, system_of}
use Rattle.logic.specs.Plain.{plain, plain_system, no_searches, plain_run}
use Rattle.logic.specs.Laws.{logged}
use Rattle.logic.proofs.Tests.{at_most, eq→eqb, and_intro, or_left, or_right, implies_intro, every_intro, some_intro, every_of_intro, every_of_elim}
use Rattle.logic.proofs.Lists.{member_last}
use Rattle.logic.proofs.Literals.{join_div, join_mod, join_below}
use Rattle.logic.proofs.Theories.{heads_below}
use Rattle.logic.proofs.Derivations.{derivation_snoc}
use Rattle.logic.proofs.Inference.{attacker_head}
use Rattle.logic.proofs.Plain.{plain_demands}
use Rattle.table.specs.Format.{kind_meant}
use Rattle.files.specs.Contents.{Content, rule_of, entry_of, later_entry, theory_from}
use Rattle.std.proofs.lemmas.List.{get_or-map}
use Rattle.files.proofs.Theories.{body_place}
use Rattle.joining.specs.Joining.{over, joined}
use Rattle.joining.specs.Prevailing.{Prevails}
use Rattle.joining.proofs.Lists.{places}
use Rattle.joining.proofs.Pairing.{superior_listed}
use Rattle.joining.proofs.Rows.{added_in}

-- what follows from the log of a finished plain run is in it
finished_holds : (d : Theory) → T (proper d) → (budget q t : ℕ) → T (plain_run d budget).finished → q < 2 * d.atoms → t < 4
    → T (follows d (logged plain d budget) q t) → T (logged plain d budget q t)
unfolding system_of
finished_holds d p budget q t f b h u =
    let l : List ℕ = log_of (plain_run d budget) in
    let x : ℕ = conclusion 4 q t in
    ((plain_demands d p budget).exact f x).1 (
      l ++ (x ∷ []),
      derivation_snoc (plain_system d) (no_searches d) l x (plain_demands d p budget).is_derivation (join_below 4 (2 * d.atoms) q t h b)
          (or_left _ _ (subst T (ap₂ (follows d (logged plain d budget)) (sym (join_div 4 q t h)) (sym (join_mod 4 q t h))) u)),
      member_last l x,
    )

-- a rule that fires, is over each attacker, and has −Δ of its head's complement: its head follows
over_all : (d : Theory) (holds : ℕ → ℕ → Bool) (r : ℕ) → r < d.rules → T (can_support (kind_of d r)) → T (all_have d holds +∂ r) → T (holds (complement (head_of d r)) −Δ)
    → ((s : ℕ) → s < d.rules → T (attacker d s (head_of d r)) → T (superior d r s)) → T (follows d holds (head_of d r) +∂)
unfolding follows supporter
over_all d holds r b k a c o =
    let supports : T (supporter d r (head_of d r)) = and_intro _ _ k (eqb_refl (head_of d r)) in
    or_right _ _ (and_intro _ _ (and_intro _ _ (some_intro _ _ r b (and_intro _ _ supports a)) c)
    (every_intro _ _ (λ s l. implies_intro _ _ (λ t. or_right _ _ (some_intro _ _ r b (and_intro _ _ (and_intro _ _ supports a) (o s l t)))))))

module _ (h t : Content) where
  -- a rule of the house is itself in the join, one of the tour stands after them
  house_rule : (r : ℕ) → r < length h.rules → rule_of (joined h t) r ≡ rule_of h r
  house_rule r b = get_or-append h.rules t.rules _ r b

  tour_rule : (r : ℕ) → length h.rules ≤ r → rule_of (joined h t) r ≡ rule_of t (r - length h.rules)
  tour_rule r b =
      let e : r ≡ length h.rules + (r - length h.rules) = omega arith in
      ap (rule_of (joined h t)) e ∙ get_or-append-add h.rules t.rules (r - length h.rules) _

  -- and it has no more antecedents
  house_body : (r q : ℕ) → r < length h.rules → T (member q (body_of (theory_from (joined h t)) r)) → T (member q (body_of (theory_from h) r))
  house_body r q b m =
      let (i, v, w, e) = (body_place (joined h t) r q).0 m in
      ⊎_elim (λ k. (body_place h r q).1 (i, k.0, ap (λ z. z.rule) (sym k.1) ∙ w, ap (λ z. z.literal.0) (sym k.1) ∙ e))
      (λ k. let (j, x, _, f) = k in
      let at : (entry_of (joined h t) i).rule ≡ length h.rules + (entry_of t j).rule =
      ap (λ z. z.rule) (f ∙ get_or-map (later_entry (length h.rules)) t.entries j _ _ (subst (λ z. j < z) (length-map t.entries _) x)) in
      absurd (lt_irrefl r (omega (arith, at, w))))
      (places h.entries (map (later_entry (length h.rules)) t.entries) _ i v)

  -- "In a finished plain run, a strict or defeasible house rule that fires gives its head +∂ wherever no house rule attacks it and the head's
  -- complement has −Δ."
  pub house_prevails : T (proper (theory_from (joined h t))) → Prevails (theory_from h) (theory_from (joined h t))
  unfolding theory_from all_have attacker
  house_prevails p budget r f b k a n c =
      subst (λ q. T (logged plain d budget q +∂)) head
      (finished_holds d p budget (head_of d r) +∂ f (heads_below d p r in_join) (omega arith)
      (over_all d (logged plain d budget) r in_join (subst (λ z. T (can_support (kind_meant z.kind))) (sym (house_rule r b)) k)
      (every_of_intro _ _ (λ q m. every_of_elim _ _ a q (house_body r q b m))) (subst (λ q. T (logged plain d budget (complement q) −Δ)) (sym head) c) beats))
    where
      d : Theory
      d = theory_from (joined h t)

      in_join : r < length (h.rules ++ t.rules)
      in_join = omega (arith, length-append h.rules t.rules)

      head : head_of d r ≡ head_of (theory_from h) r
      head = ap (λ z. z.head.0) (house_rule r b)

      -- an attacker is a rule of the tour, and the house's rule is over it
      beats : (s : ℕ) → s < length (h.rules ++ t.rules) → T (attacker d s (head_of d r)) → T (superior d r s)
      beats s l u =
          let e : head_of d s ≡ complement (head_of (theory_from h) r) = attacker_head d s (head_of d r) u ∙ ap complement head in
          ⊎_elim
          (λ m. (superior_listed (joined h t) _ _ (over (theory_from h) (theory_from t)) refl r s).1 (
            omega arith,
            omega (arith, l, length-append h.rules t.rules),
            added_in (theory_from h) (theory_from t) r s b m (ap (λ z. z.head.0) (sym (tour_rule s m)) ∙ e),
          ))
          (λ m. absurd (n s m (eq→eqb _ _ (ap (λ z. z.head.0) (sym (house_rule s m)) ∙ e)))) (at_most (length h.rules) s)
