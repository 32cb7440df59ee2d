-- Rows of theories with what a run gives, in the plain and then in the well-founded reading: document 000's platypus and a row for each mistake
-- that looks natural. docs/PROOF.md says which wrong engines each row tells apart. The marked cases are rows over bytes, in crate report.
use Rattle.std.specs.Prelude.{ℕ, Bool, true, false, List, [], ◌∷◌, map, eqb, length, get_or}
use Rattle.logic.specs.Tests.{◌and◌, ◌or◌, isnt, upto}
use Rattle.logic.specs.Theory.{Theory, Rule, Pair, Kind, strict, defeasible, defeater}
use Rattle.logic.specs.System.{held}
use Rattle.logic.specs.Worklist.{Outcome, log_of, worked}
use Rattle.logic.specs.Reading.{Reading, tagged_by}
use Rattle.logic.specs.Plain.{plain, bound}
use Rattle.logic.specs.WellFounded.{well_founded, searched_bound}
use Rattle.logic.specs.Laws.{reading_run}
use Rattle.logic.specs.Verdict.{Verdict, clash, go, hold, idle, split, «open», verdict}

unfoldable pub rule : Kind → ℕ → List ℕ → Rule
rule k q l = record { kind = k; head = q; body = l }

unfoldable pub over : ℕ → ℕ → Pair
over t s = record { stronger = t; weaker = s }

-- atoms, facts, rules, pairs
unfoldable pub theory : ℕ → List ℕ → List Rule → List Pair → Theory
theory n fs rs ps =
    record {
      atoms = n;
      facts = length fs;
      fact = λ i. get_or fs i 0;
      rules = length rs;
      rule = λ r. get_or rs r (rule defeater 0 []);
      pairs = length ps;
      pair = λ i. get_or ps i (over 0 0);
    }

-- A theory and a budget in; whether it finished, the log, worked, spent, the bound, and each atom's verdict out.
pub record Row : Type 0 where
  pub given : Theory
  pub budget : ℕ
  pub finished : Bool
  pub log : List ℕ
  pub worked : ℕ
  pub spent : ℕ
  pub most : ℕ
  pub verdicts : List Verdict

unfoldable pub row : Theory → ℕ → Bool → List ℕ → ℕ → ℕ → ℕ → List Verdict → Row
row d b f l w s m v = record { given = d; budget = b; finished = f; log = l; worked = w; spent = s; most = m; verdicts = v }

unfoldable pub both : Bool → Bool → Bool
both a b = (a and b) or (isnt a and isnt b)

unfoldable pub same_list : List ℕ → List ℕ → Bool
same_list [] [] = true
same_list [] (y ∷ ys) = false
same_list (x ∷ xs) [] = false
same_list (x ∷ xs) (y ∷ ys) = eqb x y and same_list xs ys

-- the place of a verdict in the order of the test
unfoldable pub place_of : Verdict → ℕ
place_of clash = 0
place_of go = 1
place_of hold = 2
place_of idle = 3
place_of split = 4
place_of «open» = 5

unfoldable pub verdicts_of : Theory → List ℕ → List Verdict
verdicts_of d l = map (verdict d (tagged_by 4 (held l))) (upto d.atoms)

-- the row's numbers, by the reading's bound and the outcome of its run
unfoldable pub gives : Row → ℕ → Outcome → Bool
gives r most o =
    both o.finished r.finished and same_list (log_of o) r.log and eqb (worked o) r.worked and eqb o.spent r.spent
    and eqb most r.most and same_list (map place_of (verdicts_of r.given (log_of o))) (map place_of r.verdicts)

unfoldable pub all_give : Reading → (Theory → ℕ) → List Row → Bool
all_give m most [] = true
all_give m most (r ∷ rs) = gives r (most r.given) (reading_run m r.given r.budget) and all_give m most rs

unfoldable pub rows : List Row
rows =
    -- 1. Document 000's platypus: rule 0 beats rule 2 and rule 1 beats rule 3, as a team; no rule beats both; mammal (atom
    -- 4) is go.
    row (theory 5 (0 ∷ 2 ∷ 4 ∷ 6 ∷ []) (rule defeasible 8 (0 ∷ []) ∷ rule defeasible 8 (2 ∷ []) ∷ rule defeasible 9 (4 ∷ []) ∷ rule defeasible 9 (6 ∷ []) ∷ []) (over 0 2 ∷ over 1 3 ∷ [])) 51 true (0 ∷ 5 ∷ 8 ∷ 13 ∷ 16 ∷ 21 ∷ 24 ∷ 29 ∷ 33 ∷ 37 ∷ 2 ∷ 7 ∷ 10 ∷ 15 ∷ 18 ∷ 23 ∷ 26 ∷ 31 ∷ 39 ∷ 34 ∷ []) 20 47 51 (go ∷ go ∷ go ∷ go ∷ go ∷ []) ∷
    -- 2. A fact 1 against a defeasible rule for 0: the missing −Δ of 1 alone bars +∂ of 0, and +Δ of 1 alone gives −∂ of 0;
    -- the opening runs by literal (1 before 4); working line 4 tries literal 1 before literal 0.
    row (theory 1 (1 ∷ []) (rule defeasible 0 [] ∷ []) []) 7 true (1 ∷ 4 ∷ 6 ∷ 3 ∷ []) 4 7 7 (hold ∷ []) ∷
    -- 3. A fact 0 and a defeater from 0 to 2: the defeater fires but supports nothing, so that atom 1 is idle, yet line 2 visits it and pays
    -- for it.
    row (theory 2 (0 ∷ []) (rule defeater 2 (0 ∷ []) ∷ []) []) 15 true (0 ∷ 5 ∷ 9 ∷ 13 ∷ 2 ∷ 7 ∷ 11 ∷ 15 ∷ []) 8 14 15 (go ∷ idle ∷ []) ∷
    -- 4. Rules for 0 and 1 of equal strength and a defeater for 0 over the rule for 1: the defeater does not counterattack,
    -- split.
    row (theory 1 [] (rule defeasible 0 [] ∷ rule defeasible 1 [] ∷ rule defeater 0 [] ∷ []) (over 2 1 ∷ [])) 11 true (1 ∷ 5 ∷ 3 ∷ 7 ∷ []) 4 9 11 (split ∷ []) ∷
    -- 5. Rule 0 (for 0) over rule 1 over rule 2 (both for 1): rule 0 is not over rule 2, so rule 2 is not beaten, split.
    row (theory 1 [] (rule defeasible 0 [] ∷ rule defeasible 1 [] ∷ rule defeasible 1 [] ∷ []) (over 0 1 ∷ over 1 2 ∷ [])) 14 true (1 ∷ 5 ∷ 3 ∷ 7 ∷ []) 4 10 14 (split ∷ []) ∷
    -- 6. Rule 2 for 0 is over rule 1 for 1, but its antecedent 1 is refuted: it neither counterattacks nor bars −∂ of 0, and
    -- being out settles it and pays its pair.
    row (theory 1 [] (rule defeasible 0 [] ∷ rule defeasible 1 [] ∷ rule defeasible 0 (1 ∷ []) ∷ []) (over 2 1 ∷ [])) 14 true (1 ∷ 5 ∷ 7 ∷ 3 ∷ []) 4 12 14 (split ∷ []) ∷
    -- 7. A defeasible rule for 0 and an attacker from 2: once −∂ of 2 is worked, the complement of the attacker's head must
    -- be tried, or +∂ of 0 is never written.
    row (theory 2 [] (rule defeasible 0 [] ∷ rule defeasible 1 (2 ∷ []) ∷ []) []) 15 true (1 ∷ 5 ∷ 9 ∷ 13 ∷ 7 ∷ 11 ∷ 15 ∷ 2 ∷ []) 8 14 15 (go ∷ idle ∷ []) ∷
    -- 8. A defeasible rule for 0 and a strict rule from 1 to 0: working line 5 writes 7, then 1, then 2: first p, then its
    -- complement, and tags 0 to 3 within each candidate.
    row (theory 1 [] (rule defeasible 0 [] ∷ rule strict 0 (1 ∷ []) ∷ []) []) 10 true (5 ∷ 7 ∷ 1 ∷ 2 ∷ []) 4 10 10 (go ∷ []) ∷
    -- 9. Strict rule for 0, strict rule 1 from 0 and 1 to 2, rule 0 over rule 1 (heads not complementary): rule 1 needs both
    -- antecedents, two ∂ lines visit it, the second settles it by out, and the pair, in which it stands on the right, is paid
    -- then, once.
    row (theory 2 [] (rule strict 0 [] ∷ rule strict 2 (0 ∷ 1 ∷ []) ∷ []) (over 0 1 ∷ [])) 21 true (0 ∷ 5 ∷ 13 ∷ 2 ∷ 7 ∷ 9 ∷ 15 ∷ 11 ∷ []) 8 20 21 (go ∷ idle ∷ []) ∷
    -- 10. Strict rules from 2 to 0 and from 2 to 1: working line 9 takes the visited rules by number, the head before its
    -- complement.
    row (theory 2 [] (rule strict 0 (2 ∷ []) ∷ rule strict 1 (2 ∷ []) ∷ []) []) 18 true (9 ∷ 13 ∷ 11 ∷ 1 ∷ 5 ∷ 15 ∷ 3 ∷ 7 ∷ []) 8 18 18 (idle ∷ idle ∷ []) ∷
    -- 11. Strict rule for 0, strict rule 1 from 0 and 1 to 1, rule 0 over rule 1: line 2 visits rule 1, nothing ever settles
    -- it, so its pair is never paid.
    row (theory 1 [] (rule strict 0 [] ∷ rule strict 1 (0 ∷ 1 ∷ []) ∷ []) (over 0 1 ∷ [])) 16 true (0 ∷ 2 ∷ []) 2 10 16 (go ∷ []) ∷
    -- 12. A fact 2 and a rule from 0 and 2 to 0: the rule rests on its own head, and the loop refutes nothing, open.
    row (theory 2 (2 ∷ []) (rule defeasible 0 (0 ∷ 2 ∷ []) ∷ []) []) 18 true (1 ∷ 5 ∷ 8 ∷ 13 ∷ 7 ∷ 10 ∷ 15 ∷ []) 7 14 18 («open» ∷ go ∷ []) ∷
    -- 13. Row 9 without its pair, whose heads are not complementary: the same log, for one less at the start and one less where
    -- rule 1 is decided.
    row (theory 2 [] (rule strict 0 [] ∷ rule strict 2 (0 ∷ 1 ∷ []) ∷ []) []) 18 true (0 ∷ 5 ∷ 13 ∷ 2 ∷ 7 ∷ 9 ∷ 15 ∷ 11 ∷ []) 8 18 18 (go ∷ idle ∷ []) ∷
    -- 14. One atom and no rules, idle.
    row (theory 1 [] [] []) 5 true (1 ∷ 5 ∷ 3 ∷ 7 ∷ []) 4 5 5 (idle ∷ []) ∷
    -- 15. A rule from 2 to 0, and nothing for 2: the only supporter of either literal of atom 0 is out, idle.
    row (theory 2 [] (rule defeasible 0 (2 ∷ []) ∷ []) []) 14 true (1 ∷ 5 ∷ 9 ∷ 13 ∷ 7 ∷ 11 ∷ 15 ∷ 3 ∷ []) 8 13 14 (idle ∷ idle ∷ []) ∷
    -- 16. The marked case of a defeater the other way round, a rule for 1 and a defeater for 0: literal 0 has no supporters, but that of 1
    -- fires, split.
    row (theory 1 [] (rule defeasible 1 [] ∷ rule defeater 0 [] ∷ []) []) 7 true (1 ∷ 5 ∷ 3 ∷ 7 ∷ []) 4 7 7 (split ∷ []) ∷
    -- 17. A rule from 2 to 0 against a defeater for 1, and a rule from 2 to 2: the supporter of 0 waits and does not fire, but it is not out
    -- either, split.
    row (theory 2 [] (rule defeasible 2 (2 ∷ []) ∷ rule defeasible 0 (2 ∷ []) ∷ rule defeater 1 [] ∷ []) []) 19 true (1 ∷ 5 ∷ 9 ∷ 13 ∷ 3 ∷ 7 ∷ 15 ∷ []) 7 14 19 (split ∷ «open» ∷ []) ∷ []

unfoldable pub searched_rows : List Row
searched_rows =
    -- 1. A rule from 0 to 0: the loop that is open in the plain reading is refuted. Both searches find nothing new at the end, and are paid.
    row (theory 1 [] (rule defeasible 0 (0 ∷ []) ∷ []) []) 20 true (1 ∷ 5 ∷ 7 ∷ 3 ∷ []) 4 20 33 (idle ∷ []) ∷
    -- 2. The same with one less: stopped before the last search, with every line processed.
    row (theory 1 [] (rule defeasible 0 (0 ∷ []) ∷ []) []) 19 false (1 ∷ 5 ∷ 7 ∷ 3 ∷ []) 4 17 33 (idle ∷ []) ∷
    -- 3. A strict rule from 0 to 0: the first search refutes it definitely; then it is made again, and only then the second.
    row (theory 1 [] (rule strict 0 (0 ∷ []) ∷ []) []) 33 true (5 ∷ 7 ∷ 1 ∷ 3 ∷ []) 4 24 33 (idle ∷ []) ∷
    -- 4. Rules for 0 and 1, and a rule from 0 to 0 over that for 1: the set is asked of the supporters alone. Were a supporter out by an antecedent
    -- in the set where the attacker is asked for, −∂ of 0 would be written.
    row (theory 1 [] (rule defeasible 0 [] ∷ rule defeasible 1 [] ∷ rule defeasible 0 (0 ∷ []) ∷ []) (over 2 1 ∷ [])) 62 true (1 ∷ 5 ∷ 7 ∷ []) 3 21 62 («open» ∷ []) ∷
    -- 5. A fact 0: members of the second set must have −Δ, or −∂ of 0 would stand beside its +∂.
    row (theory 1 (0 ∷ []) [] []) 22 true (0 ∷ 5 ∷ 2 ∷ 7 ∷ []) 4 10 22 (go ∷ []) ∷
    -- 6. Nothing: the start and both searches are free.
    row (theory 0 [] [] []) 0 true [] 0 0 0 [] ∷
    -- 7. A strict rule for 1, and one from 0 to 0: once the first search has refuted 0 definitely, −∂ of 0 follows. Were the second search made
    -- first, it would find nothing and be paid.
    row (theory 1 [] (rule strict 1 [] ∷ rule strict 0 (0 ∷ []) ∷ []) []) 42 true (4 ∷ 6 ∷ 1 ∷ 3 ∷ []) 4 22 42 (hold ∷ []) ∷ []

-- All rows hold: proofs/Answers.antt computes it.
unfoldable pub cases_hold : Bool
cases_hold = all_give plain bound rows and all_give well_founded searched_bound searched_rows
