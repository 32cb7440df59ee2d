-- A reading of theories, and the closure system that it makes of one: lines, candidates, visited rules and the price of
-- document 01, over the reading's number of tags and its inference rules; and its searches (document 02, S-9).
use Rattle.std.specs.Prelude.{ℕ, ◌+◌, ◌*◌, ◌/◌, ◌%◌, Bool, List, [], ◌∷◌, ◌++◌, map, eqb}
use Rattle.std.proofs.Math.ListN
use Rattle.logic.specs.Tests.{◌and◌, ◌or◌, isnt, member, empty, total, weigh, count_below, upto, pick}
use Rattle.logic.specs.Theory.{Theory, Pair, complement, is_strict, kind_of, head_of, body_of, size}
use Rattle.logic.specs.Inference.{all_have, one_has}
use Rattle.logic.specs.System.{System, Searches, held}
use Rattle.logic.specs.Largest.{largest}

-- Tags come in families of two, 2f and its opposite 2f + 1. Family 0 is the definite one.
pub record Reading : Type 0 where
  pub families : ℕ
  pub infer : Theory → (ℕ → ℕ → Bool) → ℕ → ℕ → Bool
  -- the number of searches, and what each asks of a member of its set of literals, over what is held
  pub searches : ℕ
  pub fits : Theory → (ℕ → ℕ → Bool) → ℕ → (ℕ → Bool) → ℕ → Bool

abbrev pub tags : Reading → ℕ
tags m = 2 * m.families

abbrev pub family_of : ℕ → ℕ
family_of t = t / 2

-- "A line about literal q is the number 4q + tag", where there are four tags.
abbrev pub conclusion : ℕ → ℕ → ℕ → ℕ
conclusion n q t = n * q + t

module _ (d : Theory) where
  -- "A Δ line visits the strict rules with p as antecedent, a ∂ line all rules with p as antecedent."
  unfoldable pub visits : ℕ → ℕ → ℕ → Bool
  visits f p r = member p (body_of d r) and (isnt (eqb f 0) or is_strict (kind_of d r))

  abbrev pub visited : ℕ → ℕ → List ℕ
  visited f p = pick (upto d.rules) (visits f p)

  unfoldable pub heads : List ℕ → List ℕ
  heads [] = []
  heads (r ∷ rs) = head_of d r ∷ complement (head_of d r) ∷ heads rs

  -- "Working a line about p takes as candidates p, its complement, then, by rule number, the head and head's complement of each
  -- visited rule."
  abbrev pub candidates : ℕ → ℕ → List ℕ
  candidates f p = p ∷ complement p ∷ heads (visited f p)

  -- "all its antecedents have +∂ or one has −∂ among worked lines"
  abbrev pub decided : ℕ → (ℕ → ℕ → Bool) → ℕ → Bool
  decided f holds r = all_have d holds (2 * f) r or one_has d holds (2 * f + 1) r

  -- "A rule with antecedents is settled by the first worked line after which" it is decided.
  unfoldable pub decides : ℕ → (ℕ → ℕ → Bool) → (ℕ → ℕ → Bool) → ℕ → Bool
  decides f before after r = isnt (empty (body_of d r)) and decided f after r and isnt (decided f before r)

  -- "the number of pairs naming that rule"
  abbrev pub names : Pair → ℕ → Bool
  names p r = eqb p.stronger r or eqb p.weaker r

  abbrev pub naming : ℕ → ℕ
  naming r = count_below d.pairs (λ i. names (d.pair i) r)

  -- "A line costs 1, plus 1 for each visited rule, plus, for a ∂ line, for each rule that it settles, the number of pairs naming
  -- that rule."
  abbrev pub cost_of : ℕ → ℕ → (ℕ → ℕ → Bool) → (ℕ → ℕ → Bool) → ℕ
  cost_of f p before after =
      1 + ListN.length (visited f p)
      + weigh (isnt (eqb f 0)) (total d.rules (λ r. weigh (decides f before after r) (naming r)))

-- "For each candidate, tags 0 to 3 in order"
unfoldable pub with_tags : ℕ → List ℕ → List ℕ
with_tags n [] = []
with_tags n (q ∷ qs) = map (conclusion n q) (upto n) ++ with_tags n qs

-- a test of conclusions, as one of literals and tags
abbrev pub tagged_by : ℕ → (ℕ → Bool) → ℕ → ℕ → Bool
tagged_by n h q t = h (conclusion n q t)

unfoldable pub system_of : Reading → Theory → System
system_of m d =
    record {
      conclusions = tags m * (2 * d.atoms);
      infers = λ h x. m.infer d (tagged_by (tags m) h) (x / tags m) (x % tags m);
      tried = λ x. with_tags (tags m) (candidates d (family_of (x % tags m)) (x / tags m));
      cost = λ before after x.
          cost_of d (family_of (x % tags m)) (x / tags m) (tagged_by (tags m) before) (tagged_by (tags m) after);
      start = size d;
    }

-- the set of a search: the largest in which each literal fits
abbrev pub set_of : Reading → Theory → (ℕ → ℕ → Bool) → ℕ → List ℕ
set_of m d holds i = largest (λ l. m.fits d holds i (held l)) (2 * d.atoms)

-- Search i refutes the members of its set in family i: "write −Δ for members", "write −∂ likewise".
unfoldable pub searches_of : Reading → Theory → Searches
searches_of m d =
    record {
      count = m.searches;
      finds = λ i h x. eqb (x % tags m) (2 * i + 1) and member (x / tags m) (set_of m d (tagged_by (tags m) h) i);
    }
