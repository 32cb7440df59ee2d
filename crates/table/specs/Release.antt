-- Kahn's algorithm (src/cycle.rt): what its functions say to each other. A rule is released, that is put into a queue, once no
-- pair that is not removed yet names it as the weaker; the rules of the queue are taken up in turn, and the pairs in which the one
-- taken up is the stronger are removed.
use Rattle.std.specs.Prelude.{ℕ, ◌+◌, ◌≤◌, ◌<◌, ◌≡◌, Bool, cond, List, [], ◌∷◌, ◌++◌, T, eqb, get_or, take}
use Rattle.logic.specs.Tests.{◌and◌, isnt, member, distinct, count_below}
use Rattle.logic.specs.Theory.{Theory, superior}
use Rattle.logic.specs.Cycle.{Leads}

-- how many pairs that are not removed name a rule as the weaker
abbrev pub waits : Theory → (ℕ → Bool) → ℕ → ℕ
waits d removed w = count_below d.pairs (λ i. eqb (d.pair i).weaker w and isnt (removed i))

-- the pairs that are removed once the rules of a list were taken up
abbrev pub removed_by : Theory → List ℕ → ℕ → Bool
removed_by d l i = member (d.pair i).stronger l

-- where each rule's pairs begin: of the pairs with the same stronger rule, the first
pub record Runs (d : Theory) (first : List ℕ) : Type 0 where
  pub least : (i : ℕ) → i < d.pairs → get_or first (d.pair i).stronger 0 ≤ i
  pub same : (i : ℕ) → i < d.pairs → (d.pair (get_or first (d.pair i).stronger 0)).stronger ≡ (d.pair i).stronger

-- a queue that holds, once each, the rules below n that wait for nothing
pub record Zeros (n : ℕ) (degree queue : List ℕ) : Type 0 where
  pub once : T (distinct queue)
  pub below : (w : ℕ) → T (member w queue) → w < n
  pub none : (w : ℕ) → T (member w queue) → get_or degree w 0 ≡ 0
  pub whole : (w : ℕ) → w < n → get_or degree w 0 ≡ 0 → T (member w queue)

-- from the weaker rule to the stronger
abbrev pub inferior : Theory → ℕ → ℕ → Bool
inferior d s t = superior d t s

-- how it stands between two steps: the queue, what the rules still wait for, that only rules in the queue were taken up, and
-- that none of them is on a cycle
pub record Queued (d : Theory) (removed : ℕ → Bool) (degree queue : List ℕ) : Type 0 where
  pub zeros : Zeros d.rules degree queue
  pub counts : (w : ℕ) → w < d.rules → get_or degree w 0 ≡ waits d removed w
  pub queued : (i : ℕ) → i < d.pairs → T (removed i) → T (member (d.pair i).stronger queue)
  pub clean : (w : ℕ) → T (member w queue) → Leads (inferior d) w w → ⊥

-- the queue is in the first `end` places of an array, and the rules in the first `next` of them were taken up
abbrev pub Reached : Theory → ℕ → ℕ → List ℕ → List ℕ → Type 0
Reached d next end degree queue = Queued d (removed_by d (take next queue)) degree (take end queue)

-- a queue in the first places of an array, with one more at its end if a test says so
pub record Pushed (test : Bool) (rule : ℕ) (queue : List ℕ) (end : ℕ) (after : List ℕ) (last : ℕ) : Type 0 where
  pub grown : take last after ≡ cond test (take end queue ++ (rule ∷ [])) (take end queue)
  pub kept : (k : ℕ) → k ≤ end → take k after ≡ take k queue
  pub more : end ≤ last
  pub most : last ≤ end + 1
