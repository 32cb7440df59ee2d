-- Theories that correspond within a set of literals: of the set's literals they say the same, by whatever numbers their rules have.
use Rattle.std.specs.Prelude.{ℕ, ◌<◌, ◌≡◌, Bool, T}
use Rattle.logic.specs.Tests.{member}
use Rattle.logic.specs.Theory.{Theory, complement, kind_of, head_of, body_of, is_fact, superior}

-- `like r s`: rule r of d is as rule s of k. It is a relation, so that it can be turned round.
pub record Corresponds (d k : Theory) (within : ℕ → Bool) (like : ℕ → ℕ → Bool) : Type 0 where
  pub atoms : d.atoms ≡ k.atoms
  pub facts : (q : ℕ) → T (within q) → is_fact d q ≡ is_fact k q
  -- the set has each literal's complement and, with the head of a rule, its antecedents
  pub complements : (q : ℕ) → T (within q) → T (within (complement q))
  pub antecedents : (r q : ℕ) → r < d.rules → T (within (head_of d r)) → T (member q (body_of d r)) → T (within q)
  -- each rule of either whose head is within has a like one in the other
  pub there : (r : ℕ) → r < d.rules → T (within (head_of d r)) → (s : ℕ) × T (like r s)
  pub back : (s : ℕ) → s < k.rules → T (within (head_of k s)) → (r : ℕ) × T (like r s)
  pub below : (r s : ℕ) → T (like r s) → (r < d.rules) × (s < k.rules)
  -- and like rules have the same kind, head and antecedents, and the same superiority where heads are complementary
  pub kinds : (r s : ℕ) → T (like r s) → kind_of d r ≡ kind_of k s
  pub heads : (r s : ℕ) → T (like r s) → head_of d r ≡ head_of k s
  pub bodies : (r s q : ℕ) → T (like r s) → member q (body_of d r) ≡ member q (body_of k s)
  pub pairs : (t s u v : ℕ) → T (like t u) → T (like s v) → head_of d s ≡ complement (head_of d t) → superior d t s ≡ superior k u v
