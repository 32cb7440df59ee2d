-- What a theory says, apart from how it is listed. Facts, antecedents and pairs are sets; rules have their numbers.
use Rattle.std.specs.Prelude.{ℕ, ◌<◌, ◌≡◌}
use Rattle.logic.specs.Tests.{member}
use Rattle.logic.specs.Theory.{Theory, kind_of, head_of, body_of, is_fact, superior}

-- Document 02, S-5: "with the same A, facts, kinds, heads, antecedents and pairs"
pub record SameContent (d k : Theory) : Type 0 where
  pub atoms : d.atoms ≡ k.atoms
  pub facts : (q : ℕ) → is_fact d q ≡ is_fact k q
  pub rules : d.rules ≡ k.rules
  pub kinds : (r : ℕ) → r < d.rules → kind_of d r ≡ kind_of k r
  pub heads : (r : ℕ) → r < d.rules → head_of d r ≡ head_of k r
  pub bodies : (r q : ℕ) → r < d.rules → member q (body_of d r) ≡ member q (body_of k r)
  pub pairs : (t s : ℕ) → superior d t s ≡ superior k t s
