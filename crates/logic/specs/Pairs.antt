-- Document 01, The table: a pair "whose heads aren't complementary is legal without effect" (proofs/Pairs.antt: `pair_without_effect`).
use Rattle.std.specs.Prelude.{ℕ, ◌+◌, ◌-◌, Bool, cond, ltb, eqb}
use Rattle.logic.specs.Theory.{Theory, Pair, complement, head_of}

module _ (d : Theory) where
  -- the heads of two rules are complementary
  abbrev pub complementary_heads : ℕ → ℕ → Bool
  complementary_heads t s = eqb (head_of d t) (complement (head_of d s))

  -- the theory with these pairs in place of its own
  abbrev pub with_pairs : ℕ → (ℕ → Pair) → Theory
  with_pairs n p =
      record {
        atoms = d.atoms;
        facts = d.facts;
        fact = d.fact;
        rules = d.rules;
        rule = d.rule;
        pairs = n;
        pair = p;
      }

  -- the theory without its i-th pair: those after it move up by one place
  abbrev pub without_pair : ℕ → Theory
  without_pair i = with_pairs (d.pairs - 1) (λ j. cond (ltb j i) (d.pair j) (d.pair (j + 1)))
