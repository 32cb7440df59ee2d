-- What is asked of a reading, and what then holds of every two theories that correspond.
use Rattle.std.specs.Prelude.{ℕ, ◌+◌, ◌*◌, ◌<◌, ◌↔◌, Bool, T, eqb}
use Rattle.logic.specs.Tests.{◌and◌, ◌or◌, member}
use Rattle.logic.specs.Theory.{Theory}
use Rattle.logic.specs.System.{held}
use Rattle.logic.specs.Worklist.{Outcome, run, log_of}
use Rattle.logic.specs.Reading.{Reading, tags, family_of, candidates, tagged_by, system_of, searches_of}
use Rattle.logic.specs.Correspondence.{Corresponds}

-- Across: what follows of a literal in one theory follows in every theory that corresponds to it within a set that has the literal, if what
-- is held moves from the one to the other wherever the literal is a candidate. A theory with itself: what follows is monotone in, and depends
-- on no more than, the conclusions that have the literal among their candidates. Opposed: from what is apart, so that neither holds the
-- opposite of what the other holds, no tag follows on the one side and its opposite on the other.
-- Of the searches: what one asks of a literal comes across in the same way, with the set; and each member of a set follows, refuted, from what
-- is held together with the set.
pub record Rules (m : Reading) : Type 0 where
  pub tagged : 0 < m.families
  pub across : {d k : Theory} {within : ℕ → Bool} {like : ℕ → ℕ → Bool} → Corresponds d k within like → (h g : ℕ → ℕ → Bool) (q t : ℕ) → T (within q)
      → ((a u : ℕ) → u < tags m → T (member q (candidates d (family_of u) a)) → T (h a u) → T (g a u)) → T (m.infer d h q t) → T (m.infer k g q t)
  pub opposed : (d : Theory) (h k : ℕ → ℕ → Bool) → ((q f : ℕ) → f < m.families → T (h q (2 * f)) → T (k q (2 * f + 1)) → ⊥)
      → ((q f : ℕ) → f < m.families → T (k q (2 * f)) → T (h q (2 * f + 1)) → ⊥)
      → (q f : ℕ) → f < m.families → T (m.infer d h q (2 * f)) → T (m.infer d k q (2 * f + 1)) → ⊥
  pub fits_across : {d k : Theory} {within : ℕ → Bool} {like : ℕ → ℕ → Bool} → Corresponds d k within like → (h g : ℕ → ℕ → Bool) (x y : ℕ → Bool) (i q : ℕ)
      → T (within q) → ((a u : ℕ) → u < tags m → T (member q (candidates d (family_of u) a)) → T (h a u) → T (g a u))
      → ((a u : ℕ) → u < tags m → T (member q (candidates d (family_of u) a)) → T (x a) → T (y a)) → T (m.fits d h i x q) → T (m.fits k g i y q)
  pub fits_infer : (d : Theory) (h : ℕ → ℕ → Bool) (x : ℕ → Bool) (i q : ℕ) → i < m.searches → T (m.fits d h i x q)
      → T (m.infer d (λ a u. h a u or (eqb u (2 * i + 1) and x a)) q (2 * i + 1))

-- the run of a theory under a budget
abbrev pub reading_run : Reading → Theory → ℕ → Outcome
reading_run m d budget = run (system_of m d) (searches_of m d) budget

-- the tagged literals in the log of the run of a theory under a budget
abbrev pub logged : Reading → Theory → ℕ → ℕ → ℕ → Bool
logged m d budget = tagged_by (tags m) (held (log_of (reading_run m d budget)))

-- In every reading, under every two budgets that finish both: of the set's literals the log of d has just the tags that the log of k has.
abbrev pub SameTags : Theory → Theory → (ℕ → Bool) → Type 0
SameTags d k within =
    (m : Reading) → Rules m → (b c : ℕ) → T (reading_run m d b).finished → T (reading_run m k c).finished
    → (q t : ℕ) → T (within q) → t < tags m → T (logged m d b q t) ↔ T (logged m k c q t)
