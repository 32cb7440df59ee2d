-- Document 02, S-9: the well-founded reading. Its inference rules are document 01's; it has two searches, for −Δ and for −∂.
use Rattle.std.specs.Prelude.{ℕ, ◌+◌, ◌*◌}
use Rattle.logic.specs.Theory.{Theory, size}
use Rattle.logic.specs.Inference.{follows}
use Rattle.logic.specs.System.{Searches}
use Rattle.logic.specs.Reading.{Reading, searches_of}
use Rattle.logic.specs.Plain.{bound}
use Rattle.logic.specs.Unfounded.{unfounded}

abbrev pub well_founded : Reading
well_founded =
    record {
      families = 2;
      infer = λ d holds q t. follows d holds q t;
      searches = 2;
      fits = λ d holds i set q. unfounded d holds set i q;
    }

abbrev pub unfounded_searches : Theory → Searches
unfounded_searches d = searches_of well_founded d

-- "Spent is at most 5A+F+N+3B+3P + (6A+2) × Size; that budget finishes here"
abbrev pub searched_bound : Theory → ℕ
searched_bound d = bound d + (6 * d.atoms + 2) * size d
