-- The file of the join of two accepted tables is what is asked of one (specs/Prevailing.antt). Assumes nothing.
use Prim.Native.Nat.{ℕ}
use mathlib.Core.Path.{◌≡◌, sym, ◌∙◌, ap, subst}
use mathlib.Core.Bool.{false}
use mathlib.Core.List.{List}
use Rattle.logic.specs.Theory.{superior}
use Rattle.logic.specs.Cycle.{Cycle}
use Rattle.table.specs.declared.format.Sizes.{Sizes}
use Rattle.std.specs.Prelude.{Ok}
use Rattle.table.specs.declared.edition.Edition.{Edition}
use Rattle.table.specs.Format.{theory_of}
use Rattle.table.specs.Refusals.{oversize, judgement_of}
use Rattle.table.proofs.Legal.{passed}
use Rattle.files.specs.Contents.{content_of, sizes_for, theory_from}
use Rattle.files.proofs.Saying.{file_theory}
use Rattle.files.proofs.Reading.{file_says}
use Rattle.files.proofs.Proper.{Proper}
use Rattle.files.proofs.Accepting.{file_accepted, content_proper}
use Rattle.joining.specs.Joining.{joined, joined_file}
use Rattle.joining.specs.Prevailing.{Prevails, Join}
use Rattle.joining.proofs.Proper.{joined_proper}
use Rattle.joining.proofs.House.{house_prevails}

pub join_of : (e : Edition) (house tour : List ℕ) (s t : Sizes) → judgement_of e house ≡ Ok s → judgement_of e tour ≡ Ok t → s.atoms ≡ t.atoms
    → oversize (sizes_for (joined (content_of e house) (content_of e tour))) ≡ false → Join e house tour (joined_file e house tour)
join_of e house tour s t a b c l =
    record {
      accepted = file_accepted e (joined (content_of e house) (content_of e tour)) good;
      content = says;
      acyclic = λ u. good.acyclic (subst (λ d. Cycle (superior d)) theory u);
      prevails = coe 0 1 (z. Prevails (sym (file_theory e house) z) (sym theory z)) (house_prevails (content_of e house) (content_of e tour) good.ranges);
    }
  where
    good : Proper e (joined (content_of e house) (content_of e tour))
    good =
        joined_proper e (content_of e house) (content_of e tour) (content_proper e house s a) (content_proper e tour t b)
        (ap (λ z. z.atoms) (passed e house s a).read ∙ c ∙ sym (ap (λ z. z.atoms) (passed e tour t b).read)) l

    says : content_of e (joined_file e house tour) ≡ joined (content_of e house) (content_of e tour)
    says = file_says e (joined (content_of e house) (content_of e tour))

    theory : theory_of e (joined_file e house tour) ≡ theory_from (joined (content_of e house) (content_of e tour))
    theory = file_theory e (joined_file e house tour) ∙ ap theory_from says
