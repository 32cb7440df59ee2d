-- The file of one part of an accepted table is what is asked of it (specs/Parting.antt), and is the same whichever of the part's atoms is named.
-- Assumes nothing.
use Prim.Native.Nat.{ℕ, ◌<◌}
use mathlib.Core.Path.{◌≡◌, sym, ◌∙◌, ap, subst}
use mathlib.Core.List.{List, map}
use lib.Dec.{T}
use lib.ListN.{length}
use Rattle.logic.specs.Tests.{◌and◌, count_below, upto, pick}
use Rattle.logic.specs.Theory.{Theory, atom, proper}
use Rattle.logic.specs.Laws.{SameTags}
use Rattle.logic.specs.Parts.{in_part}
use Rattle.logic.proofs.Tests.{test_eq}
use Rattle.logic.proofs.Carrying.{same_tags_lem}
use Rattle.logic.proofs.Parts.{together_trans, together_sym, part_agrees, part_below}
use Rattle.table.specs.declared.format.Sizes.{Sizes}
use Rattle.std.specs.Prelude.{Ok}
use Rattle.table.specs.declared.edition.Edition.{Edition}
use Rattle.table.specs.Format.{theory_of}
use Rattle.table.specs.Refusals.{judgement_of}
use Rattle.table.proofs.Legal.{passed}
use Rattle.files.specs.Contents.{Content, content_of, fact_of, rule_of, entry_of, pair_of, theory_from}
use Rattle.files.proofs.Saying.{file_theory}
use Rattle.files.proofs.Reading.{file_says}
use Rattle.files.proofs.Proper.{Proper}
use Rattle.files.proofs.Accepting.{file_accepted, content_proper}
use Rattle.parting.specs.Parting.{literal_in, rule_in, number_in, part_of, part_file, Part}
use Rattle.parting.proofs.Proper.{part_proper}
use Rattle.parting.proofs.Corresponding.{part_corresponds}

-- "A part's own table": it is accepted, says the part's content, and gives the part's atoms the same tags
pub part_of_lem : (e : Edition) (whole : List ℕ) (s : Sizes) (a : ℕ) → judgement_of e whole ≡ Ok s → a < s.atoms → Part e whole a (part_file e whole a)
part_of_lem e whole s a j h =
    record {
      accepted = file_accepted e (part_of c a) good;
      content = says;
      same_tags = coe 0 1 (z. SameTags (sym (file_theory e whole) z) (sym theory z) (λ q. in_part (sym (file_theory e whole) z) a (atom q)))
          (same_tags_lem fine.ranges good.ranges (part_corresponds e c a fine (subst (λ z. a < z.atoms) (sym (passed e whole s j).read) h)));
    }
  where
    c : Content
    c = content_of e whole

    fine : Proper e c
    fine = content_proper e whole s j

    good : Proper e (part_of c a)
    good = part_proper e c a fine

    says : content_of e (part_file e whole a) ≡ part_of c a
    says = file_says e (part_of c a)

    theory : theory_of e (part_file e whole a) ≡ theory_from (part_of c a)
    theory = file_theory e (part_file e whole a) ∙ ap theory_from says

-- two atoms of one part have the same part
parts_alike : (d : Theory) → T (proper d) → (a b : ℕ) → a < d.atoms → T (in_part d a b) → (x : ℕ) → in_part d a x ≡ in_part d b x
parts_alike d p a b h t x =
    let k = part_below d p a b h t in
    let w = (part_agrees d p a b h).0 t in
    test_eq _ _ (λ u. (part_agrees d p b x k).1 (together_trans (together_sym w) ((part_agrees d p a x h).0 u)))
    (λ u. (part_agrees d p a x h).1 (together_trans w ((part_agrees d p b x k).0 u)))

literals_alike : (e : Edition) (c : Content) → Proper e c → (a b : ℕ) → a < c.atoms → T (in_part (theory_from c) a b) → (q : ℕ) → literal_in c a q ≡ literal_in c b q
unfolding literal_in theory_from
literals_alike e c p a b h t q = parts_alike (theory_from c) p.ranges a b h t (atom q)

-- and so the same content
pub part_alike : (e : Edition) (c : Content) → Proper e c → (a b : ℕ) → a < c.atoms → T (in_part (theory_from c) a b) → part_of c a ≡ part_of c b
unfolding rule_in number_in
part_alike e c p a b h t = λ k. record {
  atoms = c.atoms;
  facts = map (fact_of c) (pick (upto (length c.facts)) (λ i. same (fact_of c i) k));
  rules = map (rule_of c) (pick (upto (length c.rules)) (λ r. kept r k));
  entries = map (λ i. record { rule = count_below (entry_of c i).rule (λ r. kept r k); literal = (entry_of c i).literal }) (pick (upto (length c.entries)) (λ i. kept (entry_of c i).rule k));
  pairs = map (λ i. record { stronger = count_below (pair_of c i).stronger (λ r. kept r k); weaker = count_below (pair_of c i).weaker (λ r. kept r k) })
      (pick (upto (length c.pairs)) (λ i. kept (pair_of c i).stronger k and kept (pair_of c i).weaker k));
}
  where
    same : (q : ℕ) → literal_in c a q ≡ literal_in c b q
    same = literals_alike e c p a b h t

    kept : (r : ℕ) → literal_in c a (rule_of c r).head.0 ≡ literal_in c b (rule_of c r).head.0
    kept r = same (rule_of c r).head.0
