-- Saying the same is a relation that holds of a theory and itself, and either way round. Assumes nothing.
use Prim.Native.Nat.{◌<◌}
use mathlib.Core.Path.{refl, sym, subst}
use Rattle.logic.specs.Theory.{Theory}
use Rattle.logic.specs.Content.{SameContent}

pub content_refl : (d : Theory) → SameContent d d
content_refl d =
    record {
      atoms = refl;
      facts = λ q. refl;
      rules = refl;
      kinds = λ r h. refl;
      heads = λ r h. refl;
      bodies = λ r q h. refl;
      pairs = λ p q. refl;
    }

pub content_sym : {d k : Theory} → SameContent d k → SameContent k d
content_sym w =
    record {
      atoms = sym w.atoms;
      facts = λ q. sym (w.facts q);
      rules = sym w.rules;
      kinds = λ r h. sym (w.kinds r (subst (λ n. r < n) (sym w.rules) h));
      heads = λ r h. sym (w.heads r (subst (λ n. r < n) (sym w.rules) h));
      bodies = λ r q h. sym (w.bodies r q (subst (λ n. r < n) (sym w.rules) h));
      pairs = λ p q. sym (w.pairs p q);
    }
