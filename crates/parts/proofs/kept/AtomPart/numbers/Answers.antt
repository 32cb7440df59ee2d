-- `parts::kept::AtomPart::numbers` meets its contract. The loop's invariant: the rules passed are numbered. Assumes nothing.
use Prim.Native.Nat.{◌<◌}
use native.Mathlib.Omega.{arith}
use mathlib.Core.Path.{◌∙◌, subst}
use lib.ListN.{length-set}
use Rattle.table.proofs.Legal.{limited}
use Rattle.files.proofs.Saying.{sizes_say}
use Rattle.parts.proofs.Rows.{counted_on, numbered_next}
use Rattle.parts.proofs.kept.AtomPart.numbers.Goals as goal

pub loop-rule-preserved : goal.loop-rule-preserved
loop-rule-preserved c =
    let p = c.args.self.now in
    record {
      size = length-set c.loop-rule.numbers _ _ ∙ c.loop-rule.invariant.size;
      done =
          numbered_next p.table.layout.now p.table.sizes p.atom c.loop-rule.rule c.loop-rule.numbers (omega (arith, (limited _ p.table.legal.limits).rules))
          c.loop-rule.invariant.done (counted_on _ _ c.loop-rule.invariant.done.0 c.from-n.ensures c.has_rule.ensures);
    }

pub returns : goal.returns
returns c =
    let t = c.args.self.now.table in
    record {
      size = c.loop-rule.invariant.size;
      each = λ r h. c.loop-rule.invariant.done.1 r (let k : r < t.sizes.rules = subst (λ z. r < z.rules) (sizes_say t.layout.now t.sizes) h in omega arith);
    }
