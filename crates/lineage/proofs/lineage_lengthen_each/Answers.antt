-- The call's own contract, with its answer written; a place is below the lists' length, which fits 61 bits.
use mathlib.Core.Path.{refl}
use native.Mathlib.Omega.{arith}
use Rattle.arranging.specs.Arranged.{arranged}
use Rattle.std.proofs.Common.{rules}
use Rattle.lineage.specs.Exports.{Exported}
use Rattle.lineage.proofs.Exporting.{left_by}
use Rattle.lineage.proofs.Exporting.{arranged_near}
use Rattle.lineage.proofs.lineage_lengthen_each.Goals as goal

pub returns-then-reply-ne4 : goal.returns-then-reply-ne4
unfolding Exported
returns-then-reply-ne4 c = (c.if-reply-ne4.true, refl, (refl, refl))

pub put_arranged-requires : goal.put_arranged-requires
put_arranged-requires c = (
  c.if-reply-ne4.false,
  arranged_near _ _ _ _ _ _ _ c.lengthen_each-answer.ensures.arranges
      (omega (arith, c.well_formed.1.1.1.1.1.1.1.1.0.1)),
)

pub returns : goal.returns
unfolding Exported
returns c = (
  c.if-reply-ne4.false,
  record {
    answer = arranged c.lengthen_each-answer.result;
    kept = left_by c.lengthen_each-answer.new.drawing.times.now c.lengthen_each-answer.new.drawing.x.now
        c.lengthen_each-answer.new.drawing.y.now (search rules) (search rules) (search rules)
        (rw c.rule_of-rule.ensures at c.lengthen_each-answer.ensures.arranges);
    written = c.put_arranged.ensures;
  },
)
