-- The call's own contract, with its answer written.
use mathlib.Core.Path.{refl}
use Rattle.drawing.specs.Framed.{framed}
use Rattle.lineage.specs.Exports.{Exported}
use Rattle.lineage.proofs.lineage_hold.Goals as goal

pub returns-then-reply-ne3 : goal.returns-then-reply-ne3
unfolding Exported
returns-then-reply-ne3 c = (c.if-reply-ne3.true, refl, (refl, refl))

pub returns : goal.returns
unfolding Exported
returns c = (
  c.if-reply-ne3.false,
  record {
    answer = framed c.hold-answer.result;
    kept = rw c.rule_of-rule.ensures at c.hold-answer.ensures;
    written = c.put_framed.ensures;
  },
)
