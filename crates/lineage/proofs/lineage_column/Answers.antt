-- The call's own contract, with its answer written.
use mathlib.Core.Path.{refl}
use Rattle.aligning.specs.Aligned.{aligned}
use Rattle.lineage.specs.Exports.{Exported}
use Rattle.lineage.proofs.lineage_column.Goals as goal

pub returns-then-reply-ne3 : goal.returns-then-reply-ne3
unfolding Exported
returns-then-reply-ne3 c = (c.if-reply-ne3.true, refl, refl)

pub returns : goal.returns
unfolding Exported
returns c = (
  c.if-reply-ne3.false,
  record {
    answer = aligned c.column-answer.result;
    kept = rw c.rule_of-rule.ensures at c.column-answer.ensures;
    written = c.put_aligned.ensures;
  },
)
