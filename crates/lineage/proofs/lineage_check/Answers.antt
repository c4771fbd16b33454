-- The call's own contract, with its answer written.
use mathlib.Core.Path.{refl}
use Rattle.lineage.specs.Exports.{Exported}
use Rattle.lineage.proofs.lineage_check.Goals as goal

pub returns-then-reply-ne3 : goal.returns-then-reply-ne3
unfolding Exported
returns-then-reply-ne3 c = (c.if-reply-ne3.true, refl, refl)

pub returns : goal.returns
unfolding Exported
returns c = (
  c.if-reply-ne3.false,
  record {
    answer = c.check-answer.result;
    kept = c.check-answer.ensures;
    written = c.put_verdict.ensures;
  },
)
