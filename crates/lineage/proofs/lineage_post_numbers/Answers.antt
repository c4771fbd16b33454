-- The call's own contract, with its answer written.
use mathlib.Core.Path.{refl}
use Rattle.table.specs.Counted.{counted}
use Rattle.lineage.specs.Exports.{Exported}
use Rattle.lineage.proofs.lineage_post_numbers.Goals as goal

pub returns-then-reply-ne3 : goal.returns-then-reply-ne3
unfolding Exported
returns-then-reply-ne3 c = (c.if-reply-ne3.true, refl, (refl, refl))

pub returns : goal.returns
unfolding Exported
returns c = (
  c.if-reply-ne3.false,
  record {
    answer = counted c.post_numbers-answer.result;
    kept = c.post_numbers-answer.ensures;
    written = c.put_counted.ensures;
  },
)
