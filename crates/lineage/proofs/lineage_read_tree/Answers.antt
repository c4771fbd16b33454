-- The call's own contract, with its answer written.
use mathlib.Core.Path.{refl}
use Rattle.table.specs.Counted.{counted}
use Rattle.lineage.specs.Exports.{Exported}
use Rattle.lineage.proofs.lineage_read_tree.Goals as goal

pub returns-then-reply-ne3 : goal.returns-then-reply-ne3
unfolding Exported
returns-then-reply-ne3 c = (c.if-reply-ne3.true, refl, (refl, refl, refl))

pub returns : goal.returns
unfolding Exported
returns c = (
  c.if-reply-ne3.false,
  record {
    answer = counted c.read_tree-answer.result;
    kept = rw c.limits-limits.ensures at c.read_tree-answer.ensures;
    written = c.put_counted.ensures;
  },
)
