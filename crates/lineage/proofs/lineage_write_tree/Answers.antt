-- The call's own contract, with its answer written.
use mathlib.Core.Path.{refl}
use Rattle.treefile.specs.Saved.{saved}
use Rattle.lineage.specs.Exports.{Exported}
use Rattle.lineage.proofs.Exporting.{written_short}
use Rattle.lineage.proofs.lineage_write_tree.Goals as goal

pub returns-then-reply-ne3 : goal.returns-then-reply-ne3
unfolding Exported
returns-then-reply-ne3 c = (c.if-reply-ne3.true, refl, (refl, refl))

pub put_saved-requires : goal.put_saved-requires
put_saved-requires c = (c.if-reply-ne3.false, written_short _ _ _ _ (rw c.limits-limits.ensures at c.write_tree-answer.ensures))

pub returns : goal.returns
unfolding Exported
returns c = (
  c.if-reply-ne3.false,
  record {
    answer = saved c.write_tree-answer.result;
    kept = rw c.limits-limits.ensures at c.write_tree-answer.ensures;
    written = c.put_saved.ensures;
  },
)
