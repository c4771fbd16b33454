-- The call's own contract, with its answer written.
use mathlib.Core.Path.{refl}
use Rattle.drawing.specs.Framed.{framed}
use Rattle.std.proofs.Common.{rules}
use Rattle.lineage.specs.Exports.{Exported}
use Rattle.lineage.proofs.Exporting.{left_by}
use Rattle.lineage.proofs.lineage_small_shorten.Goals as goal

pub returns-then-reply-ne3 : goal.returns-then-reply-ne3
unfolding Exported
returns-then-reply-ne3 c = (c.if-reply-ne3.true, refl, (refl, refl))

pub returns : goal.returns
unfolding Exported
returns c = (
  c.if-reply-ne3.false,
  record {
    answer = framed c.shorten-answer.result;
    kept = left_by c.shorten-answer.new.drawing.times.now c.shorten-answer.new.drawing.x.now
        c.shorten-answer.new.drawing.y.now (search rules) (search rules) (search rules)
        (rw c.rule_of-rule.ensures at c.shorten-answer.ensures.does);
    written = c.put_framed.ensures;
  },
)
