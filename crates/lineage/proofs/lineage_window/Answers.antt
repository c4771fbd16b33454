-- The call's own contract, with its answer written.
use mathlib.Core.Path.{refl}
use Rattle.lineage.specs.Exports.{Replied}
use Rattle.lineage.proofs.lineage_window.Goals as goal

pub returns-then-reply-ne3 : goal.returns-then-reply-ne3
unfolding Replied
returns-then-reply-ne3 c = (λ long. c.if-reply-ne3.true long.1, refl, tt)

pub returns-then-point-ne2 : goal.returns-then-point-ne2
unfolding Replied
returns-then-point-ne2 c = (λ long. c.if-point-ne2.true long.0, refl, tt)

pub returns : goal.returns
unfolding Replied
returns c = (
  (c.if-point-ne2.false, c.if-reply-ne3.false),
  record {
    answer = c.window-answer.result;
    kept = c.window-answer.ensures;
    written = c.put_view.ensures;
  },
)
