-- A refusal leaves the drawing; an accepted table is drawn.
use Rattle.std.proofs.Common.{refl, ap, ◌∙◌}
use Rattle.std.proofs.lemmas.Result.{err_from_is_err_and}
use Rattle.drawing.specs.Drawing.{frame}
use Rattle.drawing.proofs.Settling.{blank, fresh_framable, laid_refused, laid_fresh, prepared_as}
use Rattle.drawing.proofs.layout_within.Goals as goal

pub returns-in_err-prepare : goal.returns-in_err-prepare
returns-in_err-prepare c =
    let p = err_from_is_err_and c.from_residual.result c.from_residual.ensures.1 in
    let refused = prepared_as c.read.ensures c.in_err-prepare.ensures in
    record { does = rw (p.1, p.2) (laid_refused refused _ refl); lists = (refl, refl, refl) }

pub draw-requires : goal.draw-requires
draw-requires c = blank (prepared_as c.read.ensures c.in_ok-prepare.ensures) c.requires.0 c.requires.1 refl

pub frame-requires : goal.frame-requires
frame-requires c =
    let prepared = prepared_as c.read.ensures c.in_ok-prepare.ensures in
    fresh_framable prepared _ c.requires.0 c.requires.1 refl (c.read-2.ensures ∙ c.draw.ensures.fresh)

pub returns : goal.returns
returns c =
    let prepared = prepared_as c.read.ensures c.in_ok-prepare.ensures in
    record {
      does = laid_fresh prepared _ refl c.draw.ensures.fresh c.free_all.ensures (c.frame.ensures ∙ ap frame c.read-2.ensures);
      lists = c.draw.ensures.lists;
    }
