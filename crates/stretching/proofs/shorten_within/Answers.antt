-- Refusals 1 to 10 and 22, then 12, then the shorter drawing.
use Rattle.std.proofs.Common.{refl, ap, arith, ◌∙◌}
use Rattle.std.proofs.lemmas.Result.{err_from_is_err_and}
use Rattle.drawing.specs.Drawing.{frame}
use Rattle.drawing.specs.Parts.{framable}
use Rattle.stretching.proofs.Outcomes.{free_of, shortened_refused, shortened_12, can_shorten}
use Rattle.stretching.proofs.Outcomes.{new_shorter, shortened}
use Rattle.stretching.proofs.Reading.{unheld_as}
use Rattle.stretching.proofs.shorten_within.Goals as goal

pub returns-in_err-examine_free : goal.returns-in_err-examine_free
returns-in_err-examine_free c =
    let p = err_from_is_err_and c.from_residual.result c.from_residual.ensures.1 in
    record {
      does = rw (p.1, p.2) (shortened_refused _ _ (unheld_as _ c.read.ensures _ c.in_err-examine_free.ensures) _ refl);
      lists = (refl, refl, refl);
    }

pub bounds-drawing-v : goal.bounds-drawing-v
bounds-drawing-v c =
    let x = free_of _ _ (unheld_as _ c.read.ensures _ c.in_ok-examine_free.ensures) refl in
    let inside = x.inside in
    let long = x.inspected.sound.drawn.long in
    omega arith

pub returns-then-drawing-v : goal.returns-then-drawing-v
returns-then-drawing-v c = record {
  does = rw c.at.ensures (shortened_12 _ _ (unheld_as _ c.read.ensures _ c.in_ok-examine_free.ensures) _ refl
      refl c.if-drawing-v.true);
  lists = (refl, refl, refl);
}

pub edge_slope-slope-requires : goal.edge_slope-slope-requires
edge_slope-slope-requires c =
    let x = free_of _ _ (unheld_as _ c.read.ensures _ c.in_ok-examine_free.ensures) refl in
    (x.above, x.inside)

pub stretch-requires : goal.stretch-requires
stretch-requires c = (
  can_shorten _ _ (unheld_as _ c.read.ensures _ c.in_ok-examine_free.ensures) _ refl
      refl c.if-drawing-v.false,
  c.edge_slope-slope.ensures,
)

pub frame-requires : goal.frame-requires
frame-requires c =
    framable c.requires
    (new_shorter _ _ (unheld_as _ c.read.ensures _ c.in_ok-examine_free.ensures) _ refl refl
    c.if-drawing-v.false)
    (c.read-2.ensures ∙ c.stretch.ensures.stretched)

pub returns : goal.returns
returns c = record {
  does = shortened _ _ (unheld_as _ c.read.ensures _ c.in_ok-examine_free.ensures) _ refl
      refl c.if-drawing-v.false c.stretch.ensures.stretched (c.frame.ensures ∙ ap frame c.read-2.ensures);
  lists = c.stretch.ensures.lists;
}
