-- Refusals 1 to 8, then lengthen on an accepted sheet, then its frame.
use Rattle.std.proofs.Common.{refl, ap, ◌∙◌}
use Rattle.std.proofs.lemmas.Result.{err_from_is_err_and}
use Rattle.drawing.specs.Drawing.{frame}
use Rattle.drawing.specs.Parts.{framable}
use Rattle.stretching.proofs.Openings.{opened, opened_after}
use Rattle.stretching.proofs.Outcomes.{sheet_refused, edge_refused, edge-longer}
use Rattle.stretching.proofs.Reading.{inspecting_as}
use Rattle.stretching.proofs.lengthen_within.Goals as goal

pub returns-in_err-inspect : goal.returns-in_err-inspect
returns-in_err-inspect c =
    let p = err_from_is_err_and c.from_residual.result c.from_residual.ensures.1 in
    record {
      does = rw (p.1, p.2) (sheet_refused _ (inspecting_as _ c.read.ensures c.in_err-inspect.ensures) _ _ refl);
      lists = (refl, refl, refl);
    }

pub lengthen_edge-requires : goal.lengthen_edge-requires
lengthen_edge-requires c = (c.requires, opened (inspecting_as _ c.read.ensures c.in_ok-inspect.ensures) refl)

pub returns-in_err-lengthen_edge : goal.returns-in_err-lengthen_edge
returns-in_err-lengthen_edge c =
    let p = err_from_is_err_and c.from_residual-in_err-lengthen_edge.result
    c.from_residual-in_err-lengthen_edge.ensures.1 in
    record {
      does = rw (p.1, p.2) (edge_refused _ (inspecting_as _ c.read.ensures c.in_ok-inspect.ensures) _ _ _ _
          c.in_err-lengthen_edge.ensures.lengthened refl);
      lists = c.in_err-lengthen_edge.ensures.lists;
    }

pub frame-requires : goal.frame-requires
frame-requires c =
    framable c.requires
    (opened_after (opened (inspecting_as _ c.read.ensures c.in_ok-inspect.ensures) refl) _ _ _ _
    c.in_ok-lengthen_edge.ensures.lengthened).inspected.sound.drawn
    c.read-2.ensures

pub returns : goal.returns
returns c = record {
  does = edge-longer _ (inspecting_as _ c.read.ensures c.in_ok-inspect.ensures) _ _ _ _
      c.in_ok-lengthen_edge.ensures.lengthened refl (c.frame.ensures ∙ ap frame c.read-2.ensures);
  lists = c.in_ok-lengthen_edge.ensures.lists;
}
