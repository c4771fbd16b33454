-- Refusals 9, 10 and 22, then the limit, then the longer drawing.
use Rattle.std.proofs.Common.{◌≡◌, refl, ap, length, ◌∙◌}
use Rattle.std.proofs.Math.Path.{subst⁻¹}
use Rattle.std.proofs.lemmas.Result.{err_from_is_err_and}
use Rattle.drawing.specs.Drawing.{Drawing}
use Rattle.drawing.specs.DrawingLaws.{Drawn}
use Rattle.drawing.specs.Lists.{written}
use Rattle.stretching.specs.Stretching.{beyond}
use Rattle.stretching.specs.Stretches.{longer}
use Rattle.stretching.proofs.Outcomes.{examined_of, lengthened_refused, lengthened_beyond, lengthened}
use Rattle.stretching.proofs.Outcomes.{can_lengthen}
use Rattle.stretching.proofs.lengthen_edge.Goals as goal
use Rattle.stretching.proofs.lengthen_edge.Goals.{After-too_far-far}

pub returns-in_err-test_free : goal.returns-in_err-test_free
returns-in_err-test_free c =
    let p = err_from_is_err_and c.from_residual.result c.from_residual.ensures.1 in
    record {
      lengthened = rw (p.1, p.2) (lengthened_refused _ c.requires.1 _ c.in_err-test_free.ensures _ refl);
      lists = (refl, refl, refl);
    }

pub edge_slope-slope-requires : goal.edge_slope-slope-requires
edge_slope-slope-requires c =
    let x = examined_of _ c.requires.1 _ c.in_ok-test_free.ensures refl in
    (x.above, x.inside)

pub too_far-far-requires : goal.too_far-far-requires
too_far-far-requires c =
    let x = examined_of _ c.requires.1 _ c.in_ok-test_free.ensures refl in (
      subst⁻¹ (λ (d : Drawing). Drawn c.args.limits.place c.args.tree.now.parent.now c.args.tree.now.rank.now c.args.rule d)
          c.read.ensures c.requires.1.inspected.sound.drawn,
      x.inside,
      c.edge_slope-slope.ensures,
    )

-- of the drawing that is stretched
far : (c : After-too_far-far) → c.too_far-far.result ≡ beyond c.args.limits.place (length c.args.tree.now.parent.now)
    (longer c.args.tree.now.parent.now c.args.tree.now.rank.now c.args.rule (written c.args.drawing.now) c.args.lot c.args.count)
far c =
    c.too_far-far.ensures
    ∙ ap (λ (d : Drawing). beyond c.args.limits.place (length c.args.tree.now.parent.now)
    (longer c.args.tree.now.parent.now c.args.tree.now.rank.now c.args.rule d c.args.lot c.args.count)) c.read.ensures

pub returns-then-far : goal.returns-then-far
returns-then-far c = record {
  lengthened = rw c.at.ensures (lengthened_beyond _ c.requires.1 _ c.in_ok-test_free.ensures _ refl
      (far (goal.at.returns-then-far c).After-too_far-far) c.if-far.true);
  lists = (refl, refl, refl);
}

pub stretch-requires : goal.stretch-requires
stretch-requires c = (
  can_lengthen _ c.requires.1 _ c.in_ok-test_free.ensures _ refl
      (far (goal.at.stretch-requires c).After-too_far-far) c.if-far.false c.requires.0,
  c.edge_slope-slope.ensures,
)

pub returns : goal.returns
returns c = record {
  lengthened = lengthened _ c.requires.1 _ c.in_ok-test_free.ensures _ refl
      (far (goal.at.returns c).After-too_far-far) c.if-far.false c.stretch.ensures.stretched;
  lists = c.stretch.ensures.lists;
}
