-- The first test that fails decides.
use native.Mathlib.Omega.{arith}
use Rattle.drawing.specs.Lists.{read}
use Rattle.inspecting.proofs.Fitting.{fits_never, fits_not_x, fits_x}
use Rattle.inspecting.proofs.node_fits.Goals as goal

pub returns-then-t-lt1 : goal.returns-then-t-lt1
returns-then-t-lt1 c =
    fits_never _ _ _ _ (read c.args.drawing.now) c.requires.1 c.get-t.ensures.0 c.if-t-lt1.true

pub placed-right-requires : goal.placed-right-requires
placed-right-requires c =
    let inside = c.requires.0.numbered.tree.inside c.args.v c.requires.2 in
    (omega arith, omega (arith, c.requires.2, c.requires.0.x), c.product.ensures.1)

pub returns-then-not-right : goal.returns-then-not-right
returns-then-not-right c =
    fits_not_x _ _ _ _ _ c.requires.1 c.get-t.ensures.0 c.get-p.ensures.0 c.requires.3
    c.if-t-lt1.false c.product.ensures.0 c.placed-right.ensures c.if-not-right.true

pub placed-requires : goal.placed-requires
placed-requires c =
    let inside = c.requires.0.numbered.tree.inside c.args.v c.requires.2 in
    (omega arith, omega (arith, c.requires.2, c.requires.0.y), c.product-2.ensures.1)

pub returns : goal.returns
returns c =
    fits_x _ _ _ _ _ c.requires.1 c.get-t.ensures.0 c.get-p.ensures.0 c.requires.3
    c.if-t-lt1.false c.product.ensures.0 c.placed-right.ensures
    c.if-not-right.false c.product-2.ensures.0 c.placed.ensures
