-- Either coordinate of the subtree, or none of both.
use Rattle.drawing.specs.Lists.{read}
use Rattle.stretching.proofs.Outcomes.{too_far_x, too_far_else}
use Rattle.stretching.proofs.too_far.Goals as goal

pub passes-wide-requires : goal.passes-wide-requires
passes-wide-requires c = (c.requires.0.x.long, c.requires.1, c.product.ensures.1)

pub returns-then-wide : goal.returns-then-wide
returns-then-wide c =
    too_far_x _ _ _ _ (read c.args.drawing.now) _ _ c.requires.2 c.product.ensures.0 c.passes-wide.ensures
    c.if-wide.true

pub passes-requires : goal.passes-requires
passes-requires c = (c.requires.0.y.long, c.requires.1, c.product-2.ensures.1)

pub returns : goal.returns
returns c =
    too_far_else _ _ _ _ (read c.args.drawing.now) _ _ c.requires.2 c.requires.0
    c.product.ensures.0 c.passes-wide.ensures c.if-wide.false c.product-2.ensures.0
    c.passes.ensures
