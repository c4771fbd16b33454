-- Both coordinates of the subtree are moved by the count times the slope of v's edge, and the count goes to its times.
use Rattle.std.proofs.Common.{refl}
use Rattle.slopes.specs.Slopes.{across_of, up_of}
use Rattle.stretching.proofs.Outcomes.{movable_at, stretched_is}
use Rattle.stretching.proofs.stretch.Goals as goal

pub move_subtree-requires : goal.move_subtree-requires
move_subtree-requires c = (
  movable_at across_of _ c.product.ensures.0 c.requires.1 c.requires.0.x,
  c.requires.0.inside,
)

pub move_subtree-requires-2 : goal.move_subtree-requires-2
move_subtree-requires-2 c =
    (movable_at up_of _ c.product-2.ensures.0 c.requires.1 c.requires.0.y, c.requires.0.inside)

pub returns-clause-stretched : goal.returns-clause-stretched
returns-clause-stretched c =
    stretched_is c.requires.0 c.requires.1 c.product.ensures.0
    c.product-2.ensures.0 refl c.changed.ensures c.put.ensures
    c.move_subtree.ensures c.move_subtree-2.ensures
