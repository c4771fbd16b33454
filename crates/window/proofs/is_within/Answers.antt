-- From the corner on, the distance is compared with the side.
use borrow.Author.Tests.{lt-leb}
use Rattle.window.specs.Window.{within}
use Rattle.window.proofs.Sides.{within_distance}
use Rattle.window.proofs.is_within.Goals as goal

pub returns-then-c-corner : goal.returns-then-c-corner
unfolding within
returns-then-c-corner c = rw (lt-leb _ _ c.if-c-corner.true)

pub returns : goal.returns
returns c =
    let args = c.args in
    within_distance args.corner args.side args.c c.if-c-corner.false
