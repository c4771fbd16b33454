-- The sums of the parts are below 2^31, so they and their negations are signed numbers.
use Rattle.direction.proofs.Signs32.{turned_left, turned_right}
use Rattle.direction.proofs.turned.Goals as goal

pub returns-then-left : goal.returns-then-left
returns-then-left c = turned_left c.requires.0 c.requires.1 c.if-left.true c.minus.ensures c.plus.ensures

pub returns : goal.returns
returns c = turned_right c.requires.0 c.requires.1 c.if-left.false c.plus-2.ensures c.minus-2.ensures
