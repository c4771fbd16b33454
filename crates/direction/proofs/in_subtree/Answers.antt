-- A subtree is an interval of post numbers.
use Rattle.direction.proofs.Intervals.{under-by_last, under-by_first}
use Rattle.direction.proofs.in_subtree.Goals as goal

pub returns-then-first-k : goal.returns-then-first-k
returns-then-first-k c =
    under-by_last c.args.tree.now.tree c.requires c.get-k.ensures.0
    c.get-first.ensures.0 c.get-last.ensures.0 c.if-first-k.true

pub returns-else-first-k : goal.returns-else-first-k
returns-else-first-k c =
    under-by_first c.args.tree.now.tree c.requires c.get-k.ensures.0
    c.get-first.ensures.0 c.get-last.ensures.0 c.if-first-k.false
