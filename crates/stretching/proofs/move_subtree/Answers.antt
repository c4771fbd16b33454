-- The places of the subtree up to number j are moved.
use native.Mathlib.Omega.{arith}
use Rattle.stretching.proofs.Subtrees.{Visit, first_some, walk_node, moving_start, moving_can, moving_fits}
use Rattle.stretching.proofs.Subtrees.{moving_step, moving_end}
use Rattle.stretching.proofs.move_subtree.Goals as goal
use Rattle.stretching.proofs.move_subtree.Goals.{After-get-z}

pub overflow_sub-first : goal.overflow_sub-first
overflow_sub-first c = first_some c.args.tree.now.tree _ c.requires.1 c.get-first.ensures.0

pub loop-j-init : goal.loop-j-init
loop-j-init c = moving_start c.args.tree.now.tree c.requires.0 c.requires.1 c.get-last.ensures.0 c.get-first.ensures.0

-- the node at hand
node : (c : After-get-z) → Visit c.args.tree.now.parent.now c.args.tree.now.rank.now c.args.v c.loop-j.j c.get-z.result
node c = walk_node c.loop-j.invariant.walk c.loop-j-test.true c.get-z.ensures.0

pub get-place-requires : goal.get-place-requires
get-place-requires c =
    let here = node (goal.at.get-place-requires c).After-get-z in
    omega arith

pub changed-requires : goal.changed-requires
changed-requires c =
    moving_can c.loop-j.invariant (node (goal.at.changed-requires c).After-get-z) c.get-place.ensures.0

pub put-requires : goal.put-requires
put-requires c =
    let here = node (goal.at.put-requires c).After-get-z in
    let fits = moving_fits c.loop-j.invariant here c.get-place.ensures.0 c.get-place.ensures.1 in
    (omega arith, omega arith)

pub loop-j-preserved : goal.loop-j-preserved
loop-j-preserved c =
    moving_step c.loop-j.invariant c.loop-j-test.true (node (goal.at.loop-j-preserved c).After-get-z)
    c.get-place.ensures.0 c.changed.ensures c.put.ensures

pub returns : goal.returns
returns c = moving_end c.loop-j.invariant c.loop-j-test.false
