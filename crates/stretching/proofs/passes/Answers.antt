-- The places of the subtree up to number j are within the limit.
use native.Mathlib.Omega.{arith}
use Rattle.stretching.proofs.Subtrees.{Visit, first_some, walk_node, clear_start, clear_step, clear_end}
use Rattle.stretching.proofs.Subtrees.{passes_yes}
use Rattle.stretching.proofs.passes.Goals as goal
use Rattle.stretching.proofs.passes.Goals.{After-get-z}

pub overflow_sub-first : goal.overflow_sub-first
overflow_sub-first c = first_some c.args.tree.now.tree _ c.requires.1 c.get-first.ensures.0

pub loop-j-init : goal.loop-j-init
loop-j-init c =
    clear_start _ _ _ c.args.tree.now.tree c.requires.0 c.requires.1 c.get-last.ensures.0
    c.get-first.ensures.0

-- the node at hand
node : (c : After-get-z) → Visit c.args.tree.now.parent.now c.args.tree.now.rank.now c.args.v c.loop-j.j c.get-z.result
node c = walk_node c.loop-j.invariant.walk c.loop-j-test.true c.get-z.ensures.0

pub get-requires : goal.get-requires
get-requires c =
    let here = node (goal.at.get-requires c).After-get-z in
    omega arith

pub returns-then-limit-get : goal.returns-then-limit-get
returns-then-limit-get c =
    passes_yes (node (goal.at.returns-then-limit-get c).After-get-z) c.get.ensures.0 c.if-limit-get.true

pub loop-j-preserved : goal.loop-j-preserved
loop-j-preserved c =
    clear_step c.loop-j.invariant c.loop-j-test.true (node (goal.at.loop-j-preserved c).After-get-z)
    c.get.ensures.0 c.if-limit-get.false

pub returns : goal.returns
returns c = clear_end c.loop-j.invariant c.loop-j-test.false
