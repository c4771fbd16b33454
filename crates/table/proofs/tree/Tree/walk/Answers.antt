-- The node at hand is the one with number c + 1.
use native.Mathlib.Omega.{arith}
use Rattle.table.proofs.Walks.{walking_start, walking_above}
use Rattle.table.proofs.tree.Tree.walk.Goals as goal

pub loop-c-init : goal.loop-c-init
loop-c-init c = walking_start c.requires c.leaf-v.ensures

pub next-v-requires : goal.next-v-requires
next-v-requires c =
    (c.visit.ensures.seated, walking_above c.loop-c.invariant (omega arith), c.loop-c.invariant.inside)
