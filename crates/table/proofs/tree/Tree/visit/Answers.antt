-- v stands at its place of the order; its first number is its first child's, which is visited, or its own at a leaf.
use native.Mathlib.Omega.{arith}
use Rattle.table.proofs.Walks.{visited_room, visited_order, leaf_first, visited_slot}
use Rattle.table.proofs.Walks.{visited_child, child_first, visited_step}
use Rattle.table.proofs.tree.Tree.visit.Goals as goal

pub overflow_add-n : goal.overflow_add-n
overflow_add-n c = omega (arith, visited_room c.requires.0 c.requires.1 c.requires.2)

pub put-requires : goal.put-requires
put-requires c = (
  visited_order c.requires.0 c.requires.1 c.requires.2,
  omega arith,
)

pub overflow_add-c : goal.overflow_add-c
overflow_add-c c = omega (arith, visited_room c.requires.0 c.requires.1 c.requires.2)

pub put-requires-then-get-s : goal.put-requires-then-get-s
put-requires-then-get-s c = (
  omega arith,
  omega (
    arith,
    visited_room c.requires.0 c.requires.1 c.requires.2,
    c.requires.0.seated.ready.few,
  ),
)

pub returns-then-get-s : goal.returns-then-get-s
returns-then-get-s c =
    visited_step c.requires.0 c.requires.1 c.requires.2 c.put.ensures
    (leaf_first c.requires.0 c.requires.1 c.requires.2 c.put.ensures
    c.get-s.ensures.0 c.get.ensures.0 c.if-get-s.true)
    c.put-then-get-s.ensures

pub get-u-requires : goal.get-u-requires
get-u-requires c =
    visited_slot c.requires.0 c.requires.1 c.requires.2
    c.put.ensures c.get-s.ensures.0 c.get.ensures.0
    c.if-get-s.false

pub get-f-requires : goal.get-f-requires
get-f-requires c =
    visited_child c.requires.0 c.requires.1 c.requires.2
    c.put.ensures c.get-s.ensures.0 c.get.ensures.0
    c.if-get-s.false c.get-u.ensures.0

pub returns : goal.returns
returns c =
    visited_step c.requires.0 c.requires.1 c.requires.2 c.put.ensures
    (child_first c.requires.0 c.requires.1 c.requires.2 c.put.ensures
    c.get-s.ensures.0 c.get.ensures.0 c.if-get-s.false
    c.get-u.ensures.0 c.get-f.ensures.0) c.put-2.ensures
