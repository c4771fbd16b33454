-- The last child is followed by the parent, any other by the first node of the next sibling's subtree.
use native.Mathlib.Omega.{arith}
use Rattle.table.proofs.Walks.{first_in, next_parent, next_slot, sibling_inside, next_leaf}
use Rattle.table.proofs.tree.Tree.next.Goals as goal

pub get-requires : goal.get-requires
get-requires c =
    omega (
      arith,
      first_in c.requires.0.ready _
          (c.requires.0.ready.tree.inside _ c.requires.2),
      c.get-p.ensures,
    )

pub get-requires-2 : goal.get-requires-2
get-requires-2 c =
    omega (
      arith,
      first_in c.requires.0.ready _
          (c.requires.0.ready.tree.inside _ c.requires.2),
      c.get-p.ensures,
    )

pub returns-then-get-s : goal.returns-then-get-s
returns-then-get-s c =
    next_parent c.requires.0 c.requires.1 c.requires.2
    c.get-p.ensures.0 c.get-r.ensures.0 c.get.ensures.0
    c.get-2.ensures.0 c.if-get-s.true

pub get-u-requires : goal.get-u-requires
get-u-requires c =
    next_slot c.requires.0 c.requires.1 c.requires.2
    c.get-p.ensures.0 c.get-r.ensures.0 c.get.ensures.0
    c.get-2.ensures.0 c.if-get-s.false

pub leaf-requires : goal.leaf-requires
leaf-requires c = (
  c.requires.0,
  sibling_inside c.requires.0 c.requires.1 c.requires.2
      c.get-p.ensures.0 c.get-r.ensures.0
      c.get.ensures.0 c.get-2.ensures.0 c.if-get-s.false
      c.get-u.ensures.0,
)

pub returns : goal.returns
returns c =
    next_leaf c.requires.0 c.requires.1 c.requires.2 c.get-p.ensures.0
    c.get-r.ensures.0 c.get.ensures.0 c.get-2.ensures.0
    c.if-get-s.false c.get-u.ensures.0 c.leaf.ensures
