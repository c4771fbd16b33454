-- The subtrees on the way down start with the same node, and shrink.
use native.Mathlib.Omega.{arith}
use Rattle.table.proofs.Walks.{first_in, descending_slot, descending_inside, descending_step}
use Rattle.table.proofs.Walks.{descending_less, descending_end}
use Rattle.table.proofs.tree.Tree.leaf.Goals as goal

pub get-u-requires : goal.get-u-requires
get-u-requires c =
    descending_slot c.requires.0 c.loop-s.invariant c.get.ensures.0
    c.loop-s-test.true

pub get-s-requires-in-loop-s : goal.get-s-requires-in-loop-s
get-s-requires-in-loop-s c =
    omega (
      arith,
      first_in c.requires.0.ready _
          (descending_inside c.requires.0 c.loop-s.invariant c.get.ensures.0
          c.loop-s-test.true c.get-u.ensures.0),
    )

pub loop-s-smaller : goal.loop-s-smaller
loop-s-smaller c =
    descending_less c.requires.0 c.loop-s.invariant c.get.ensures.0
    c.loop-s-test.true c.get-u.ensures.0

pub loop-s-preserved : goal.loop-s-preserved
loop-s-preserved c =
    descending_step c.requires.0 c.loop-s.invariant c.get.ensures.0
    c.loop-s-test.true c.get-u.ensures.0 c.get-s-in-loop-s.ensures.0

pub returns : goal.returns
returns c =
    descending_end c.requires.0 c.loop-s.invariant c.get.ensures.0 c.requires.1
    c.loop-s-test.false
