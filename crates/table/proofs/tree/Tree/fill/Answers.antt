-- The nodes below v are in their slots.
use native.Mathlib.Omega.{arith}
use Rattle.table.proofs.Walks.{slot_in, filling_step}
use Rattle.table.proofs.tree.Tree.fill.Goals as goal

pub put-requires : goal.put-requires
put-requires c = (
  slot_in c.loop-v.invariant c.loop-v-test.true c.get-p.ensures.0 c.get-r.ensures.0 c.get.ensures.0,
  omega arith,
)

pub loop-v-preserved : goal.loop-v-preserved
loop-v-preserved c =
    filling_step c.loop-v.invariant c.loop-v-test.true c.get-p.ensures.0 c.get-r.ensures.0 c.get.ensures.0
    c.put.ensures
