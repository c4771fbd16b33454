-- The nodes with numbers up to j have them.
use native.Mathlib.Omega.{arith}
use Rattle.table.proofs.Walks.{inverting_start, inverting_in, inverting_step, inverting_end}
use Rattle.table.proofs.tree.Tree.invert.Goals as goal

pub loop-j-init : goal.loop-j-init
loop-j-init c = inverting_start c.requires

pub put-requires : goal.put-requires
put-requires c = (
  inverting_in c.requires c.loop-j.invariant c.loop-j-test.true c.get-v.ensures.0,
  omega arith,
)

pub loop-j-preserved : goal.loop-j-preserved
loop-j-preserved c =
    inverting_step c.requires c.loop-j.invariant c.loop-j-test.true c.get-v.ensures.0
    c.put.ensures

pub returns : goal.returns
returns c = inverting_end c.requires c.loop-j.invariant c.loop-j-test.false
