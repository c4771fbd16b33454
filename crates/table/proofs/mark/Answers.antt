-- The nodes passed on the way are marked, and whoever is marked leads to node 0.
use native.Mathlib.Omega.{arith}
use Rattle.table.proofs.Marks.{passing_start, passing_inside, passing_in, passing_step, passing_end}
use Rattle.table.proofs.mark.Goals as goal

pub loop-init : goal.loop-init
loop-init c = passing_start c.requires

pub overflow_add-n : goal.overflow_add-n
overflow_add-n c = omega (arith, passing_inside c.requires c.loop.invariant)

pub put-requires : goal.put-requires
put-requires c = (passing_in c.requires c.loop.invariant, omega arith)

pub get-u-requires : goal.get-u-requires
get-u-requires c = passing_inside c.requires c.loop.invariant

pub loop-preserved : goal.loop-preserved
loop-preserved c =
    passing_step c.requires c.loop.invariant c.loop-test.true c.put.ensures c.get-u.ensures.0

pub returns-clause-marking : goal.returns-clause-marking
returns-clause-marking c = passing_end c.requires c.loop.invariant c.loop-test.false
