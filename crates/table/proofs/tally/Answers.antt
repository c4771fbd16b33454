-- The children among the nodes before the one at hand are counted.
use native.Mathlib.Omega.{arith}
use Rattle.table.proofs.FirstSlots.{tallying_start, tallying_in, tallying_few, tallying_step, tallying_end}
use Rattle.table.proofs.tally.Goals as goal

pub loop-p-init : goal.loop-p-init
loop-p-init c = tallying_start c.requires.0 c.requires.1

pub overflow_add-work-in-loop-p : goal.overflow_add-work-in-loop-p
overflow_add-work-in-loop-p c = omega (arith, tallying_few c.requires.0 c.loop-p.invariant c.loop-p-test.true)

pub bounds-work-p-in-loop-p : goal.bounds-work-p-in-loop-p
bounds-work-p-in-loop-p c = tallying_in c.requires.0 c.loop-p.invariant c.loop-p-test.true

pub loop-p-preserved : goal.loop-p-preserved
loop-p-preserved c = tallying_step c.requires.0 c.loop-p.invariant c.loop-p-test.true

pub returns : goal.returns
returns c = tallying_end c.loop-p.invariant c.loop-p-test.false
