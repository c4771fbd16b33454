-- Up to p the tallies are summed up.
use native.Mathlib.Omega.{arith}
use Rattle.table.proofs.FirstSlots.{accumulating_start, accumulating_few, accumulating_step}
use Rattle.table.proofs.accumulate.Goals as goal

pub loop-p-init : goal.loop-p-init
loop-p-init c = accumulating_start c.requires.1

pub overflow_add-work-in-loop-p : goal.overflow_add-work-in-loop-p
overflow_add-work-in-loop-p c =
    omega (arith, accumulating_few c.requires.0 c.loop-p.invariant c.loop-p-test.true, c.requires.0.few)

pub loop-p-preserved : goal.loop-p-preserved
loop-p-preserved c = accumulating_step c.requires.0 c.loop-p.invariant c.loop-p-test.true
