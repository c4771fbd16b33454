-- The powers of ten are taken one after the other, up to n.
use native.Mathlib.Omega.{arith}
use Rattle.text.proofs.Spelling.{climbing_start, climbing_step, climbing_end, climbing_low}
use Rattle.text.proofs.Spelling.{power_positive}
use Rattle.text.proofs.unit.Goals as goal

pub loop-d-init : goal.loop-d-init
loop-d-init c = climbing_start _

pub loop-d-preserved : goal.loop-d-preserved
loop-d-preserved c = climbing_step c.loop-d.invariant c.loop-d-test.true

pub returns : goal.returns
returns c = climbing_end c.loop-d.invariant (omega (arith, c.loop-d-test.false))

pub overflow_mul-d : goal.overflow_mul-d
overflow_mul-d c = omega (arith, c.requires, climbing_low c.loop-d.invariant)

pub loop-d-smaller : goal.loop-d-smaller
loop-d-smaller c = omega (arith, power_positive c.loop-d.invariant.power, c.loop-d-test.true)
