-- No node on the way from v up to u is marked.
use native.Mathlib.Omega.{arith}
use Rattle.table.proofs.Marks.{stepping_start, stepping_found, stepping_step, stepping_end}
use Rattle.table.proofs.steps.Goals as goal

pub loop-k-init : goal.loop-k-init
loop-k-init c = stepping_start _ c.requires.1

pub returns-then-get-gt0 : goal.returns-then-get-gt0
returns-then-get-gt0 c = (
  omega arith,
  stepping_found c.requires.0 c.loop-k.invariant c.loop-k-test.true
      c.get.ensures.0 c.if-get-gt0.true,
)

pub loop-k-preserved : goal.loop-k-preserved
loop-k-preserved c =
    stepping_step c.requires.0 c.loop-k.invariant c.loop-k-test.true
    c.get.ensures.0 c.if-get-gt0.false c.get-u.ensures.0

pub returns-else-get-gt0 : goal.returns-else-get-gt0
returns-else-get-gt0 c =
    omega (
      arith,
      stepping_end c.requires.0 (stepping_step c.requires.0 c.loop-k.invariant c.loop-k.auto.k-end
          c.get.ensures.0 c.if-get-gt0.false c.get-u.ensures.0) (omega arith),
    )
