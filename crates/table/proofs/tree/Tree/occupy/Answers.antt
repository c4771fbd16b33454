-- The nodes below v are counted in their slots.
use native.Mathlib.Omega.{arith}
use Rattle.laws.specs.Regions.{only_refl}
use Rattle.table.proofs.Seats.{seating_start, seating_end}
use Rattle.table.proofs.tree.Tree.occupy.Goals as goal

pub loop-v-init : goal.loop-v-init
loop-v-init c = (
  seating_start c.requires.scratch.0 c.requires.scratch.1 c.requires.started.0 c.requires.started.1,
  only_refl _ _ _,
)

pub returns : goal.returns
returns c = (seating_end c.loop-v.invariant.0 (omega (arith, c.requires.scratch.0.nodes.some)), c.loop-v.invariant.1)
