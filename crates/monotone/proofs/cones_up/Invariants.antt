-- The path to an ancestor's parent is one edge more, which is turned round first; the loop ends at the root.
use Rattle.table.specs.Ancestry.{depth}
use Rattle.monotone.proofs.Climbing.{Climbing}
use Rattle.monotone.proofs.cones_up.Given as goal

abbrev pub invariant-loop-z : goal.invariant-loop-z
invariant-loop-z l = Climbing l.parent l.u l.z l.initial.work l.work l.cone

abbrev pub decreases-loop-z : goal.decreases-loop-z
decreases-loop-z l = depth l.parent l.z
