-- While the parent of z does not have v in its subtree, it is still below the lowest common ancestor, and less deep.
use Rattle.table.specs.Ancestry.{depth}
use Rattle.direction.proofs.Ascent.{Ascending}
use Rattle.direction.proofs.below_meeting.Given as goal

abbrev pub invariant-loop-u : goal.invariant-loop-u
invariant-loop-u l = Ascending l.tree.parent.now l.u l.v l.z

abbrev pub decreases-loop-u : goal.decreases-loop-u
decreases-loop-u l = depth l.tree.parent.now l.z
