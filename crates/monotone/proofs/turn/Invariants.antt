-- The edges below z are turned and no other; the root, where the loop ends, has no edge.
use Prim.Native.Nat.{◌*◌}
use lib.ListN.{length}
use Rattle.laws.specs.Regions.{Only}
use Rattle.table.specs.Ancestry.{depth}
use Rattle.monotone.proofs.Turning.{Turning}
use Rattle.monotone.proofs.turn.Given as goal

abbrev pub invariant-loop-z : goal.invariant-loop-z
invariant-loop-z l =
    Turning l.parent l.u l.z l.initial.work l.work × Only (length l.parent) (3 * length l.parent) l.initial.work
    l.work

abbrev pub decreases-loop-z : goal.decreases-loop-z
decreases-loop-z l = depth l.parent l.z
