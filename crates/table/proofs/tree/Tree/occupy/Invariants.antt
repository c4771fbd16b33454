-- The nodes below v are counted in their slots.
use Prim.Native.Nat.{◌+◌, ◌*◌}
use lib.ListN.{length}
use Rattle.laws.specs.Regions.{Only}
use Rattle.table.specs.Parts.{Seating}
use Rattle.table.proofs.tree.Tree.occupy.Given as goal

abbrev pub invariant-loop-v : goal.invariant-loop-v
invariant-loop-v l =
    Seating l.self.parent.now l.self.rank.now l.work l.v
    × Only (length l.self.parent.now + 1) (2 * length l.self.parent.now) l.initial.work l.work
