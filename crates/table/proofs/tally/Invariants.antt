-- The children among the nodes before the one at hand are counted.
use Prim.Native.Nat.{◌+◌}
use Rattle.table.proofs.FirstSlots.{Tallying}
use Rattle.table.proofs.tally.Given as goal

abbrev pub invariant-loop-p : goal.invariant-loop-p
invariant-loop-p l = Tallying l.parent l.initial.work l.work (l.p-index + 1)
