-- Up to p the tallies are summed up.
use Rattle.table.proofs.FirstSlots.{Accumulating}
use Rattle.table.proofs.accumulate.Given as goal

abbrev pub invariant-loop-p : goal.invariant-loop-p
invariant-loop-p l = Accumulating l.parent l.initial.work l.work l.p
