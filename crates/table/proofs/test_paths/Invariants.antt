-- The nodes below v lead to node 0.
use Rattle.table.proofs.Marks.{Drifting}
use Rattle.table.proofs.test_paths.Given as goal

abbrev pub invariant-loop-v : goal.invariant-loop-v
invariant-loop-v l = Drifting l.parent l.initial.work l.work l.v
