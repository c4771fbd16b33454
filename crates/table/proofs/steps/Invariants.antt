-- No node on the way from v up to u is marked.
use Rattle.table.proofs.Marks.{Stepping}
use Rattle.table.proofs.steps.Given as goal

abbrev pub invariant-loop-k : goal.invariant-loop-k
invariant-loop-k l = Stepping l.parent l.work l.v l.u l.k
