-- The nodes passed on the way are marked, and whoever is marked leads to node 0.
use Rattle.table.proofs.Marks.{Passing}
use Rattle.table.proofs.mark.Given as goal

abbrev pub invariant-loop : goal.invariant-loop
invariant-loop l = Passing l.parent l.initial.work l.work l.v l.k l.u l.counter
