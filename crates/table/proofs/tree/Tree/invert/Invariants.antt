-- The nodes with numbers up to j have them.
use Rattle.table.proofs.Walks.{Inverting}
use Rattle.table.proofs.tree.Tree.invert.Given as goal

abbrev pub invariant-loop-j : goal.invariant-loop-j
invariant-loop-j l = Inverting l.self.parent.now l.self.rank.now l.initial.work l.work l.j
