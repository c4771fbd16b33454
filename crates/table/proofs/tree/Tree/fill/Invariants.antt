-- The nodes below v are in their slots.
use Rattle.table.proofs.Walks.{Filling}
use Rattle.table.proofs.tree.Tree.fill.Given as goal

abbrev pub invariant-loop-v : goal.invariant-loop-v
invariant-loop-v l = Filling l.self.parent.now l.self.rank.now l.work l.v
