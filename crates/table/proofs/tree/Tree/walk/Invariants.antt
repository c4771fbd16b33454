-- The node at hand is the one with number c + 1.
use Rattle.table.proofs.Walks.{Walking}
use Rattle.table.proofs.tree.Tree.walk.Given as goal

abbrev pub invariant-loop-c : goal.invariant-loop-c
invariant-loop-c l = Walking l.self.parent.now l.self.rank.now l.work l.v l.c
