-- The subtrees on the way down start with the same node, and shrink.
use Rattle.table.proofs.Postorder.{size}
use Rattle.table.proofs.Walks.{Descending}
use Rattle.table.proofs.tree.Tree.leaf.Given as goal

abbrev pub invariant-loop-s : goal.invariant-loop-s
invariant-loop-s l = Descending l.self.parent.now l.self.rank.now l.work l.v l.u l.s

abbrev pub decreases-loop-s : goal.decreases-loop-s
decreases-loop-s l = size l.self.parent.now l.self.rank.now l.u
