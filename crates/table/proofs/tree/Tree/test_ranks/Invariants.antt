-- No node below v has a rank that is too high or a sibling's too.
use Rattle.table.proofs.Seats.{Ranking}
use Rattle.table.proofs.tree.Tree.test_ranks.Given as goal

abbrev pub invariant-loop-v : goal.invariant-loop-v
invariant-loop-v l = Ranking l.self.parent.now l.self.rank.now l.v
