-- The places of the subtree up to number j are moved.
use Rattle.stretching.proofs.Subtrees.{Moving}
use Rattle.stretching.proofs.move_subtree.Given as goal

abbrev pub invariant-loop-j : goal.invariant-loop-j
invariant-loop-j l = Moving l.tree.parent.now l.tree.rank.now l.tree.work.now l.initial.places l.v l.d l.longer l.places l.last l.j
