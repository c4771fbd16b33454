-- The places of the subtree up to number j are within the limit.
use Rattle.stretching.proofs.Subtrees.{Clear}
use Rattle.stretching.proofs.passes.Given as goal

abbrev pub invariant-loop-j : goal.invariant-loop-j
invariant-loop-j l = Clear l.limit l.tree.parent.now l.tree.rank.now l.tree.work.now l.places l.v l.d l.last l.j
