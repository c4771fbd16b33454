-- The first i numbers are copied.
use Rattle.std.proofs.Common.{length, get_or}
use Rattle.laws.specs.Filling.{Filled}
use Rattle.treefile.proofs.save.Given as goal

abbrev pub invariant-loop-i : goal.invariant-loop-i
invariant-loop-i l = Filled (λ k. get_or l.list k 0) l.a (length l.list) l.initial.work l.work l.i
