-- The numbers below v are written.
use Rattle.treefile.proofs.Encoding.{Encoding}
use Rattle.treefile.proofs.encode.Given as goal

abbrev pub invariant-loop-v : goal.invariant-loop-v
invariant-loop-v l = Encoding l.list l.initial.bytes l.bytes l.a l.v
