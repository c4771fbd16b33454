-- The numbers below v are decoded.
use Rattle.std.proofs.Common.{◌+◌, ◌*◌, length}
use Rattle.treefile.specs.TreeFile.{word_at}
use Rattle.laws.specs.Filling.{Filled}
use Rattle.treefile.proofs.decode.Given as goal

abbrev pub invariant-loop-v : goal.invariant-loop-v
invariant-loop-v l = Filled (λ k. word_at l.bytes (l.a + 4 * k)) 0 (length l.initial.list) l.initial.list l.list l.v
