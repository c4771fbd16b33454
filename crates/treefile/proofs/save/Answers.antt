-- The first i numbers are copied.
use Rattle.std.proofs.Common.{arith}
use Rattle.treefile.proofs.save.Goals as goal

pub returns : goal.returns
returns c = (record { same = λ k l. c.loop-i.invariant.done k (omega arith) }, c.loop-i.invariant.kept)
