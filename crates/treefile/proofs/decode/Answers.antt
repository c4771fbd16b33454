-- The numbers below v are decoded.
use Rattle.std.proofs.Common.{refl}
use Rattle.treefile.specs.TreeFile.{words}
use Rattle.laws.specs.Filling.{filled_all}
use Rattle.treefile.proofs.decode.Goals as goal

pub returns : goal.returns
unfolding words
returns c = filled_all c.loop-v.invariant c.loop-v-test.false refl
