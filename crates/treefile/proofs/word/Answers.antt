-- Four bytes make one number, least byte first.
use Rattle.std.proofs.Common.{arith}
use Rattle.treefile.specs.TreeFile.{word_at}
use Rattle.treefile.proofs.word.Goals as goal

pub returns : goal.returns
unfolding word_at
returns c = (omega (arith, c.from_le_bytes.ensures), omega arith)
