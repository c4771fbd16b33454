-- `slopes::levels_for` meets its contract: n - 1 has as many bits as there are levels.
use mathlib.Core.Path.{sym}
use lib.Count.{leading_le}
use Rattle.slopes.proofs.SlopeLaws.{levels_for_leading}
use Rattle.slopes.proofs.levels_for.Goals as goal

pub overflow_sub-result-2 : goal.overflow_sub-result-2
overflow_sub-result-2 c = leading_le 32 _

pub returns : goal.returns
returns c = sym (levels_for_leading 32 c.args.n c.requires.0 c.requires.1)
