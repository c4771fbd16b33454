-- Every pair before the loops' place has a direction; the first cone that is 2 is that of the first pair that has none.
use Rattle.std.proofs.Common.{◌≡◌, None}
use Rattle.monotone.proofs.Deciding.{Clear, OverRows}
use Rattle.monotone.proofs.pairs.Given as goal

abbrev pub invariant-pairs : goal.invariant-pairs
invariant-pairs l = OverRows l.parent l.initial.work l.u l.work l.turning

abbrev pub invariant-loop-v : goal.invariant-loop-v
invariant-loop-v l = Clear l.work l.u l.v × (l.turning ≡ None)
