-- The loop's invariant is a walk towards the position: the turns that are left are the bits of the position from the one
-- below `bit` down to the one above the lowest 1.
use Rattle.std.proofs.Common.{◌-◌}
use lib.Count.{count_trailing_zeros}
use Rattle.slopes.proofs.Walk.{Walk}
use Rattle.slopes.proofs.descend.Given as goal

abbrev pub invariant-loop-bit : goal.invariant-loop-bit
invariant-loop-bit l = Walk l.k (count_trailing_zeros 32 l.j) l.j l.low l.high (l.bit - 1)
