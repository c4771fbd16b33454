-- The powers of ten are taken one after the other, up to n.
use Prim.Native.Nat.{◌-◌}
use Rattle.text.proofs.Spelling.{Climbing}
use Rattle.text.proofs.unit.Given as goal

abbrev pub invariant-loop-d : goal.invariant-loop-d
invariant-loop-d l = Climbing l.n l.d

abbrev pub decreases-loop-d : goal.decreases-loop-d
decreases-loop-d l = l.n - l.d
