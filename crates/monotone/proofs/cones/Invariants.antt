-- The list is cleared, climbed, spread over and turned back; each step says which region it leaves alone.
use Rattle.monotone.proofs.Spreading.{Spreading}
use Rattle.monotone.proofs.cones.Given as goal

abbrev pub invariant-loop-j : goal.invariant-loop-j
invariant-loop-j l = Spreading l.parent l.u l.j l.initial.work l.work
