-- The parts of the nodes below z are written, and nothing outside the region has changed.
use Rattle.monotone.proofs.Places.{Offsetting}
use Rattle.monotone.proofs.offsets.Given as goal

abbrev pub invariant-loop-z : goal.invariant-loop-z
invariant-loop-z l = Offsetting l.parent l.c l.at l.z l.initial.work l.work
