-- The bytes that are still to come.
use Rattle.std.proofs.Common.{◌-◌, ◌≤◌, length}
use Rattle.sheet.proofs.read_full.Given as goal

abbrev pub invariant-loop-m : goal.invariant-loop-m
invariant-loop-m g l = l.m ≤ length l.bytes

abbrev pub decreases-loop-m : goal.decreases-loop-m
decreases-loop-m g l = length l.initial.bytes - l.m
