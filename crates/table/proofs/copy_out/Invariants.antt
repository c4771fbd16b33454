-- The first i numbers are copied.
use Rattle.std.proofs.Common.{◌+◌, length, get_or}
use Rattle.laws.specs.Filling.{Filled}
use Rattle.table.proofs.copy_out.Given as goal

abbrev pub invariant-loop-i : goal.invariant-loop-i
invariant-loop-i l = Filled (λ k. get_or l.work (l.a + k) 0) 0 (length l.initial.list) l.initial.list l.list l.i
