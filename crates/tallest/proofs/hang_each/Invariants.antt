-- The root, then node by node: of the first v nodes each has its parent.
use Prim.Native.Nat.{◌-◌}
use lib.ListN.{length}
use Rattle.laws.specs.Filling.{Filled}
use Rattle.tallest.proofs.hang_each.Given as goal

abbrev pub invariant-loop-v : goal.invariant-loop-v
invariant-loop-v l = Filled (λ v. v - 1) 0 (length l.fn.parent) l.fn.parent l.parent l.v
