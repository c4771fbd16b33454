-- The root, then node by node: of the first v nodes each has its parent.
use mathlib.Core.Path.{refl}
use native.Mathlib.Omega.{arith}
use Rattle.laws.specs.Filling.{filled_all}
use Rattle.tallest.specs.Tallest.{chain_of}
use Rattle.tallest.proofs.hang_each.Goals as goal

pub returns : goal.returns
unfolding chain_of
returns c = filled_all c.loop-v.invariant (omega arith) refl
