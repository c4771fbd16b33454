-- The number is between 1 and 2^32 - 1, so without 2^31 it is a difference of two places.
use mathlib.Core.Path.{◌∙◌, ap}
use lib.IntN.{pos, ◌-ℤ◌}
use Prim.Native.Nat.{ℕ, ◌≤◌}
use native.Mathlib.Omega.{arith}
use Rattle.monotone.proofs.Wide.{part_fits, part_is, part_small}
use Rattle.monotone.proofs.part.Goals as goal

pub overflow_sub-result : goal.overflow_sub-result
overflow_sub-result c = part_fits c.get-number.result (omega arith) c.get-number.ensures.1

pub returns : goal.returns
returns c =
    let some : 1 ≤ c.get-number.result = omega arith in (
      part_is c.get-number.result some c.get-number.ensures.1
          ∙ ap (λ (n : ℕ). pos n -ℤ pos 2147483648) c.get-number.ensures.0,
      part_small c.get-number.result some c.get-number.ensures.1,
    )
