-- `slopes::multiple_at` meets its contract: at most 32 zeros end a position.
use mathlib.Core.Path.{refl}
use native.Mathlib.Omega.{arith}
use lib.Count.{trailing_le}
use Rattle.slopes.proofs.multiple_at.Goals as goal

pub returns : goal.returns
returns c = (refl, omega (arith, trailing_le 32 c.args.j))

pub overflow_cast-result : goal.overflow_cast-result
overflow_cast-result c = omega (arith, trailing_le 32 c.args.j)

pub overflow_mul-result : goal.overflow_mul-result
overflow_mul-result c = omega (arith, trailing_le 32 c.args.j)

pub overflow_add-result : goal.overflow_add-result
overflow_add-result c = omega (arith, trailing_le 32 c.args.j)
