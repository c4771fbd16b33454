-- Two numbers of 32 bits.
use mathlib.Core.Path.{refl}
use native.Mathlib.Omega.{arith}
use Rattle.inspecting.proofs.Fitting.{product_fits}
use Rattle.inspecting.proofs.product.Goals as goal

pub overflow_mul-result : goal.overflow_mul-result
overflow_mul-result c =
    let fits = product_fits c.args.count c.args.part c.requires (omega (arith, c.ranges.part)) in omega arith

pub returns : goal.returns
returns c = (refl, product_fits c.args.count c.args.part c.requires (omega (arith, c.ranges.part)))
