-- More or less, as `longer` says.
use mathlib.Core.Bool.{Bool}
use mathlib.Core.Path.{sym, ap}
use native.Mathlib.Omega.{arith}
use Rattle.stretching.specs.Parts.{by}
use Rattle.stretching.proofs.changed.Goals as goal

pub overflow_sub-result : goal.overflow_sub-result
overflow_sub-result c = c.requires.1 c.if-longer.false

pub returns-then-longer : goal.returns-then-longer
returns-then-longer c = sym (ap (λ (b : Bool). by b c.args.a c.args.d) c.if-longer.true)

pub returns-else-longer : goal.returns-else-longer
returns-else-longer c = sym (ap (λ (b : Bool). by b c.args.a c.args.d) c.if-longer.false)

pub overflow_add-result : goal.overflow_add-result
overflow_add-result c = omega (arith, c.requires.0 c.if-longer.true)
