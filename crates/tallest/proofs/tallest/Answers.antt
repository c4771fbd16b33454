-- The tests in the request's order; then both lists are filled, and the height is computed.
use mathlib.Core.Bool.{not}
use mathlib.Core.Path.{ap}
use native.Mathlib.Omega.{arith}
use Rattle.tallest.proofs.Answers.{no_nodes, too_many, within, not_long, height_fits, parents_fit, filled}
use Rattle.tallest.proofs.tallest.Goals as goal

pub returns-then-n-eq0 : goal.returns-then-n-eq0
returns-then-n-eq0 c = rw c.at.ensures (no_nodes _ _ c.limits-limits.ensures c.if-n-eq0.true)

pub returns-then-most-n : goal.returns-then-most-n
returns-then-most-n c =
    rw c.at-then-most-n.ensures (too_many _ _ c.limits-limits.ensures c.if-n-eq0.false c.if-most-n.true)

pub returns-then-not-long : goal.returns-then-not-long
returns-then-not-long c =
    rw c.at-then-not-long.ensures
    (not_long (within c.limits-limits.ensures c.if-n-eq0.false (omega arith) c.both_long-long.ensures)
    (ap not c.if-not-long.true))

pub hang_each-requires : goal.hang_each-requires
hang_each-requires c =
    parents_fit (within c.limits-limits.ensures c.if-n-eq0.false (omega arith) c.both_long-long.ensures)
    (ap not c.if-not-long.false)

pub overflow_mul-height : goal.overflow_mul-height
overflow_mul-height c =
    let fits = height_fits
    (within c.limits-limits.ensures c.if-n-eq0.false (omega arith) c.both_long-long.ensures) in
    omega (arith, fits.0)

pub overflow_add-height : goal.overflow_add-height
overflow_add-height c =
    let fits = height_fits
    (within c.limits-limits.ensures c.if-n-eq0.false (omega arith) c.both_long-long.ensures) in
    omega (arith, fits.1)

pub returns : goal.returns
returns c =
    filled (within c.limits-limits.ensures c.if-n-eq0.false (omega arith) c.both_long-long.ensures)
    (ap not c.if-not-long.false) c.hang_each.ensures c.rank_each.ensures
