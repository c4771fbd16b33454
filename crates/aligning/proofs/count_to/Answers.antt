-- The tests in turn: held, the side, the remainder, the limit.
use Prim.Native.Nat.{◌-◌}
use native.Mathlib.Nat.{div-mul-le_self, div-le_self}
use native.Mathlib.Omega.{arith}
use Rattle.aligning.proofs.Counting.{held, to_the_left, goes_across, no_multiple, passes_limit, counted}
use Rattle.aligning.proofs.count_to.Goals as goal

pub returns-then-get-eq1 : goal.returns-then-get-eq1
returns-then-get-eq1 c = held c.requires _ c.get.ensures.0 c.if-get-eq1.true

pub returns-then-goal-place : goal.returns-then-goal-place
returns-then-goal-place c = to_the_left c.requires _ c.get.ensures.0 c.get-place.ensures.0 c.if-goal-place.true

pub nonzero_div-whole : goal.nonzero_div-whole
nonzero_div-whole c =
    goes_across c.requires _ c.get.ensures.0 c.get-place.ensures.0 c.if-goal-place.false
    c.edge_slope-slope.ensures

pub overflow_mul-whole : goal.overflow_mul-whole
overflow_mul-whole c =
    omega (
      arith,
      div-mul-le_self (c.args.column - c.get-place.result) c.edge_slope-slope.result.across,
      c.ranges.column,
    )

pub returns-then-whole-across : goal.returns-then-whole-across
returns-then-whole-across c =
    no_multiple c.requires _ c.get.ensures.0 c.get-place.ensures.0 c.if-goal-place.false
    c.edge_slope-slope.ensures c.if-whole-across.true

pub overflow_cast-count : goal.overflow_cast-count
overflow_cast-count c =
    omega (
      arith,
      div-le_self (c.args.column - c.get-place.result) c.edge_slope-slope.result.across,
      c.ranges.column,
    )

pub returns-then-far : goal.returns-then-far
returns-then-far c =
    passes_limit c.requires _ c.get.ensures.0 c.get-place.ensures.0 c.if-goal-place.false
    c.edge_slope-slope.ensures _ c.if-whole-across.false c.too_far-far.ensures c.if-far.true

pub returns : goal.returns
returns c =
    counted c.requires _ c.get.ensures.0 c.get-place.ensures.0 (omega arith) c.edge_slope-slope.ensures _
    (omega arith)
    c.too_far-far.ensures (λ e. omega arith) c.if-far.false
