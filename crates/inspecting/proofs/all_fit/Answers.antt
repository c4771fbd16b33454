-- Every node with a number from j on fits.
use native.Mathlib.Omega.{arith}
use Rattle.slopes.proofs.Backward.{backward_start, backward_edge, backward_ready, backward_step}
use Rattle.inspecting.proofs.Fitting.{above_start, above_step, above_not, above_end}
use Rattle.inspecting.proofs.all_fit.Goals as goal

pub loop-j-init : goal.loop-j-init
loop-j-init c = (
  backward_start c.requires.0.numbered c.bordered_at-here.ensures c.bordered_at-after.ensures,
  above_start c.requires.0.numbered.tree c.requires.1,
)

pub node_fits-fits-requires : goal.node_fits-fits-requires
node_fits-fits-requires c = (
  c.requires.0,
  c.node_at-v.ensures.above,
  c.node_at-v.ensures.inside,
  backward_edge c.loop-j.invariant.0
      (omega arith) c.node_at-v.ensures,
)

pub slope_before-before-requires : goal.slope_before-before-requires
slope_before-before-requires c = backward_ready c.loop-j.invariant.0 (omega arith)

pub loop-j-preserved : goal.loop-j-preserved
loop-j-preserved c = (
  backward_step c.loop-j.invariant.0 (omega arith) c.slope_before-before.ensures,
  above_step c.loop-j.invariant.1 c.node_at-v.ensures c.node_fits-fits.ensures c.if-not-fits.false,
)

pub returns-then-not-fits : goal.returns-then-not-fits
returns-then-not-fits c = above_not c.node_at-v.ensures c.node_fits-fits.ensures c.if-not-fits.true

pub returns : goal.returns
returns c = above_end c.loop-j.invariant.1 (omega arith)

pub bordered_at-here-requires : goal.bordered_at-here-requires
bordered_at-here-requires c = (omega arith, omega arith, omega arith)

pub bordered_at-after-requires : goal.bordered_at-after-requires
bordered_at-after-requires c = (omega arith, omega arith, omega arith)
