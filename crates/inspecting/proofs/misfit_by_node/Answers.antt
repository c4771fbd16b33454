-- Every node below v fits.
use native.Mathlib.Omega.{arith}
use Rattle.inspecting.proofs.Fitting.{below_start, below_step, below_not, below_end}
use Rattle.inspecting.proofs.misfit_by_node.Goals as goal

pub loop-v-init : goal.loop-v-init
loop-v-init c = below_start c.requires.0.numbered.tree.some c.requires.1

pub edge_slope-slope-requires : goal.edge_slope-slope-requires
edge_slope-slope-requires c = (omega arith, c.loop-v-test.true)

pub node_fits-fits-requires : goal.node_fits-fits-requires
node_fits-fits-requires c = (c.requires.0, omega arith, c.loop-v-test.true, c.edge_slope-slope.ensures)

pub returns-then-not-fits : goal.returns-then-not-fits
returns-then-not-fits c =
    below_not c.loop-v.invariant c.loop-v-test.true c.node_fits-fits.ensures
    c.if-not-fits.true

pub loop-v-preserved : goal.loop-v-preserved
loop-v-preserved c =
    below_step c.loop-v.invariant c.loop-v-test.true c.node_fits-fits.ensures
    c.if-not-fits.false

pub returns : goal.returns
returns c = below_end c.loop-v.invariant c.loop-v-test.false
