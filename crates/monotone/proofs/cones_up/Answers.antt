-- The path to an ancestor's parent is one edge more, which is turned round first; the loop ends at the root.
use mathlib.Core.Path.{ap, subst⁻¹, ◌∙◌}
use Prim.Native.Nat.{ℕ}
use native.Mathlib.Omega.{arith}
use lib.ListN.{set}
use Rattle.laws.specs.Regions.{only_store}
use Rattle.table.specs.Ancestry.{depth, depth-parent}
use Rattle.monotone.proofs.Climbing.{Climbing, climbing_start, climbing_step, climbing_end}
use Rattle.monotone.proofs.Climbing.{first_edges, climbing_edges, turned_edges, turned_parent}
use Rattle.monotone.proofs.cones_up.Goals as goal

pub loop-z-init : goal.loop-z-init
loop-z-init c =
    climbing_start c.requires.with_edges.0.tree c.requires.with_edges.1 c.args.work.now
    (omega (arith, c.requires.with_edges.0.edges.long)) c.requires.zeroed c.put.ensures

pub turn_edge-requires : goal.turn_edge-requires
turn_edge-requires c =
    let first = first_edges c.requires.with_edges.1 c.put.ensures c.requires.with_edges.0.edges in
    (climbing_edges c.loop-z.invariant first, c.loop-z-test.true, c.loop-z.invariant.turning.inside)

pub grow-cone-requires : goal.grow-cone-requires
grow-cone-requires c =
    let known = c.requires.with_edges in
    let first = first_edges known.1 c.put.ensures known.0.edges in
    record {
      edges = turned_edges known.0.tree known.1 c.loop-z-test.true c.loop-z.invariant c.turn_edge.ensures first;
      some = c.loop-z-test.true;
      inside = c.loop-z.invariant.turning.inside;
      formed = c.loop-z.invariant.formed;
    }

pub put-requires-in-loop-z : goal.put-requires-in-loop-z
put-requires-in-loop-z c =
    let known = c.requires.with_edges in
    let first = first_edges known.1 c.put.ensures known.0.edges in
    let low = turned_parent known.0.tree known.1 c.loop-z-test.true c.loop-z.invariant c.turn_edge.ensures first in
    (omega (arith, low, c.get-p.ensures.0), c.grow-cone.ensures.fits)

pub loop-z-smaller : goal.loop-z-smaller
loop-z-smaller c =
    let less = depth-parent c.requires.with_edges.0.tree c.loop-z.z c.loop-z-test.true
    c.loop-z.invariant.turning.inside in
    omega (arith, less, ap (depth c.args.parent.now) c.get-p.ensures.0)

pub loop-z-preserved : goal.loop-z-preserved
loop-z-preserved c =
    let known = c.requires.with_edges in
    let first = first_edges known.1 c.put.ensures known.0.edges in
    subst⁻¹ (λ (z : ℕ).
    Climbing c.args.parent.now c.args.u z c.put.new.w c.put-in-loop-z.new.w c.grow-cone.result) c.get-p.ensures.0
    (climbing_step known.0.tree known.1 c.loop-z-test.true c.loop-z.invariant c.turn_edge.ensures c.grow-cone.result
    c.grow-cone.ensures
    (turned_parent known.0.tree known.1 c.loop-z-test.true c.loop-z.invariant c.turn_edge.ensures first)
    (c.put-in-loop-z.ensures ∙ ap (λ (p : ℕ). set c.turn_edge.new.work p c.grow-cone.result) c.get-p.ensures.0))

pub returns : goal.returns
returns c =
    climbing_end c.requires.with_edges.0.tree
    (only_store c.args.u 1 (omega arith) c.requires.with_edges.1 c.put.ensures) c.loop-z-test.false c.loop-z.invariant
