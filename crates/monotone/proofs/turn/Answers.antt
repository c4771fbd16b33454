-- The edges below z are turned and no other; the root, where the loop ends, has no edge.
use mathlib.Core.Path.{ap, subst⁻¹}
use Prim.Native.Nat.{ℕ}
use native.Mathlib.Omega.{arith}
use Rattle.laws.specs.Regions.{only_refl, only_trans}
use Rattle.table.specs.Ancestry.{depth, depth-parent}
use Rattle.monotone.proofs.Turning.{Turning, turning_start, turning_edges, turning_step, turning_end, edge_only}
use Rattle.monotone.proofs.turn.Goals as goal

pub loop-z-init : goal.loop-z-init
loop-z-init c = (turning_start c.requires.0.tree c.requires.1, only_refl _ _ _)

pub turn_edge-requires : goal.turn_edge-requires
turn_edge-requires c = (
  turning_edges c.loop-z.invariant.0 c.loop-z.invariant.1.long
      c.requires.0.edges,
  c.loop-z-test.true,
  c.loop-z.invariant.0.inside,
)

pub loop-z-smaller : goal.loop-z-smaller
loop-z-smaller c =
    let less = depth-parent c.requires.0.tree c.loop-z.z c.loop-z-test.true c.loop-z.invariant.0.inside in
    let same = ap (depth c.args.parent.now) c.get-z.ensures.0 in
    omega arith

pub loop-z-preserved : goal.loop-z-preserved
loop-z-preserved c = (
  subst⁻¹ (λ (z : ℕ).
      Turning c.args.parent.now c.args.u z c.args.work.now c.turn_edge.new.work)
      c.get-z.ensures.0 (turning_step c.requires.0.tree c.requires.1 c.loop-z-test.true c.loop-z.invariant.0
      c.turn_edge.ensures),
  only_trans c.loop-z.invariant.1 (edge_only c.loop-z.invariant.0.inside c.turn_edge.ensures),
)

pub returns : goal.returns
returns c =
    record {
      away = turning_end c.requires.0.tree c.loop-z-test.false c.loop-z.invariant.0;
      only
          = c.loop-z.invariant.1;
    }

pub shape_of-work : goal.shape_of-work
shape_of-work c = c.loop-z.invariant.1.long
