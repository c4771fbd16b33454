-- The nodes with numbers from j on are drawn.
use Rattle.std.proofs.Common.{refl, arith}
use Rattle.slopes.proofs.Backward.{backward_start, backward_edge, backward_step}
use Rattle.drawing.proofs.Laying.{laying_start, laying_x, laying_y, laying_step, laying_end}
use Rattle.drawing.proofs.DrawingMut.draw.Goals as goal

pub loop-j-init : goal.loop-j-init
loop-j-init c = (
  backward_start c.requires.sized.numbered c.bordered_at-here.ensures c.bordered_at-after.ensures,
  laying_start c.requires c.put.ensures c.put-2.ensures c.put-3.ensures,
  (refl, refl, refl),
)

pub hang-requires : goal.hang-requires
hang-requires c =
    laying_x c.loop-j.invariant.1 c.node_at-v.ensures c.get-p.ensures.0
    (backward_edge c.loop-j.invariant.0 (omega arith) c.node_at-v.ensures)

pub hang-requires-in-loop-j : goal.hang-requires-in-loop-j
hang-requires-in-loop-j c =
    laying_y c.loop-j.invariant.1 c.node_at-v.ensures c.get-p.ensures.0
    (backward_edge c.loop-j.invariant.0 (omega arith) c.node_at-v.ensures)

pub loop-j-preserved : goal.loop-j-preserved
loop-j-preserved c = (
  backward_step c.loop-j.invariant.0 (omega arith) c.slope_before-before.ensures,
  laying_step c.loop-j.invariant.1 c.node_at-v.ensures c.get-p.ensures.0
      (backward_edge c.loop-j.invariant.0 (omega arith) c.node_at-v.ensures)
      c.put-in-loop-j.ensures
      c.hang.ensures c.hang-in-loop-j.ensures,
  c.loop-j.invariant.2,
)

pub returns : goal.returns
returns c = record { fresh = laying_end c.loop-j.invariant.1 (omega arith); lists = c.loop-j.invariant.2 }
