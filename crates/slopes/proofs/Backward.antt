-- The nodes from the last number down: the work list tells the node with number j, and two slopes the one before them.
--
--   Backward P R rule W j here after == here is the slope of number j, and after that of the next
use Rattle.std.specs.Prelude.{List, ◌≡◌, ℕ, ◌-◌, ◌^◌, ◌≤◌, ◌<◌, length}
use Rattle.std.proofs.Common.{sym, ◌∙◌, arith}
use Rattle.std.proofs.Math.Path.{ap}
use Rattle.table.specs.Numbering.{NumberedTree, Numbers}
use Rattle.slopes.specs.declared.Rule.{Rule}
use Rattle.slopes.specs.declared.Slope.{Slope}
use Rattle.slopes.specs.Neighbours.{bordered_at, Neighbours}
use Rattle.slopes.proofs.NeighbourLaws.{neighbours_slope}
use Rattle.slopes.specs.Slopes.{slope_at, edge}

pub record Backward (P R : List ℕ) (rule : Rule) (W : List ℕ) (j : ℕ) (here after : Slope) : Type 0 where
  pub numbered : NumberedTree P R W
  pub low : j < length P
  pub slopes : Neighbours rule (length P) j here after

pub backward_start : {P R : List ℕ} {rule : Rule} {W : List ℕ} {here after : Slope} → NumberedTree P R W
    → here ≡ bordered_at rule (length P) (length P - 1) → after ≡ bordered_at rule (length P) (length P)
    → Backward P R rule W (length P - 1) here after
backward_start {P} {rule = rule} t is next =
    let some = t.tree.some in record {
      numbered = t;
      low = omega arith;
      slopes = record { here = is; after = next ∙ ap (bordered_at rule (length P)) (omega arith) };
    }

module _ {P R : List ℕ} {rule : Rule} {W : List ℕ} {j : ℕ} {here after : Slope} (b : Backward P R rule W j here after)
    (some : 0 < j) where
  pub backward_edge : {v : ℕ} → Numbers P R j v → here ≡ edge P R rule v
  unfolding edge
  backward_edge n =
      neighbours_slope b.slopes some b.low ∙ ap (slope_at rule (length P)) (sym n.number)

  -- for `slope_before`
  pub backward_ready : Neighbours rule (length P) j here after × (1 ≤ j) × (j < length P) × (length P < 2 ^ 32)
  backward_ready = (b.slopes, some, b.low, b.numbered.few)

  pub backward_step : {before : Slope} → Neighbours rule (length P) (j - 1) before here
      → Backward P R rule W (j - 1) before here
  backward_step x = let low = b.low in record { numbered = b.numbered; low = omega arith; slopes = x }
