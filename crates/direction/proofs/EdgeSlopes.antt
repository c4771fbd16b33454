-- The slopes of edges are small.
use mathlib.Core.List.{List}
use mathlib.Core.Path.{◌≡◌, subst⁻¹}
use Prim.Native.Nat.{ℕ, ◌≤◌, ◌<◌}
use native.Mathlib.Omega.{arith}
use lib.ListN.{length}
use Rattle.table.specs.Table.{large}
use Rattle.table.specs.TableLaws.{Tree}
use Rattle.slopes.specs.declared.Rule.{Rule}
use Rattle.slopes.specs.declared.Slope.{Slope}
use Rattle.slopes.specs.Slopes.{edge}
use Rattle.slopes.proofs.SlopeLaws.{edge-size}
use Rattle.direction.specs.Parts.{SmallSlope}

pub small-edge : {P R : List ℕ} → Tree P R → length P ≤ large.nodes → (rule : Rule) {z : ℕ} → 0 < z → z < length P
    → {s : Slope} → s ≡ edge P R rule z → SmallSlope s
small-edge tree few rule {z} above inside e =
    let size = edge-size tree rule z above inside in
    subst⁻¹ SmallSlope e (record { across = omega arith; up = omega arith })
