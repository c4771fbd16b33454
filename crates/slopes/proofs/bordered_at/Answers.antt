-- `slopes::bordered_at` meets its contract: the steep slope as it is defined, the balanced one in as many levels as n
-- nodes need.
use mathlib.Core.Path.{sym, ap, ◌∙◌}
use Prim.Native.Nat.{ℕ}
use native.Mathlib.Omega.{arith}
use Rattle.slopes.specs.declared.Rule.{Rule}
use Rattle.slopes.specs.Neighbours.{bordered, bordered_at}
use Rattle.slopes.proofs.SlopeLaws.{levels_for-least, levels_for_enough}
use Rattle.slopes.specs.Slopes.{flat, upright}
use Rattle.slopes.proofs.bordered_at.Goals as goal

pub bordered-requires : goal.bordered-requires
bordered-requires c =
    rw c.levels_for.ensures
    (levels_for-least c.args.n 32 (omega arith), omega (arith, levels_for_enough c.args.n), omega arith)

pub returns-in-Steep : goal.returns-in-Steep
unfolding bordered_at
returns-in-Steep c = c.steep.ensures ∙ sym (ap (λ (rule : Rule). bordered_at rule c.args.n c.args.j) c.in-Steep.is)

pub returns-in-Balanced : goal.returns-in-Balanced
unfolding bordered_at
returns-in-Balanced c =
    c.bordered.ensures
    ∙ ap (λ (k : ℕ). bordered k flat upright c.args.j) c.levels_for.ensures
    ∙ sym (ap (λ (rule : Rule). bordered_at rule c.args.n c.args.j) c.in-Balanced.is)
