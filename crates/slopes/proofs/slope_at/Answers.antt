-- `slopes::slope_at` meets its contract: the steep slope as it is defined, the balanced one in as many levels as n
-- nodes need.
use mathlib.Core.Path.{sym, ap, ◌∙◌}
use Prim.Native.Nat.{ℕ}
use native.Mathlib.Nat.{lt_of_lt_of_le}
use Rattle.slopes.specs.declared.Rule.{Rule}
use Rattle.slopes.specs.Slopes.{fraction_at, slope_at}
use Rattle.slopes.proofs.SlopeLaws.{levels_for-least, levels_for_enough}
use Rattle.slopes.proofs.slope_at.Goals as goal

pub fraction-s-requires : goal.fraction-s-requires
fraction-s-requires c =
    rw c.levels_for.ensures
    (levels_for-least c.args.n 32 c.requires.2, c.requires.0, lt_of_lt_of_le c.requires.1 (levels_for_enough c.args.n))

pub returns-in-Steep : goal.returns-in-Steep
unfolding slope_at
returns-in-Steep c = c.steep.ensures ∙ sym (ap (λ (rule : Rule). slope_at rule c.args.n c.args.j) c.in-Steep.is)

pub returns-in-Balanced : goal.returns-in-Balanced
unfolding slope_at
returns-in-Balanced c =
    c.fraction-s.ensures
    ∙ ap (λ (k : ℕ). fraction_at k c.args.j) c.levels_for.ensures
    ∙ sym (ap (λ (rule : Rule). slope_at rule c.args.n c.args.j) c.in-Balanced.is)
