-- The slopes in order, each told by its two neighbours.
--
--   bordered k l r j        == the j-th, from 0, of l, the fractions of levels 1 to k between l and r, and r
--   steep j                 == the j-th steep slope
--   bordered_at rule n j     == the j-th slope for n nodes, with 0/1 for the 0-th; in the balanced rule 1/0 follows the
--                              last of the levels
--   multiple j              == that 2 t + 1 (in a Farey sequence: the index of a fraction)
--   Neighbours rule n j s t == s is the j-th slope and t the next
use Rattle.std.specs.Prelude.{◌∷◌, ◌≡◌, get_or}
use Prim.Native.Nat.{ℕ, suc, ◌+◌, ◌*◌}
use Rattle.std.specs.Int.Count.{count_trailing_zeros}
use Rattle.slopes.specs.declared.Rule.{Rule}
use Rattle.slopes.specs.declared.Rule.TheVariants.{Steep, Balanced}
use Rattle.slopes.specs.declared.Slope.{Slope}
use Rattle.slopes.specs.Slopes.{levels, flat, upright, levels_for}

-- beyond the end `get_or` answers r
abbrev pub bordered : ℕ → Slope → Slope → ℕ → Slope
bordered k l r j = get_or (l ∷ levels k l r) j r

------------------------------------------------------------------------
-- Both rules

abbrev pub steep : ℕ → Slope
steep j = record { across = 1; up = j }

unfoldable pub bordered_at : Rule → ℕ → ℕ → Slope
bordered_at Steep n j = steep j
bordered_at Balanced n j = bordered (levels_for n) flat upright j

abbrev pub multiple : ℕ → ℕ
multiple j = 2 * count_trailing_zeros 32 j + 1

pub record Neighbours (rule : Rule) (n j : ℕ) (s t : Slope) : Type 0 where
  pub here : s ≡ bordered_at rule n j
  pub after : t ≡ bordered_at rule n (suc j)
