-- Lengthen and shorten as one move: the longer drawing has d more at every place of v's subtree, and c more times at v.
--
--   longer, shorter .. s v c == the drawing that lengthen, or shorten, makes of s
--   offset P v d z          == what v's subtree is moved by, at z: d in the subtree, 0 outside
--   Moved P v d X Y         == Y is the coordinate X with v's subtree moved on by d
--   Stretch P R rule v c s t == t is the drawing s with v's edge c times its slope longer
use Rattle.std.specs.Prelude.{cond, List, ◌≡◌, ℕ, ◌+◌, ◌-◌, ◌*◌, ◌<◌, length, get_or}
use Rattle.table.specs.Table.{under}
use Rattle.slopes.specs.declared.Rule.{Rule}
use Rattle.slopes.specs.Slopes.{across_of, up_of, edge}
use Rattle.drawing.specs.Drawing.{Drawing}
use Rattle.stretching.specs.Stretching.{stretched}

abbrev pub longer : List ℕ → List ℕ → Rule → Drawing → ℕ → ℕ → Drawing
longer = stretched ◌+◌

abbrev pub shorter : List ℕ → List ℕ → Rule → Drawing → ℕ → ℕ → Drawing
shorter = stretched ◌-◌

------------------------------------------------------------------------
-- The subtree's offset

unfoldable pub offset : List ℕ → ℕ → ℕ → ℕ → ℕ
offset P v d z = cond (under P v z) d 0

------------------------------------------------------------------------
-- Moved coordinates

pub record Moved (P : List ℕ) (v d : ℕ) (X Y : List ℕ) : Type 0 where
  pub from_long : length X ≡ length P
  pub to_long : length Y ≡ length P
  pub at : (z : ℕ) → z < length P → get_or Y z 0 ≡ get_or X z 0 + offset P v d z

------------------------------------------------------------------------
-- Stretched drawings

pub record Stretch (P R : List ℕ) (rule : Rule) (v c : ℕ) (s t : Drawing) : Type 0 where
  pub from_long : length s.times ≡ length P
  pub to_long : length t.times ≡ length P
  pub here : get_or t.times v 0 ≡ get_or s.times v 0 + c
  pub other : (z : ℕ) → z < length P → (z ≡ v → ⊥) → get_or t.times z 0 ≡ get_or s.times z 0
  pub x : Moved P v (c * across_of (edge P R rule v)) s.x t.x
  pub y : Moved P v (c * up_of (edge P R rule v)) s.y t.y
