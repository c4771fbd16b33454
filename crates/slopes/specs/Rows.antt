-- The table of ten levels (document 02, request 102), and the rows of numbers in which the code holds it.
--
--   ten_at p     == the table's entry at position p, counted from 1
--   row_of r     == row r: 32 entries from position 32 r, with 0/1 at position 0
--   in_four w q  == of the four slopes in the number w, the first highest, the q-th from 0: two bytes, across and up
--   slopes_in ws == the slopes in a list of such numbers
use Rattle.std.specs.Prelude.{List, [], ◌∷◌, ℕ, ◌-◌, ◌*◌, ◌/◌, ◌%◌, ◌^◌, get_or, take, drop}
use Rattle.slopes.specs.declared.Slope.{Slope}
use Rattle.slopes.specs.Slopes.{flat}
use Rattle.slopes.specs.Ten.{ten}

abbrev pub ten_at : ℕ → Slope
ten_at p = get_or ten (p - 1) flat

abbrev pub row_of : ℕ → List Slope
row_of r = take 32 (drop (32 * r) (flat ∷ ten))

abbrev pub in_four : ℕ → ℕ → Slope
in_four w q = let low = w / 2 ^ (48 - 16 * q) in record { across = low / 256 % 256; up = low % 256 }

unfoldable pub slopes_in : List ℕ → List Slope
slopes_in [] = []
slopes_in (w ∷ ws) = in_four w 0 ∷ in_four w 1 ∷ in_four w 2 ∷ in_four w 3 ∷ slopes_in ws
