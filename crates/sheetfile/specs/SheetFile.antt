-- What the program `sheet` prints for a tree file (document 01, "Tree file and program").
--
--   file_fault B      == the refusal of the file B, where there is one: 16, 1, 14, 17, then 4 to 7
--   places_of_table .. == the places of a table's fresh sheets under both rules
--   text_of f B       == the text for the file B with refusal f, where there is one
--   sheet_text B      == the text for the file B, whatever its bytes
--   lots_in m         == how many lots a file of m bytes can hold, and at most 4,096
use Rattle.std.specs.Prelude.{List, ℕ, ◌+◌, ◌-◌, ◌*◌, ◌/◌, ◌≤◌, min, length}
use Rattle.std.proofs.Math.Option.{Option}
use Rattle.laws.specs.Search.{Refusal, ◌or_else◌, refused_or}
use Rattle.table.specs.Table.{tree_fault, printed}
use Rattle.slopes.specs.declared.Rule.TheVariants.{Steep, Balanced}
use Rattle.drawing.specs.Drawing.{fresh}
use Rattle.treefile.specs.TreeFile.{stated_nodes, file_parents, file_ranks, open_fault}
use Rattle.sheetfile.specs.declared.Room.{Room}
use Rattle.text.specs.Text.{Places, sheet_of, refusal_of}

-- the program lends lists that fit the stated number of lots, so that 3 never applies
unfoldable pub file_fault : List ℕ → Option Refusal
file_fault B =
    open_fault printed B (stated_nodes B) (stated_nodes B) (4 * stated_nodes B)
    or_else tree_fault (file_parents B) (file_ranks B)

unfoldable pub places_of_table : List ℕ → List ℕ → Places
places_of_table P R = record {
  steep_x = (fresh P R Steep).x;
  steep_y = (fresh P R Steep).y;
  balanced_x = (fresh P R Balanced).x;
  balanced_y = (fresh P R Balanced).y;
}

unfoldable pub text_of : Option Refusal → List ℕ → List ℕ
text_of f B = refused_or refusal_of f (sheet_of (places_of_table (file_parents B) (file_ranks B)) (stated_nodes B))

unfoldable pub sheet_text : List ℕ → List ℕ
sheet_text B = text_of (file_fault B) B

------------------------------------------------------------------------
-- The lent room

unfoldable pub lots_in : ℕ → ℕ
lots_in m = min ((m - 4) / 8) printed.nodes

-- lists of as many lots as the file can hold or more, and room for the text
pub record Ample (B : List ℕ) (room : Room) (out : List ℕ) : Type 0 where
  pub parent : lots_in (length B) ≤ length room.parent.now
  pub rank : lots_in (length B) ≤ length room.rank.now
  pub times : lots_in (length B) ≤ length room.times.now
  pub steep_x : lots_in (length B) ≤ length room.x.now
  pub steep_y : lots_in (length B) ≤ length room.y.now
  pub balanced_x : lots_in (length B) ≤ length room.u.now
  pub balanced_y : lots_in (length B) ≤ length room.w.now
  pub held : lots_in (length B) ≤ length room.held.now
  pub work : 4 * lots_in (length B) ≤ length room.work.now
  pub long : 30 + 55 * lots_in (length B) ≤ length out
