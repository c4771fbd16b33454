-- The call that holds an edge or frees it (document 02, request 108).
--
--   entry on         == the entry of a held edge, and of a free one
--   marked s v on    == the sheet s with the entry of v set or cleared
--   hold L ..        == the call: what it answers, and the sheet that it leaves
use Rattle.std.specs.Prelude.{Bool, cond, List, ℕ, set}
use Rattle.laws.specs.Search.{Outcome}
use Rattle.table.specs.declared.Limits.{Limits}
use Rattle.slopes.specs.declared.Rule.{Rule}
use Rattle.drawing.specs.Framed.{Framed}
use Rattle.drawing.specs.Drawing.{Sheet, sheet_of, redrawn}
use Rattle.stretching.specs.Stretching.{lot_fault}

abbrev pub entry : Bool → ℕ
entry on = cond on 1 0

abbrev pub marked : Sheet → ℕ → Bool → Sheet
marked s v on = sheet_of s.drawing (set s.held v (entry on))

-- lengthen's refusals up to 10, and no more
unfoldable pub hold : Limits → List ℕ → List ℕ → Rule → Sheet → ℕ → ℕ → Bool → Outcome Framed Sheet
hold L P R rule s work v on = redrawn (lot_fault L P R rule s work v) s (marked s v on)
