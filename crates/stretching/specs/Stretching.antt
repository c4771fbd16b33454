-- The calls that stretch a drawing (document 01, "Layout, lengthen, shorten"; refusals 9 to 12, and 22 of document 02,
-- request 108).
--
--   moved P move v places     == a coordinate with v's subtree moved
--   stretched by .. s v c     == the drawing with v's edge c times its slope longer or shorter, v's subtree moved along
--   beyond limit n s          == some place is beyond the limit
--   edge_fault n v             == refusals 9 and 10: v has no edge
--   lot_fault L ..             == refusals 1 to 10 at the limits L
--   is_held s v                == the edge of v is held
--   stretch_fault L ..         == refusals 1 to 10, then 22
--   lengthen, shorten L ..    == the calls: what they answer, and the sheet that they leave
use Rattle.std.specs.Prelude.{Bool, cond, ◌||◌, List, ℕ, ◌+◌, ◌-◌, ◌*◌, ltb, leb, eqb, length, get_or, set}
use Rattle.std.proofs.Math.Option.{Option}
use Rattle.faults.specs.Numbers.{number}
use Rattle.laws.specs.Search.{least, tabulate, Refusal, refuse, ◌or_else◌, Outcome}
use Rattle.table.specs.declared.Limits.{Limits}
use Rattle.table.specs.Table.{under}
use Rattle.slopes.specs.declared.Rule.{Rule}
use Rattle.slopes.specs.Slopes.{across_of, up_of, edge}
use Rattle.drawing.specs.Framed.{Framed}
use Rattle.drawing.specs.Drawing.{Drawing, lent, Sheet, sheet_of, sheet_fault, redrawn}

------------------------------------------------------------------------
-- An edge made longer or shorter

unfoldable pub moved : List ℕ → (ℕ → ℕ) → ℕ → List ℕ → List ℕ
moved P move v places = tabulate (length P) (λ z. cond (under P v z) (move (get_or places z 0)) (get_or places z 0))

-- `by a d` is what becomes of the number a by d more or less: a + d or a - d
unfoldable pub stretched : (ℕ → ℕ → ℕ) → List ℕ → List ℕ → Rule → Drawing → ℕ → ℕ → Drawing
stretched by P R rule s v c =
    lent (set s.times v (by (get_or s.times v 0) c)) (moved P (λ a. by a (c * across_of (edge P R rule v))) v s.x)
    (moved P (λ a. by a (c * up_of (edge P R rule v))) v s.y)

unfoldable pub beyond : ℕ → ℕ → Drawing → Bool
beyond limit n s = ltb (least (λ z. ltb limit (get_or s.x z 0) || ltb limit (get_or s.y z 0)) n) n

------------------------------------------------------------------------
-- The calls

unfoldable pub edge_fault : ℕ → ℕ → Option Refusal
edge_fault n v = refuse (leb n v) 9 0 or_else refuse (eqb v 0) 10 0

unfoldable pub lot_fault : Limits → List ℕ → List ℕ → Rule → Sheet → ℕ → ℕ → Option Refusal
lot_fault L P R rule s work v = sheet_fault L P R rule s work or_else edge_fault (length P) v

abbrev pub is_held : Sheet → ℕ → Bool
is_held s v = eqb (get_or s.held v 0) 1

unfoldable pub stretch_fault : Limits → List ℕ → List ℕ → Rule → Sheet → ℕ → ℕ → Option Refusal
stretch_fault L P R rule s work v = lot_fault L P R rule s work v or_else refuse (is_held s v) 22 v

unfoldable pub lengthen : Limits → List ℕ → List ℕ → Rule → Sheet → ℕ → ℕ → ℕ → Outcome Framed Sheet
lengthen L P R rule s work v c =
    let new = stretched ◌+◌ P R rule s.drawing v c in
    redrawn (stretch_fault L P R rule s work v or_else refuse (beyond L.place (length P) new) (number L.far) v) s
    (sheet_of new s.held)

unfoldable pub shorten : Limits → List ℕ → List ℕ → Rule → Sheet → ℕ → ℕ → ℕ → Outcome Framed Sheet
shorten L P R rule s work v c =
    let new = stretched ◌-◌ P R rule s.drawing v c in
    redrawn (stretch_fault L P R rule s work v or_else refuse (leb (get_or s.drawing.times v 0) c) 12 v) s
    (sheet_of new s.held)
