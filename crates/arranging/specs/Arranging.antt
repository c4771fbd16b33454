-- A list of lengthens in one call (document 02, request 105; refusal 19).
--
--   at_place a place       == the answer a to the lengthen at a place
--   whole s               == the outcome that leaves s with no refusal
--   lists_fault L ..       == refusals 1 to 3, then 19: the list of lots and that of counts differ in length
--   each_fault L ..        == refusals 1 to 8, with 19 directly after 3
--   in_turn L .. s place   == the lengthens of the lists, the first with this place, made one after another on s, up to
--                            the first refused one
--   lengthen_each L ..     == the call: what it answers, and the sheet that it leaves
--   Arranges L ..         == its contract
use Rattle.std.specs.Prelude.{cond, not, List, [], ◌∷◌, ◌≡◌, ℕ, ◌+◌, eqb, length}
use Rattle.std.proofs.Math.Option.{Option}
use denote.Triple.Both.{Both}
use Rattle.laws.specs.Search.{Refusal, refuse, ◌or_else◌, Outcome, settle}
use Rattle.table.specs.declared.Limits.{Limits}
use Rattle.table.specs.Table.{shape_fault, Called}
use Rattle.slopes.specs.declared.Rule.{Rule}
use Rattle.drawing.specs.Framed.{Framed}
use Rattle.drawing.specs.Framed as framed
use Rattle.drawing.specs.Drawing.{Sheet, lengths_fit, frame, accepted, sheet_fault, Lent}
use Rattle.stretching.specs.Stretching.{lengthen}
use Rattle.arranging.specs.Arranged.{Arranged}
use Rattle.arranging.specs.Arranged.{Frame, Refused}

------------------------------------------------------------------------
-- Refusals

unfoldable pub lists_fault : Limits → List ℕ → List ℕ → Sheet → ℕ → List ℕ → List ℕ → Option Refusal
lists_fault L P R s work lots counts =
    shape_fault L P R (lengths_fit P s) work or_else refuse (not (eqb (length lots) (length counts))) 19 0

-- past the first line, of refusals 1 to 8 there are 4 to 8 left
unfoldable pub each_fault : Limits → List ℕ → List ℕ → Rule → Sheet → ℕ → List ℕ → List ℕ → Option Refusal
each_fault L P R rule s work lots counts =
    lists_fault L P R s work lots counts
    or_else sheet_fault L P R rule s work

------------------------------------------------------------------------
-- The call

unfoldable pub at_place : Framed → ℕ → Arranged
at_place (framed.Frame width height) place = Frame width height
at_place (framed.Refused number lot) place = Refused number lot place

-- no refusal: the frame of the sheet that is left
abbrev pub whole : Sheet → Outcome Arranged Sheet
whole s = record { answer = at_place (frame s.drawing) 0; left = s }

-- the lists are of one length: others are refused
unfoldable pub in_turn : Limits → List ℕ → List ℕ → Rule → ℕ → Sheet → ℕ → List ℕ → List ℕ → Outcome Arranged Sheet
in_turn L P R rule work s place [] counts = whole s
in_turn L P R rule work s place (v ∷ lots) [] = whole s
in_turn L P R rule work s place (v ∷ lots) (c ∷ counts) =
    let o = lengthen L P R rule s work v c in
    cond (accepted o.answer) (in_turn L P R rule work o.left (place + 1) lots counts)
    (record { answer = at_place o.answer place; left = o.left })

unfoldable pub lengthen_each : Limits → List ℕ → List ℕ → Rule → Sheet → ℕ → List ℕ → List ℕ → Outcome Arranged Sheet
lengthen_each L P R rule s work lots counts =
    let o = in_turn L P R rule work s 1 lots counts in
    settle (λ number lot. Refused number lot 0) (each_fault L P R rule s work lots counts) s o.answer o.left

-- the answer r and the sheet at exit are what the definition says; 19 leaves the work list alone too
abbrev pub Arranges : Limits → Lent → Lent → Rule → Both Sheet Sheet → Lent → Lent → Lent → Arranged → Type 0
Arranges L parent rank rule s work lots counts r =
    Called
    (lists_fault L parent.entry rank.entry s.entry (length work.entry) lots.entry counts.entry) work.entry work.exit
    (record { answer = r; left = s.exit }
    ≡ lengthen_each L parent.entry rank.entry rule s.entry (length work.entry) lots.entry counts.entry)
