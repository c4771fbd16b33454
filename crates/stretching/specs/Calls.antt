-- What refusals 1 to 10 and 22 leave, and what lengthen and shorten do.
--
--   Examined L ..               == what refusals 1 to 10 leave
--   Free L ..                   == what refusals 1 to 10 and 22 leave
--   Untouched s o               == the outcome o of a call on s is a refusal
--   Stretching L .. v c s t o   == the outcome o of a call is its frame, and of s and t, the shorter and the longer
--                                  drawing, one was given and the other is left; v's edge is free, and held as it was
use Rattle.std.specs.Prelude.{false, List, ◌≡◌, ℕ, ◌<◌, eqb}
use Rattle.std.proofs.Math.ListN.{length, get_or}
use Rattle.laws.specs.Search.{Outcome}
use Rattle.table.specs.declared.Limits.{Limits}
use Rattle.slopes.specs.declared.Rule.{Rule}
use Rattle.drawing.specs.Framed.{Framed}
use Rattle.drawing.specs.Framed.{Refused}
use Rattle.drawing.specs.Drawing.{Drawing, Sheet, frame}
use Rattle.drawing.specs.CallLaws.{Inspected}
use Rattle.drawing.specs.SheetLaws.{Sound}
use Rattle.stretching.specs.Stretching.{is_held}
use Rattle.stretching.specs.Stretches.{Stretch}

------------------------------------------------------------------------
-- Refusals 8 to 11, and 22

pub record Examined (L : Limits) (P R : List ℕ) (rule : Rule) (s : Sheet) (work v : ℕ) : Type 0 where
  pub inspected : Inspected L P R rule s work
  pub above : 0 < v
  pub inside : v < length P

pub record Free (L : Limits) (P R : List ℕ) (rule : Rule) (s : Sheet) (work v : ℕ) : Type 0 where
  pub examined : Examined L P R rule s work v
  pub free : is_held s v ≡ false

------------------------------------------------------------------------
-- What the calls do

pub record Untouched (s : Sheet) (o : Outcome Framed Sheet) : Type 0 where
  pub number : ℕ
  pub node : ℕ
  pub answer : o.answer ≡ Refused number node
  pub left : o.left ≡ s

pub record Stretching (L : Limits) (P R : List ℕ) (rule : Rule) (v c : ℕ) (H : List ℕ) (s t : Drawing)
    (o : Outcome Framed Sheet) : Type 0 where
  pub above : 0 < v
  pub inside : v < length P
  pub free : eqb (get_or H v 0) 1 ≡ false
  pub answer : o.answer ≡ frame o.left.drawing
  pub sound : Sound L.place P R rule o.left
  pub held : o.left.held ≡ H
  pub stretch : Stretch P R rule v c s t
