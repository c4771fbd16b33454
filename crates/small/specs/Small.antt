-- What the small cabinet has of the large one (document 02, request 106: "Within its limits the small cabinet gets
-- exactly the large one's replies and lists"), said of any limits S within limits L. Its calls are layout, lengthen and
-- shorten at the limits `small`; in the C interface hold has no entry of its own, so the large one's serves both.
--
--   Narrower S L     == the limits S are within the limits L
--   Near limit n s   == no place of the sheet s of n nodes is beyond the limit
--   Stays S L n o    == the outcome o of a call at L stays within S: no place that it leaves is beyond the limit of S,
--                       and none was refused as beyond that of L
--   Same S L ..      == layout, lengthen, shorten and hold answer and leave the same at S as at L
use Rattle.std.specs.Prelude.{Bool, List, ◌≡◌, ℕ, ◌≤◌, ◌<◌, length, get_or}
use Rattle.faults.specs.Numbers.{number}
use Rattle.laws.specs.Search.{Outcome}
use Rattle.table.specs.declared.Limits.{Limits}
use Rattle.slopes.specs.declared.Rule.{Rule}
use Rattle.drawing.specs.Framed.{Framed}
use Rattle.drawing.specs.Framed.{Refused}
use Rattle.drawing.specs.Drawing.{Sheet, layout}
use Rattle.stretching.specs.Stretching.{lengthen, shorten}
use Rattle.holding.specs.Holding.{hold}

pub record Narrower (S L : Limits) : Type 0 where
  pub nodes : S.nodes ≤ L.nodes
  pub place : S.place ≤ L.place

abbrev pub Near : ℕ → ℕ → Sheet → Type 0
Near limit n s = (z : ℕ) → z < n → (get_or s.drawing.x z 0 ≤ limit) × (get_or s.drawing.y z 0 ≤ limit)

pub record Stays (S L : Limits) (n : ℕ) (o : Outcome Framed Sheet) : Type 0 where
  pub near : Near S.place n o.left
  pub not_far : (v : ℕ) → ¬ (o.answer ≡ Refused (number L.far) v)

-- refusals are among the answers; `same` shows it of every table of at most S's nodes
pub record Same (S L : Limits) (P R : List ℕ) (rule : Rule) (s : Sheet) (work : ℕ) : Type 0 where
  pub layouts : layout S P R rule s work ≡ layout L P R rule s work
  -- of a sheet with no place beyond the limit of S
  pub lengthens : Near S.place (length P) s → (v c : ℕ) → Stays S L (length P) (lengthen L P R rule s work v c)
      → lengthen S P R rule s work v c ≡ lengthen L P R rule s work v c
  pub shortens : Near S.place (length P) s → (v c : ℕ)
      → shorten S P R rule s work v c ≡ shorten L P R rule s work v c
  pub holds : Near S.place (length P) s → (v : ℕ) (on : Bool)
      → hold S P R rule s work v on ≡ hold L P R rule s work v on
