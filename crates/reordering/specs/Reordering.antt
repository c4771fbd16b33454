-- Stretches in either order (document 02, request 114), as one type over the limits.
--
--   Lengthening             == a lengthen call: a node, a count and the length of the work list, each of them anything
--   made .. s c             == the outcome of the call c on the sheet s
--   all_accepted .. s calls  == none of the calls is refused, the first made on s, each other on what the one before left
--   after .. o calls        == the outcome of the last of them, the first made on what the outcome o left: the frame,
--                              and the sheet with its times, x, y and held; o itself where there is no call
--   Alike .. o calls others == the others are accepted after o too, and their outcome is that of the calls
--   AnyOrder L              == so it is for what layout writes at the limits L, every list of lengthens that are all
--                              accepted, and every rearrangement of it
use Rattle.std.specs.Prelude.{Bool, true, ◌&&◌, ◌≡◌, ℕ}
use mathlib.Core.List.{List, [], ◌∷◌, Perm}
use Rattle.laws.specs.Search.{Outcome}
use Rattle.table.specs.declared.Limits.{Limits}
use Rattle.slopes.specs.declared.Rule.{Rule}
use Rattle.drawing.specs.Framed.{Framed}
use Rattle.drawing.specs.Drawing.{Sheet, frame, accepted, layout}
use Rattle.stretching.specs.Stretching.{lengthen}

pub record Lengthening : Type 0 where
  pub node : ℕ
  pub count : ℕ
  pub work : ℕ

-- with the limits L, on the table P and R under the rule
module _ (L : Limits) (P R : List ℕ) (rule : Rule) where
  unfoldable pub made : Sheet → Lengthening → Outcome Framed Sheet
  made s c = lengthen L P R rule s c.work c.node c.count

  unfoldable pub all_accepted : Sheet → List Lengthening → Bool
  all_accepted s [] = true
  all_accepted s (c ∷ cs) = accepted (made s c).answer && all_accepted (made s c).left cs

  unfoldable pub after : Outcome Framed Sheet → List Lengthening → Outcome Framed Sheet
  after o [] = o
  after o (c ∷ cs) = after (made o.left c) cs

  pub record Alike (o : Outcome Framed Sheet) (calls others : List Lengthening) : Type 0 where
    pub accepted : all_accepted o.left others ≡ true
    -- the same frame, times, x, y and held
    pub same : after o others ≡ after o calls
    -- the frame is that of the sheet, where there is no call too
    pub framed : (after o others).answer ≡ frame (after o others).left.drawing

-- a rearrangement is a permutation of the list
unfoldable pub AnyOrder : Limits → Type 0
AnyOrder L = (P R : List ℕ) (rule : Rule) (old : Sheet) (work : ℕ) → (let o = layout L P R rule old work in
    accepted o.answer ≡ true
    → (calls others : List Lengthening) → all_accepted L P R rule o.left calls ≡ true → Perm calls others
    → Alike L P R rule o calls others)
