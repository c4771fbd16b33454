-- The count that brings a lot to a column (document 02, request 110).
--
--   Brings L .. v column c == lengthen of v by c is accepted, and v's x is the column then
--   Says L .. v column r   == r is what the call answers: the refusals are lengthen's up to 10
--   Aligns L .. W X .. r   == the call's contract; W and X are the work list at entry and at exit
use Rattle.std.specs.Prelude.{true, List, ◌≡◌, ℕ, length, get_or}
use Rattle.std.proofs.Math.Option.{none, some}
use Rattle.table.specs.declared.Limits.{Limits}
use Rattle.table.specs.Table.{shape_fault, Called}
use Rattle.slopes.specs.declared.Rule.{Rule}
use Rattle.drawing.specs.Drawing as drawing
use Rattle.drawing.specs.Drawing.{Sheet, lengths_fit}
use Rattle.stretching.specs.Stretching.{lot_fault, lengthen}
use Rattle.aligning.specs.Aligned.{Aligned}
use Rattle.aligning.specs.Aligned.{Count, None, Refused}

module _ (L : Limits) (P R : List ℕ) (rule : Rule) (s : Sheet) (work v column : ℕ) where
  pub record Brings (c : ℕ) : Type 0 where
    pub accepted : drawing.accepted (lengthen L P R rule s work v c).answer ≡ true
    pub there : get_or (lengthen L P R rule s work v c).left.drawing.x v 0 ≡ column

  unfoldable pub Says : Aligned → Type 0
  Says (Count c) = Brings c
  Says None = (lot_fault L P R rule s work v ≡ none) × ((c : ℕ) → ¬ Brings c)
  Says (Refused k z) = lot_fault L P R rule s work v ≡ some (record { number = k; node = z })

abbrev pub Aligns : Limits → List ℕ → List ℕ → Rule → Sheet → List ℕ → List ℕ → ℕ → ℕ → Aligned → Type 0
Aligns L P R rule s W X v column r =
    Called (shape_fault L P R (lengths_fit P s) (length W)) W X (Says L P R rule s (length W) v column r)
