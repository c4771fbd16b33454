-- What the parts of the call need and leave.
--
--   Listed L .. r    == the answer r is refusals 1 to 8, with 19 directly after 3; if none, the sheet is opened
use Rattle.std.specs.Prelude.{List, ◌≡◌, length, ℕ}
use Rattle.table.specs.Acceptance.{validity}
use Rattle.table.specs.declared.Limits.{Limits}
use Rattle.table.specs.Validity.{Validity}
use Rattle.table.specs.Validity.{Accepted}
use Rattle.table.specs.Parts.{Spared}
use Rattle.slopes.specs.declared.Rule.{Rule}
use Rattle.drawing.specs.Drawing.{Sheet}
use Rattle.stretching.specs.Parts.{Opened}
use Rattle.arranging.specs.Arranging.{lists_fault, each_fault}

pub record Listed (L : Limits) (P R : List ℕ) (rule : Rule) (s : Sheet) (W lots counts X : List ℕ) (r : Validity)
    : Type 0 where
  pub answer : r ≡ validity (each_fault L P R rule s (length W) lots counts)
  pub spared : Spared (lists_fault L P R s (length W) lots counts) W X
  pub long : length X ≡ length W
  pub same : r ≡ Accepted → length counts ≡ length lots
  pub opened : r ≡ Accepted → Opened L P R rule s X
