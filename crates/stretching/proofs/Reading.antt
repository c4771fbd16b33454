-- What is said of a drawing holds of the one in the same lists, read another way.
use Rattle.std.proofs.Common.{◌≡◌, ℕ, List, subst}
use Rattle.table.specs.declared.Limits.{Limits}
use Rattle.table.specs.Validity.{Validity}
use Rattle.slopes.specs.declared.Rule.{Rule}
use Rattle.drawing.specs.Drawing.{Drawing, sheet_of}
use Rattle.inspecting.specs.Parts.{Inspecting}
use Rattle.stretching.specs.Parts.{Unheld}

module _ (rule : Rule) {L : Limits} {P R : List ℕ} {d e : Drawing} {H W X : List ℕ} {r : Validity} (is : d ≡ e) where
  pub inspecting_as : Inspecting L P R rule (sheet_of d H) W X r → Inspecting L P R rule (sheet_of e H) W X r
  inspecting_as p = subst (λ (d : Drawing). Inspecting L P R rule (sheet_of d H) W X r) is p

  pub unheld_as : (v : ℕ) → Unheld L P R rule (sheet_of d H) W v X r → Unheld L P R rule (sheet_of e H) W v X r
  unheld_as v p = subst (λ (d : Drawing). Unheld L P R rule (sheet_of d H) W v X r) is p
