-- A sheet that refusals 1 to 8 accept is opened, and so is what lengthen leaves of it.
--
--   opened, opened_after   == a sheet that 1 to 8 accept is so opened, and so is what lengthen leaves of it
use Rattle.std.specs.Prelude.{List, ◌≡◌, refl, ℕ, length}
use Rattle.std.proofs.Common.{ap, ◌∙◌}
use Rattle.std.proofs.Math.Path.{subst⁻¹}
use Rattle.laws.specs.Search.{Outcome}
use Rattle.table.specs.declared.Limits.{Limits}
use Rattle.table.specs.Validity.{Validity}
use Rattle.table.specs.Validity.{Accepted, Refused}
use Rattle.table.specs.Parts.{no_fault}
use Rattle.slopes.specs.declared.Rule.{Rule}
use Rattle.drawing.specs.CallLaws.{Inspected, inspected, inspected_again}
use Rattle.drawing.specs.Framed.{Framed}
use Rattle.drawing.specs.Drawing.{Sheet}
use Rattle.drawing.specs.SheetLaws.{Sound}
use Rattle.inspecting.specs.Parts.{Inspecting}
use Rattle.stretching.proofs.CallLaws.{lengthen_sound}
use Rattle.stretching.specs.Stretching.{lengthen}
use Rattle.stretching.specs.Parts.{Opened, framing}

pub opened : {L : Limits} {P R : List ℕ} {rule : Rule} {s : Sheet} {W X : List ℕ} {r : Validity}
    → Inspecting L P R rule s W X r → r ≡ Accepted → Opened L P R rule s X
opened {L} {P} {R} {rule} {s} {W} p ok = record {
  inspected = subst⁻¹ (Inspected L P R rule s) p.long (inspected L P R rule s (length W) (no_fault p ok));
  numbered = (p.left ok).sized.numbered;
}

pub opened_after : {L : Limits} {P R : List ℕ} {rule : Rule} {s : Sheet} {W : List ℕ} → Opened L P R rule s W
    → (v c : ℕ) (a : Validity) (t : Sheet) → framing a t ≡ lengthen L P R rule s (length W) v c → Opened L P R rule t W
unfolding framing
opened_after {L} {P} {R} {rule} {s} {W} o v c a t did = record {
  inspected = inspected L P R rule t (length W) (inspected_again o.inspected
      (subst⁻¹ (Sound L.place P R rule) (left a ∙ ap (λ (q : Outcome Framed Sheet). q.left) did)
      (lengthen_sound L P R rule s (length W) v c o.inspected.sound)));
  numbered = o.numbered;
}
  where
    left : (a : Validity) → t ≡ (framing a t).left
    left Accepted = refl
    left (Refused k z) = refl
