-- Hold's outcome from what its parts say.
use mathlib.Core.Bool.{Bool}
use mathlib.Core.List.{List}
use mathlib.Core.Path.{◌≡◌, refl, sym, ◌∙◌}
use Prim.Native.Nat.{ℕ, ◌<◌}
use native.Mathlib.Omega.{arith}
use lib.ListN.{length, set}
use Rattle.laws.specs.Refusals.{settle-none, settle_some}
use Rattle.table.specs.declared.Limits.{Limits}
use Rattle.table.specs.Validity.{Validity}
use Rattle.table.specs.Validity.{Accepted, Refused}
use Rattle.table.specs.Parts.{fault, no_fault}
use Rattle.slopes.specs.declared.Rule.{Rule}
use Rattle.drawing.specs.Framed.{Framed}
use Rattle.drawing.specs.Framed as framed
use Rattle.drawing.specs.Drawing.{Sheet, sheet_of, frame, OnSheet}
use Rattle.drawing.specs.Parts.{Framable, FramesFit, framable}
use Rattle.stretching.specs.Calls.{Examined}
use Rattle.stretching.proofs.CallLaws.{examined}
use Rattle.stretching.specs.Parts.{Examining}
use Rattle.holding.specs.Holding.{entry, marked, hold}

module _ {L : Limits} {P R : List ℕ} (rule : Rule) {s : Sheet} {W X : List ℕ} {r : Validity} (v : ℕ)
    (k : Examining L P R rule s W v X r) where
  module _ (ok : r ≡ Accepted) where
    looked : Examined L P R rule s (length W) v
    looked = examined L P R rule s (length W) v (no_fault k ok)

    -- the entry is there
    pub within : v < length s.held
    within = omega (arith, looked.inside, (k.left ok).held)

    pub still_framable : FramesFit L → Framable s.drawing.x s.drawing.y
    still_framable low = framable low looked.inspected.sound.drawn refl

  module _ (on : Bool) where
    abbrev Holds : Sheet → Framed → Type 0
    Holds t q = OnSheet L P R s W t X q (hold L P R rule s (length W) v on)

    pub held_refused : {a z : ℕ} → r ≡ Refused a z → Holds s (framed.Refused a z)
    unfolding hold
    held_refused e = record {
      says = sym (settle_some framed.Refused s (frame s.drawing) (marked s v on) _ (fault k e));
      spared = k.spared;
      long = k.long;
    }

    pub marked_now : r ≡ Accepted → {H : List ℕ} {q : Framed} → H ≡ set s.held v (entry on) → q ≡ frame s.drawing
        → Holds (sheet_of s.drawing H) q
    unfolding hold
    marked_now ok is fr = record {
      says = (λ i. record { answer = fr i; left = sheet_of s.drawing (is i) })
          ∙ sym (settle-none framed.Refused s (frame s.drawing) (marked s v on) _ (no_fault k ok));
      spared = k.spared;
      long = k.long;
    }
