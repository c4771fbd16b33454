-- What the parts of layout need and leave.
--
--   Framable X Y           == the frame of the places X and Y is two numbers of 32 bits
--   FramesFit L            == so is every frame within the limits L
--   frames_fit c           == so it is of each cabinet
--   Sized P R s W          == the lists of s are as long as the table, which is numbered
--   Blank P R rule s W     == and a fresh drawing has places below 2^32
--   SizedSheet P R s W     == a Sized drawing, and held as long
--   Prepared L .. r        == refusals 1 to 7 of a call on the sheet s; if none, s is a SizedSheet
use Rattle.std.specs.Prelude.{List, ◌≡◌, ℕ, ◌+◌, ◌^◌, ◌<◌, length}
use Rattle.std.proofs.Math.Path.{subst⁻¹}
use Rattle.std.proofs.Common.{arith}
use Rattle.table.specs.declared.Cabinet.{Cabinet}
use Rattle.table.specs.declared.Cabinet.TheVariants.{Large, Small}
use Rattle.table.specs.declared.Limits.{Limits}
use Rattle.table.specs.Validity.{Validity}
use Rattle.table.specs.Numbering.{NumberedTree}
use Rattle.table.specs.Parts.{Tested}
use Rattle.table.specs.Table.{table_fault, limits_of}
use Rattle.slopes.specs.declared.Rule.{Rule}
use Rattle.slopes.specs.Bounds.{across_bound, up_bound}
use Rattle.drawing.specs.Drawing.{Drawing, Sheet, lengths_fit, largest}
use Rattle.drawing.specs.DrawingLaws.{Drawn, largest-within}

abbrev pub Framable : List ℕ → List ℕ → Type 0
Framable X Y = (largest X + 1 < 2 ^ 32) × (largest Y + 1 < 2 ^ 32)

abbrev pub FramesFit : Limits → Type 0
FramesFit L = L.place + 1 < 2 ^ 32

pub frames_fit : (c : Cabinet) → FramesFit (limits_of c)
frames_fit Large = omega arith
frames_fit Small = omega arith

pub record Sized (P R : List ℕ) (s : Drawing) (W : List ℕ) : Type 0 where
  pub numbered : NumberedTree P R W
  pub times : length s.times ≡ length P
  pub x : length s.x ≡ length P
  pub y : length s.y ≡ length P

pub record Blank (P R : List ℕ) (rule : Rule) (s : Drawing) (W : List ℕ) : Type 0 where
  pub sized : Sized P R s W
  pub wide : across_bound rule (length P) < 2 ^ 32
  pub tall : up_bound rule (length P) < 2 ^ 32

pub record SizedSheet (P R : List ℕ) (s : Sheet) (W : List ℕ) : Type 0 where
  pub sized : Sized P R s.drawing W
  pub held : length s.held ≡ length P

abbrev pub Prepared : Limits → List ℕ → List ℕ → Sheet → List ℕ → List ℕ → Validity → Type 0
Prepared L P R s W X =
    Tested L P R (lengths_fit P s) W X (table_fault L P R (lengths_fit P s) (length W)) (SizedSheet P R s X)

pub framable : {limit : ℕ} {P R : List ℕ} {rule : Rule} {s t : Drawing} → limit + 1 < 2 ^ 32 → Drawn limit P R rule s
    → t ≡ s → Framable t.x t.y
framable low d is =
    subst⁻¹ (λ (u : Drawing). Framable u.x u.y) is
    (omega (arith, largest-within d.x), omega (arith, largest-within d.y))
