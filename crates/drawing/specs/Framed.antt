-- What a call that draws answers: the frame's width and height, or a refusal's number and lot.
--
--   shown f  == the answer of a frame
--   framed r == the answer that the result r is, in the documents' numbers
use Rattle.std.specs.Prelude.{ℕ}
use Rattle.std.proofs.Common.{Result, Ok, Err}
use Rattle.faults.specs.declared.Refusal.{Refusal}
use Rattle.faults.specs.Numbers.{number}
use Rattle.drawing.specs.declared.Frame as code

pub data Framed : Type 0 where
  Frame : ℕ → ℕ → Framed
  Refused : ℕ → ℕ → Framed

abbrev pub shown : code.Frame → Framed
shown f = Frame f.width f.height

abbrev pub framed : Result code.Frame Refusal → Framed
framed (Ok f) = shown f
framed (Err r) = Refused (number r.fault) r.lot
