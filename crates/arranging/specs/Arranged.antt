-- What a list of lengthens answers: the frame, or the first refusal's number, its lot and its place in the lists.
--
--   arranged r == the answer that the result r is, in the documents' numbers
use Rattle.std.specs.Prelude.{ℕ}
use Rattle.std.proofs.Common.{Result, Ok, Err}
use Rattle.faults.specs.Numbers.{number}
use Rattle.drawing.specs.declared.Frame as code
use Rattle.arranging.specs.declared.Stopped.{Stopped}

pub data Arranged : Type 0 where
  Frame : ℕ → ℕ → Arranged
  Refused : ℕ → ℕ → ℕ → Arranged

abbrev pub arranged : Result code.Frame Stopped → Arranged
arranged (Ok f) = Frame f.width f.height
arranged (Err s) = Refused (number s.refusal.fault) s.refusal.lot s.place
