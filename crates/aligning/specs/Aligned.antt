-- What the call for a column answers: the count that brings the lot there, none, or a refusal's number and lot.
--
--   told c    == the answer of a count, or of none
--   aligned r == the answer that the result r is, in the documents' numbers
use Rattle.std.specs.Prelude.{ℕ}
use Rattle.std.proofs.Common.{Result, Ok, Err, Option, Some}
use Rattle.std.proofs.Common as absent
use Rattle.faults.specs.declared.Refusal.{Refusal}
use Rattle.faults.specs.Numbers.{number}

pub data Aligned : Type 0 where
  Count : ℕ → Aligned
  None : Aligned
  Refused : ℕ → ℕ → Aligned

abbrev pub told : Option ℕ → Aligned
told (Some c) = Count c
told absent.None = None

abbrev pub aligned : Result (Option ℕ) Refusal → Aligned
aligned (Ok c) = told c
aligned (Err r) = Refused (number r.fault) r.lot
