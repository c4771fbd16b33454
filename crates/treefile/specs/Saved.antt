-- What the writer of tree files answers: the number of bytes, or a refusal's number and lot.
--
--   saved r == the answer that the result r is, in the documents' numbers
use Rattle.std.specs.Prelude.{ℕ}
use Rattle.std.proofs.Common.{Result, Ok, Err}
use Rattle.faults.specs.declared.Refusal.{Refusal}
use Rattle.faults.specs.Numbers.{number}

pub data Saved : Type 0 where
  Bytes : ℕ → Saved
  Unsaved : ℕ → ℕ → Saved

abbrev pub saved : Result ℕ Refusal → Saved
saved (Ok n) = Bytes n
saved (Err r) = Unsaved (number r.fault) r.lot
