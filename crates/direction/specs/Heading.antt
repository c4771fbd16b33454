-- What the call for a direction answers: the direction's two parts, or a refusal's number and lot.
--
--   headed d  == the answer of a direction
--   heading r == the answer that the result r is, in the documents' numbers
use Rattle.std.specs.Prelude.{ℕ, ℤ}
use Rattle.std.proofs.Common.{Result, Ok, Err}
use Rattle.faults.specs.declared.Refusal.{Refusal}
use Rattle.faults.specs.Numbers.{number}
use Rattle.direction.specs.declared.Along as code

pub data Heading : Type 0 where
  Along : ℤ → ℤ → Heading
  Refused : ℕ → ℕ → Heading

abbrev pub headed : code.Along → Heading
headed d = Along d.across d.up

abbrev pub heading : Result code.Along Refusal → Heading
heading (Ok d) = headed d
heading (Err r) = Refused (number r.fault) r.lot
