-- What the functions within the check find, read as its answer.
--
--   found f   == every pair has a direction where f is none, else f is the first pair that has none
--   verdict r == the answer that the result r is; a refusal in the documents' numbers
use Rattle.std.specs.Prelude.{ℕ}
use Rattle.std.proofs.Common.{Result, Ok, Err, Option, Some, None}
use Rattle.faults.specs.declared.Refusal.{Refusal}
use Rattle.faults.specs.Numbers.{number}
use Rattle.monotone.specs.declared.Verdict.{Verdict}
use Rattle.monotone.specs.declared.Verdict.TheVariants.{Monotone, Turns, Refused}

abbrev pub found : Option (ℕ × ℕ) → Verdict
found None = Monotone
found (Some (u, v)) = Turns u v

abbrev pub verdict : Result (Option (ℕ × ℕ)) Refusal → Verdict
verdict (Ok f) = found f
verdict (Err r) = Refused (number r.fault) r.lot
