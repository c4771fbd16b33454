-- What a call that fills lists answers: the number of nodes, or a refusal's number and node.
--
--   counted r == the answer that the result r is, in the documents' numbers
use Rattle.std.specs.Prelude.{ℕ}
use Rattle.std.proofs.Common.{Result, Ok, Err}
use Rattle.faults.specs.declared.Refusal.{Refusal}
use Rattle.faults.specs.Numbers.{number}

pub data Counted : Type 0 where
  Nodes : ℕ → Counted
  Refused : ℕ → ℕ → Counted

abbrev pub counted : Result ℕ Refusal → Counted
counted (Ok n) = Nodes n
counted (Err r) = Refused (number r.fault) r.lot
