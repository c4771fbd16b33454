-- Whether a table is one: accepted, or refused with a number and a node.
--
--   valid r == the answer that the result r is, in the documents' numbers
use Rattle.std.specs.Prelude.{◌≡◌, ℕ, ⊤}
use Rattle.std.proofs.Common.{Result, Ok, Err, ap, ◌∙◌}
use Rattle.faults.specs.declared.Fault.{Fault}
use Rattle.faults.specs.declared.Refusal.{Refusal}
use Rattle.faults.specs.Numbers.{number}

pub data Validity : Type 0 where
  Accepted : Validity
  Refused : ℕ → ℕ → Validity

abbrev pub valid : Result ⊤ Refusal → Validity
valid (Ok _) = Accepted
valid (Err r) = Refused (number r.fault) r.lot

-- a refusal's number and node are those that it is made of
pub told : {r : Refusal} {f : Fault} {v : ℕ} {a : Validity} → r ≡ record { fault = f; lot = v } → Refused (number f) v ≡ a
    → Refused (number r.fault) r.lot ≡ a
told e q = ap (λ (s : Refusal). Refused (number s.fault) s.lot) e ∙ q
