-- A search that may find nothing.
--
--   FirstBelow f n r == r is the least number below n that passes f, or none where none does
use Rattle.std.specs.Prelude.{Bool, ◌≡◌, ℕ, ◌<◌}
use Rattle.std.proofs.Common.{Option, Some, None}
use Rattle.laws.specs.Search.{least}

abbrev pub FirstBelow : (ℕ → Bool) → ℕ → Option ℕ → Type 0
FirstBelow f n (Some k) = (k < n) × (k ≡ least f n)
FirstBelow f n None = least f n ≡ n
