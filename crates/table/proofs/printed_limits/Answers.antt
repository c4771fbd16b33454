-- The check's limits, but for the last number.
use mathlib.Core.Path.{refl}
use Rattle.table.proofs.printed_limits.Goals as goal

pub returns : goal.returns
returns c = rw c.checked_limits-limits.ensures refl
