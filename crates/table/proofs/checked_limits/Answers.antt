-- Number by number.
use mathlib.Core.Path.{refl}
use Rattle.table.proofs.checked_limits.Goals as goal

pub returns : goal.returns
returns c = refl
