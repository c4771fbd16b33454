-- Across 1, up j.
use mathlib.Core.Path.{refl}
use Rattle.slopes.proofs.steep.Goals as goal

pub returns : goal.returns
returns c = refl
