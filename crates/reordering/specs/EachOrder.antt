-- A list of lengthens made in one call (document 02, request 105) may be given in any order too.
--
--   lengthens_of work lots counts == the single calls of the two lists
use mathlib.Core.List.{List, zip_with}
use Rattle.std.specs.Prelude.{ℕ}
use Rattle.reordering.specs.Reordering.{Lengthening}

unfoldable pub lengthens_of : ℕ → List ℕ → List ℕ → List Lengthening
lengthens_of work lots counts = zip_with (λ v c. record { node = v; count = c; work = work }) lots counts
