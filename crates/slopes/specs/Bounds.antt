-- Document 01's bounds of a fresh sheet.
--
--   across_bound rule n, up_bound rule n == what the parts of the slopes of n nodes sum to at most
use Rattle.std.specs.Prelude.{ℕ, ◌-◌, ◌*◌, ◌/◌, ◌^◌}
use Rattle.slopes.specs.declared.Rule.{Rule}
use Rattle.slopes.specs.declared.Rule.TheVariants.{Steep, Balanced}
use Rattle.slopes.specs.Slopes.{levels_for}

abbrev pub across_bound : Rule → ℕ → ℕ
across_bound Steep n = n - 1
across_bound Balanced n = (3 ^ levels_for n - 1) / 2

abbrev pub up_bound : Rule → ℕ → ℕ
up_bound Steep n = n * (n - 1) / 2
up_bound Balanced n = (3 ^ levels_for n - 1) / 2
