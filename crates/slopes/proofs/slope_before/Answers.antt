-- `slopes::slope_before` meets its contract: the steep slope as it is defined; of a balanced one the two neighbours sum
-- to a multiple.
use Rattle.slopes.proofs.NeighbourLaws.{steep-step, fits_across, fits_up, balanced-step}
use Rattle.slopes.proofs.slope_before.Goals as goal

pub part_before-requires : goal.part_before-requires
part_before-requires c =
    let fits = fits_across c.in-Balanced.is c.requires.0 c.requires.1 c.requires.2 c.requires.3
    c.multiple_at-times.ensures.0 in
    (c.multiple_at-times.ensures.1, fits.0, fits.1)

pub part_before-requires-in-Balanced : goal.part_before-requires-in-Balanced
part_before-requires-in-Balanced c =
    let fits = fits_up c.in-Balanced.is c.requires.0 c.requires.1 c.requires.2 c.requires.3
    c.multiple_at-times.ensures.0 in
    (c.multiple_at-times.ensures.1, fits.0, fits.1)

pub returns-in-Steep : goal.returns-in-Steep
returns-in-Steep c = steep-step c.in-Steep.is c.requires.0 c.requires.1 c.steep.ensures

pub returns-in-Balanced : goal.returns-in-Balanced
returns-in-Balanced c =
    balanced-step c.in-Balanced.is c.requires.0 c.requires.1 c.requires.2 c.requires.3 c.multiple_at-times.ensures.0
    c.part_before.ensures c.part_before-in-Balanced.ensures
