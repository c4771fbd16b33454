-- Refusals 1 to 10, then the count.
use Rattle.std.proofs.Common.{refl}
use Rattle.aligning.proofs.Counting.{ready, refused, answered}
use Rattle.aligning.proofs.column_within.Goals as goal

pub count_to-requires : goal.count_to-requires
count_to-requires c = (ready _ _ c.in_default.ensures refl).0

pub returns-in-Err : goal.returns-in-Err
returns-in-Err c = refused _ _ c.in-Err.ensures _ refl

pub returns : goal.returns
returns c = answered _ _ c.in_default.ensures _ _ c.count_to.ensures
