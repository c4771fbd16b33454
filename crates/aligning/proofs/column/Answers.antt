-- At the cabinet's limits.
use Rattle.aligning.proofs.column.Goals as goal

pub returns : goal.returns
returns c = rw c.limits-limits.ensures at c.column_within.ensures
