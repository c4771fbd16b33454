-- At the cabinet's limits.
use Rattle.drawing.specs.Parts.{frames_fit}
use Rattle.holding.proofs.hold.Goals as goal

pub returns : goal.returns
returns c = rw c.limits.ensures at c.hold_within.ensures

pub hold_within-requires : goal.hold_within-requires
hold_within-requires c = rw c.limits.ensures (frames_fit c.args.cabinet)
