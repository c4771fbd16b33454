-- At the cabinet's limits.
use Rattle.drawing.specs.Parts.{frames_fit}
use Rattle.stretching.proofs.lengthen.Goals as goal

pub returns : goal.returns
returns c = rw c.limits.ensures at c.lengthen_within.ensures

pub lengthen_within-requires : goal.lengthen_within-requires
lengthen_within-requires c = rw c.limits.ensures (frames_fit c.args.cabinet)
