-- At the cabinet's limits.
use Rattle.drawing.specs.Parts.{frames_fit}
use Rattle.arranging.proofs.lengthen_each.Goals as goal

pub returns : goal.returns
returns c = rw c.limits.ensures at c.lengthen_each_within.ensures

pub lengthen_each_within-requires : goal.lengthen_each_within-requires
lengthen_each_within-requires c = rw c.limits.ensures (frames_fit c.args.cabinet)
