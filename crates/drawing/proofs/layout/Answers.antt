-- At the cabinet's limits.
use Rattle.drawing.specs.FreshLaws.{cabinet_roomy}
use Rattle.drawing.specs.Parts.{frames_fit}
use Rattle.drawing.proofs.layout.Goals as goal

pub returns : goal.returns
returns c = rw c.limits.ensures at c.layout_within.ensures

pub layout_within-requires : goal.layout_within-requires
layout_within-requires c = rw c.limits.ensures (cabinet_roomy c.args.cabinet, frames_fit c.args.cabinet)
