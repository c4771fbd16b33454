-- At the cabinet's limits.
use Rattle.drawing.specs.Parts.{frames_fit}
use Rattle.stretching.proofs.shorten.Goals as goal

pub returns : goal.returns
returns c = rw c.limits.ensures at c.shorten_within.ensures

pub shorten_within-requires : goal.shorten_within-requires
shorten_within-requires c = rw c.limits.ensures (frames_fit c.args.cabinet)
