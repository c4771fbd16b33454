-- The whole list is zeroed.
use Rattle.drawing.proofs.Settling.{freed}
use Rattle.drawing.proofs.free_all.Goals as goal

pub returns : goal.returns
returns c = freed c.clear.ensures.0 c.clear.ensures.1
