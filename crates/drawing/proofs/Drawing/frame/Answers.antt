-- One more than each coordinate's largest.
use mathlib.Core.Path.{ap₂}
use Prim.Native.Nat.{◌+◌}
use Rattle.drawing.specs.Framed.{Frame}
use Rattle.drawing.specs.Drawing.{frame}
use Rattle.drawing.proofs.Drawing.frame.Goals as goal

pub returns : goal.returns
unfolding frame
returns c =
    ap₂ (λ width height. Frame (width + 1) (height + 1)) c.largest_of.ensures c.largest_of-2.ensures
