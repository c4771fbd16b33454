-- `slopes::descend` meets its contract. The loop's invariant is a walk towards the position: the turns that are left
-- are the bits of the position from the one below `bit` down to the one above the lowest 1.
use native.Mathlib.Omega.{arith}
use mathlib.Core.Path.{◌∙◌}
use Rattle.slopes.proofs.Descent.{trailing_ends}
use Rattle.slopes.proofs.Walk.{walk_start, walk_fits, walk_right, walk_left, walk_end}
use Rattle.slopes.proofs.descend.Goals as goal

pub loop-bit-init : goal.loop-bit-init
loop-bit-init c = walk_start c.args.k _ c.args.j c.requires.2 (trailing_ends 32 c.args.j c.requires.1 c.ranges.j.fits)

pub mediant-middle-requires : goal.mediant-middle-requires
mediant-middle-requires c = walk_fits c.loop-bit.invariant c.requires.0

pub loop-bit-preserved-then-turn-eq1 : goal.loop-bit-preserved-then-turn-eq1
loop-bit-preserved-then-turn-eq1 c =
    rw c.mediant-middle.ensures (walk_right c.loop-bit.invariant (omega arith) c.if-turn-eq1.true)

pub loop-bit-preserved : goal.loop-bit-preserved
loop-bit-preserved c =
    rw c.mediant-middle.ensures (walk_left c.loop-bit.invariant (omega arith) c.if-turn-eq1.false)

pub mediant-requires : goal.mediant-requires
mediant-requires c = walk_fits c.loop-bit.invariant c.requires.0

pub returns : goal.returns
returns c = c.mediant.ensures ∙ walk_end c.loop-bit.invariant (omega arith)
