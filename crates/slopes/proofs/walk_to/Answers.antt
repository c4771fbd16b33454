-- The descent finds the slope, and its level is k less the zeros that end the position, which are fewer than k.
use native.Mathlib.Omega.{arith}
use Rattle.slopes.proofs.Descent.{zeros_below, position_level}
use Rattle.slopes.proofs.walk_to.Goals as goal

pub returns : goal.returns
returns c =
    let few = zeros_below 32 _ _ c.requires.0 c.requires.1 c.requires.2 in
    let level = position_level 32 _ _ c.requires.0 c.requires.1 c.requires.2 in
    (c.descend.ensures, omega arith)

pub overflow_sub-result : goal.overflow_sub-result
overflow_sub-result c = omega (arith, zeros_below 32 _ _ c.requires.0 c.requires.1 c.requires.2)

pub overflow_sub-result-2 : goal.overflow_sub-result-2
overflow_sub-result-2 c = omega (arith, zeros_below 32 _ _ c.requires.0 c.requires.1 c.requires.2)
