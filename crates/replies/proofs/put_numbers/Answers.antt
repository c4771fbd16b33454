-- Numbers of 32 bits are themselves as signed numbers of 64.
use native.Mathlib.Omega.{arith}
use mathlib.Core.Path.{◌∙◌}
use Rattle.replies.proofs.Numbers.{alike, natural}
use Rattle.replies.proofs.put_numbers.Goals as goal

pub returns : goal.returns
returns c =
    c.put_three.ensures
    ∙ alike (natural c.args.a (omega arith)) (natural c.args.b (omega arith)) (natural c.args.c (omega arith))
