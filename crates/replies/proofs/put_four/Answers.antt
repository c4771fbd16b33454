-- Each number is set in turn, and is itself as a signed number of 64 bits.
use mathlib.Core.Path.{◌∙◌}
use native.Mathlib.Omega.{arith}
use Rattle.replies.proofs.Numbers.{all_set_4, alike_4, natural}
use Rattle.replies.proofs.put_four.Goals as goal

pub returns : goal.returns
returns c =
    all_set_4 c.args.reply.now _ _ _ _ c.requires.0
    ∙ alike_4 (natural c.args.a (omega arith)) (natural c.args.b (omega arith)) (natural c.args.c (omega arith))
    (natural c.args.d c.requires.1)
