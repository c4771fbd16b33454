-- Each number is set in turn, and read back from its bits.
use mathlib.Core.Path.{◌∙◌}
use Rattle.replies.proofs.Numbers.{all_set, alike, back}
use Rattle.replies.proofs.put_three.Goals as goal

pub returns : goal.returns
returns c =
    all_set c.args.reply.now _ _ _ c.requires
    ∙ alike (back _ c.ranges.a.sfits) (back _ c.ranges.b.sfits) (back _ c.ranges.c.sfits)
