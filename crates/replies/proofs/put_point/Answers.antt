-- Each position is set in turn.
use Rattle.replies.proofs.Numbers.{both-set}
use Rattle.replies.proofs.put_point.Goals as goal

pub returns : goal.returns
returns c = both-set c.args.point.now _ _ c.requires
