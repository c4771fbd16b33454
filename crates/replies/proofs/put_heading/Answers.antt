-- Arm by arm, the three numbers of a direction or a refusal.
use Rattle.std.proofs.Common.{sym, ap, ◌∙◌}
use Rattle.direction.specs.Heading.{heading}
use Rattle.replies.specs.Replies.{heading_reply}
use Rattle.replies.proofs.put_heading.Goals as goal

pub returns-in-Ok : goal.returns-in-Ok
unfolding heading_reply
returns-in-Ok c = c.put_along.ensures ∙ ap (λ a. heading_reply (heading a)) (sym c.in-Ok.is)

pub returns-in-Err : goal.returns-in-Err
unfolding heading_reply
returns-in-Err c = c.put_refusal.ensures ∙ ap (λ a. heading_reply (heading a)) (sym c.in-Err.is)
