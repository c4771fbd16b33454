-- Arm by arm, the three numbers of a frame or a refusal.
use mathlib.Core.Path.{sym, ap, ◌∙◌}
use Rattle.drawing.specs.Framed.{framed}
use Rattle.replies.specs.Replies.{framed_reply}
use Rattle.replies.proofs.put_framed.Goals as goal

pub returns-in-Ok : goal.returns-in-Ok
unfolding framed_reply
returns-in-Ok c = c.put_numbers.ensures ∙ ap (λ a. framed_reply (framed a)) (sym c.in-Ok.is)

pub returns-in-Err : goal.returns-in-Err
unfolding framed_reply
returns-in-Err c = c.put_refusal.ensures ∙ ap (λ a. framed_reply (framed a)) (sym c.in-Err.is)
